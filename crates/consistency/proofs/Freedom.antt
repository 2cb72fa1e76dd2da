-- Where no pair races, every read is the plain file's, and so is what is published in the end. A process with an unpublished number has a
-- write that no row publishes yet (`waiting`, in any run). Where no pair races, no other process is unpublished when a process writes
-- (`alone`), and the process of the last write, or one that refreshes after its publishing, holds the plain byte (`holds`).
use Rattle.std.proofs.Common.{ℕ, zero, suc, ◌<◌, arith, ◌≡◌, refl, sym, ap, ◌∙◌, ◌⊎◌, inl, inr, Bool, true, false, cond, List, [], ◌∷◌}
use native.Mathlib.Decide.{dec_lt, ℕ_discrete}
use mathlib.Core.Bool.{false≢true}
use Rattle.consistency.proofs.Byte.{Byte, fresh_byte, write_byte, step_byte}
use Rattle.happens_before.specs.Order.{HB, one, more}
use Rattle.rows.proofs.Bools.{not_passed}
use Rattle.happens_before.proofs.Clocks.{HB-less, HB-trans}
use Rattle.rows.specs.Lists.{In}
use Rattle.consistency.proofs.Core.{Trace, run, plain, Ok, none, next, Published, Refreshed, Chain, Synchronized, Free, publish_all}
use Rattle.consistency.proofs.Holding.{AllPublished, Holds, holds-view, write_holds, shared-holds, shared-as_published, all-publish, shared-left, write_own, write_other}

-- Row c stands in an order before row o.
abbrev pub Before : ℕ → ℕ → List ℕ → Type 0
Before c o [] = ⊥
Before c o (y ∷ h) = ((o ≡ y) × In c h) ⊎ Before c o h

-- A row that stands before another is not the latest row.
before-latest : (c o y : ℕ) (h : List ℕ) → Before c o (y ∷ h) → In c h
before-latest c o y [] (inl b) = b.1
before-latest c o y [] (inr b) = b
before-latest c o y (z ∷ h) (inl b) = b.1
before-latest c o y (z ∷ h) (inr b) = inr (before-latest c o z h b)

module _ (t : Trace) where
  -- ---- Allowed orders

  -- The rows before the next one are an allowed order.
  rest : {y : ℕ} {h : List ℕ} → Ok t (y ∷ h) → Ok t h
  rest (next b n e ok) = ok

  -- The next row does not stand yet.
  fresh : {y : ℕ} {h : List ℕ} → Ok t (y ∷ h) → In y h → ⊥
  fresh (next b n e ok) = n

  -- The next row is one of the trace.
  next_row_lem : {y : ℕ} {h : List ℕ} → Ok t (y ∷ h) → y < t.rows
  next_row_lem (next b n e ok) = b

  -- Every row that stands is one of the trace.
  pub row-of : {h : List ℕ} → Ok t h → (x : ℕ) → In x h → x < t.rows
  row-of none x m = absurd m
  row-of (next b n e ok) x (inl q) = rw q b
  row-of (next b n e ok) x (inr m) = row-of ok x m

  -- A direct predecessor of a row that stands stands too.
  edge-closed : {h : List ℕ} → Ok t h → (i j : ℕ) → t.edge i j ≡ true → In j h → In i h
  edge-closed none i j e m = absurd m
  edge-closed (next b n es ok) i j e (inl q) = inr (es i (rw q at e))
  edge-closed (next b n es ok) i j e (inr m) = inr (edge-closed ok i j e m)

  -- Whatever happens before a row that stands stands too.
  pub closed : {h : List ℕ} → Ok t h → {i j : ℕ} → HB t.edge i j → In j h → In i h
  closed ok (one {i} {j} e) m = edge-closed ok i j e m
  closed ok (more {k = k} {j = j} b e) m = closed ok b (edge-closed ok k j e m)

  -- Whatever happens before the next row stands already.
  earlier : {y : ℕ} {h : List ℕ} → Ok t (y ∷ h) → {i : ℕ} → HB t.edge i y → In i h
  earlier {y} {h} ok {i} b = go (closed ok b (inl refl))
    where
      go : (i ≡ y) ⊎ In i h → In i h
      go (inl q) = let l = HB-less t.forward b in absurd (omega arith)
      go (inr m) = m

  -- Whatever happens before a row that stands stands before it.
  pub stands : {h : List ℕ} → Ok t h → {c o : ℕ} → HB t.edge c o → In o h → Before c o h
  stands none b m = absurd m
  stands (next l n e ok) b (inl q) = inl (q, earlier (next l n e ok) (rw q at b))
  stands (next l n e ok) b (inr m) = inr (stands ok b m)

  -- ---- Chains

  -- A row happens before whatever the row that publishes it happens before.
  publisher_before : (x c y : ℕ) → Published t x c → y < t.rows → HB t.edge c y → HB t.edge x y
  publisher_before x c y (inl p) l b = rw p.1 at b
  publisher_before x c y (inr p) l b =
      let k = HB-less t.forward b in
      HB-trans (one (t.program x c p.1 (omega arith) (sym p.3))) b

  -- What happens before a row that refreshes for y happens before y.
  refresher_after : (c o y : ℕ) → Refreshed t y o → y < t.rows → HB t.edge c o → HB t.edge c y
  refresher_after c o y (inl r) l b = rw r.1 at b
  refresher_after c o y (inr r) l b = more b (t.program o y r.1 l r.3)

  -- Nothing that stands publishes the next row.
  unpublished-yet : {y : ℕ} {h : List ℕ} → Ok t (y ∷ h) → (c : ℕ) → Published t y c → In c h → ⊥
  unpublished-yet ok c (inl p) m = fresh ok (rw p.1 at m)
  unpublished-yet {y} ok c (inr p) m = fresh ok (edge-closed (rest ok) y c (t.program y c p.1 (row-of (rest ok) c m) (sym p.3)) m)

  -- ---- Who is unpublished

  -- Process q waits to publish: the number v in its view is that of a write of its own that stands, and no row that stands publishes it.
  record Waits (h : List ℕ) (q v : ℕ) : Type 0 where
    row : ℕ
    inside : In row h
    write : t.writes row ≡ true
    own : t.process row ≡ q
    number : v ≡ suc row
    unshared : (c : ℕ) → Published t row c → In c h → ⊥

  -- Who writes next waits, unless the row publishes.
  waits-new : {y : ℕ} {h : List ℕ} → Ok t (y ∷ h) → (q v : ℕ) → t.writes y ≡ true → t.process y ≡ q → v ≡ suc y → t.publishes y ≡ false →
      Waits (y ∷ h) q v
  waits-new {y} {h} ok q v w p e b = record { row = y; inside = inl refl; write = w; own = p; number = e; unshared = go }
    where
      go : (c : ℕ) → Published t y c → In c (y ∷ h) → ⊥
      go c (inl s) (inl m) = false≢true (sym b ∙ t.write_publishes s.0 y w)
      go c (inr s) (inl m) = let l = s.1 in omega arith
      go c s (inr m) = unpublished-yet ok c s m

  -- Who waits goes on waiting, unless the next row is its own and publishes.
  waits-on : {y : ℕ} {h : List ℕ} → Ok t (y ∷ h) → (q v u : ℕ) → (q ≡ t.process y → t.publishes y ≡ false) → v ≡ u → Waits h q u →
      Waits (y ∷ h) q v
  waits-on {y} {h} ok q v u b e w =
      record { row = w.row; inside = inr w.inside; write = w.write; own = w.own; number = e ∙ w.number; unshared = go }
    where
      go : (c : ℕ) → Published t w.row c → In c (y ∷ h) → ⊥
      go c s (inr m) = w.unshared c s m
      go c (inl s) (inl m) = fresh ok (rw (sym s.1 ∙ m) at w.inside)
      go c (inr s) (inl m) = false≢true (sym (b (sym w.own ∙ sym s.3 ∙ ap t.process m)) ∙ ap t.publishes (sym m) ∙ s.2)

  -- Who is unpublished after the next row waits, where that was so before.
  waiting-step : {y : ℕ} {h : List ℕ} → Ok t (y ∷ h) → (s : Byte) → ((q : ℕ) → s.unpublished q ≡ true → Waits h q (s.view q)) →
      (w b r : Bool) → t.writes y ≡ w → t.publishes y ≡ b → (q : ℕ) → (step_byte w b r (t.process y) (suc y) s).unpublished q ≡ true →
      Waits (y ∷ h) q ((step_byte w b r (t.process y) (suc y) s).view q)
  waiting-step {y} ok s before false b r w pb q u =
      let l = shared-left (t.process y) q s b r u in
      waits-on ok q _ (s.view q) (λ e. pb ∙ l.2 e) l.1 (before q l.0)
  waiting-step {y} {h} ok s before true b r w pb q u = go (ℕ_discrete q (t.process y)) (shared-left (t.process y) q written b r u)
    where
      written : Byte
      written = write_byte (t.process y) (suc y) s

      after : Byte
      after = step_byte true b r (t.process y) (suc y) s

      go : Dec (q ≡ t.process y) →
          (written.unpublished q ≡ true) × (after.view q ≡ written.view q) × (q ≡ t.process y → b ≡ false) → Waits (y ∷ h) q (after.view q)
      go (yes e) l = waits-new ok q _ w (sym e) (l.1 ∙ write_own (suc y) (t.process y) q s e) (pb ∙ l.2 e)
      go (no o) l =
          let k = write_other (suc y) (t.process y) q s o l.0 in
          waits-on ok q _ (s.view q) (λ e. absurd (o e)) (l.1 ∙ k.1) (before q k.0)

  -- Who is unpublished waits.
  waiting : {h : List ℕ} → Ok t h → (q : ℕ) → (run t h).unpublished q ≡ true → Waits h q ((run t h).view q)
  unfolding run fresh_byte
  waiting none q u = absurd (false≢true u)
  waiting (next {y} {h} b n e ok) q u =
      waiting-step (next b n e ok) (run t h) (waiting ok) (t.writes y) (t.publishes y) (t.refreshes y) refl refl q u

  -- ---- Who holds the last write

  -- The last write stands.
  last-stands : (h : List ℕ) (x : ℕ) → plain t h ≡ suc x → In x h × (t.writes x ≡ true)
  unfolding plain
  last-stands [] x e = absurd (omega arith)
  last-stands (y ∷ h) x e = go (t.writes y) refl e (last-stands h x)
    where
      go : (w : Bool) → t.writes y ≡ w → cond w (suc y) (plain t h) ≡ suc x → (plain t h ≡ suc x → In x h × (t.writes x ≡ true)) →
          In x (y ∷ h) × (t.writes x ≡ true)
      go true w e older = let q : x ≡ y = omega arith in (inl q, ap t.writes q ∙ w)
      go false w e older = let l = older e in (inr l.0, l.1)

  -- Process q has the write x: it is q's, or q refreshes after a row that publishes it.
  abbrev Has : List ℕ → ℕ → ℕ → Type 0
  Has h q x =
      (t.process x ≡ q) ⊎ ((c : ℕ) × (o : ℕ) × Published t x c × Before c o h × (t.refreshes o ≡ true) × (t.process o ≡ q))

  -- Process q sees the plain byte n: nothing is written, or q has the last write.
  abbrev Sees : List ℕ → ℕ → ℕ → Type 0
  Sees h q n = (n ≡ 0) ⊎ ((x : ℕ) × (n ≡ suc x) × Has h q x)

  -- Somebody sees the plain byte: the last writer, and anybody where nothing is written.
  someone_sees : (h : List ℕ) (n : ℕ) → (q : ℕ) × Sees h q n
  someone_sees h zero = (0, inl refl)
  someone_sees h (suc x) = (t.process x, inr (x, refl, inl refl))

  -- A row that does not write leaves the plain byte as it is.
  plain-kept : (y : ℕ) (h : List ℕ) → t.writes y ≡ false → plain t (y ∷ h) ≡ plain t h
  unfolding plain
  plain-kept y h e = rw e

  -- What is held stays so after a row that does not write.
  row-holds : (n y q : ℕ) (s : Byte) → Holds n q s → Holds n q (step_byte false (t.publishes y) (t.refreshes y) (t.process y) (suc y) s)
  row-holds n y q s = shared-holds n (t.process y) q s (t.publishes y) (t.refreshes y)

  -- Where a row that stands publishes the last write, all is marked published.
  as_published : {h : List ℕ} → Ok t h → (x c : ℕ) → plain t h ≡ suc x → Published t x c → In c h → Holds (plain t h) (t.process x) (run t h) →
      AllPublished (plain t h) (run t h)
  as_published ok x c e p m (inr k) = k.0
  as_published ok x c e p m (inl k) =
      let w = waiting ok (t.process x) k.0 in
      let q : x ≡ w.row = omega (arith, w.number, k.1) in
      absurd (w.unshared c (rw q at p) m)

module _ (t : Trace) (free : Free t) where
  -- ---- Where no pair races

  -- A row that stands and writes has a chain to the next row, where that one touches the byte and is another process's.
  chain_to : {y : ℕ} {h : List ℕ} → Ok t (y ∷ h) → (x : ℕ) → In x h → t.writes x ≡ true → (t.process x ≡ t.process y → ⊥) →
      (t.writes y ≡ true) ⊎ (t.reads y ≡ true) → Chain t x y
  chain_to {y} {h} ok x m w o k = go (dec_lt x y) (dec_lt y x)
    where
      forth : Synchronized t x y → Chain t x y
      forth (inl s) = s.1
      forth (inr s) = absurd (false≢true (sym (t.one-kind x s.0) ∙ w))

      back : Synchronized t y x → HB t.edge y x
      back (inl s) =
          let (c, o, p, r, b) = s.1 in
          let l = row-of t (rest t ok) x m in
          publisher_before t y c x p l (refresher_after t c o x r l b)
      back (inr s) = s.1

      kinds : (t.writes y ≡ true) ⊎ (t.reads y ≡ true) →
          ((t.writes y ≡ true) × ((t.writes x ≡ true) ⊎ (t.reads x ≡ true))) ⊎ ((t.reads y ≡ true) × (t.writes x ≡ true))
      kinds (inl v) = inl (v, inl w)
      kinds (inr v) = inr (v, w)

      go : Dec (x < y) → Dec (y < x) → Chain t x y
      go (yes l) d = forth (free x y (l, next_row_lem t ok, o, inl (w, k)))
      go (no l) (yes g) =
          absurd (fresh t ok (closed t (rest t ok) (back (free y x (g, row-of t (rest t ok) x m, λ e. o (sym e), kinds k))) m))
      go (no l) (no g) = let q : x ≡ y = omega arith in absurd (o (ap t.process q))

  -- Nobody else is unpublished when a process writes next.
  alone : {y : ℕ} {h : List ℕ} → Ok t (y ∷ h) → t.writes y ≡ true → (q : ℕ) → (q ≡ t.process y → ⊥) → (run t h).unpublished q ≡ false
  alone {y} {h} ok w q o = not_passed ((run t h).unpublished q) (λ u. go (waiting t (rest t ok) q u))
    where
      go : Waits t h q ((run t h).view q) → ⊥
      go k =
          let (c, r, p, f, b) = chain_to ok k.row k.inside k.write (λ e. o (sym k.own ∙ e)) (inl w) in
          k.unshared c p (earlier t ok (refresher_after t c r y f (next_row_lem t ok) b))

  -- Who sees the plain byte after the next row holds it, where that was so before.
  holds-step : {y : ℕ} {h : List ℕ} → Ok t (y ∷ h) → ((q : ℕ) → Sees t h q (plain t h) → Holds (plain t h) q (run t h)) →
      (w : Bool) → t.writes y ≡ w → (q : ℕ) → Sees t (y ∷ h) q (cond w (suc y) (plain t h)) →
      Holds (cond w (suc y) (plain t h)) q (step_byte w (t.publishes y) (t.refreshes y) (t.process y) (suc y) (run t h))
  holds-step ok before true w q (inl e) = absurd (omega arith)
  holds-step {y} {h} ok before true w q (inr (x, e, inl p)) =
      let i : x ≡ y = omega arith in
      rw (← p, i) (row-holds t (suc y) y (t.process y) _ (write_holds (suc y) (t.process y) (run t h) (alone ok w)))
  holds-step {y} {h} ok before true w q (inr (x, e, inr (c, o, p, b, r, k))) =
      let i : x ≡ y = omega arith in
      absurd (unpublished-yet t ok c (rw i at p) (before-latest c o y h b))
  holds-step {y} {h} ok before false w q (inl e) = row-holds t (plain t h) y q (run t h) (before q (inl e))
  holds-step {y} {h} ok before false w q (inr (x, e, inl p)) = row-holds t (plain t h) y q (run t h) (before q (inr (x, e, inl p)))
  holds-step {y} {h} ok before false w q (inr (x, e, inr (c, o, p, inr b, r, k))) =
      row-holds t (plain t h) y q (run t h) (before q (inr (x, e, inr (c, o, p, b, r, k))))
  holds-step {y} {h} ok before false w q (inr (x, e, inr (c, o, p, inl b, r, k))) =
      let now = as_published t (rest t ok) x c e p b.1 (before (t.process x) (inr (x, e, inl refl))) in
      shared-as_published (plain t h) (t.process y) q (run t h) (t.publishes y) (t.refreshes y)
      (sym k ∙ ap t.process b.0) (ap t.refreshes (sym b.0) ∙ r) now

  -- Who sees the plain byte holds it.
  holds : {h : List ℕ} → Ok t h → (q : ℕ) → Sees t h q (plain t h) → Holds (plain t h) q (run t h)
  unfolding run plain fresh_byte
  holds none q v = inr ((refl, λ p. refl), refl)
  holds (next {y} {h} b n e ok) q v = holds-step (next b n e ok) (holds ok) (t.writes y) refl q v

  -- Who reads next sees the plain byte.
  reader_sees : {y : ℕ} {h : List ℕ} → Ok t (y ∷ h) → t.reads y ≡ true → (n : ℕ) → plain t h ≡ n → Sees t (y ∷ h) (t.process y) n
  reader_sees ok k zero e = inl refl
  reader_sees {y} {h} ok k (suc x) e = inr (x, refl, go (ℕ_discrete (t.process x) (t.process y)))
    where
      refreshing : Chain t x y → Has t (y ∷ h) (t.process y) x
      refreshing (c, o, p, inl r, b) = inr (c, y, p, stands t ok (rw r.1 at b) (inl refl), t.read-refreshes r.0 y k, refl)
      refreshing (c, o, p, inr r, b) =
          let l = one (t.program o y r.1 (next_row_lem t ok) r.3) in
          inr (c, o, p, stands t ok b (inr (earlier t ok l)), r.2, r.3)

      go : Dec (t.process x ≡ t.process y) → Has t (y ∷ h) (t.process y) x
      go (yes i) = inl i
      go (no i) = let l = last-stands t h x e in refreshing (chain_to ok x l.0 l.1 i (inr k))

  -- ---- The theorems

  -- A read that comes next returns the plain byte.
  pub reads_plain : (y : ℕ) (h : List ℕ) → Ok t (y ∷ h) → t.reads y ≡ true → (run t (y ∷ h)).view (t.process y) ≡ plain t h
  reads_plain y h ok k =
      let e = plain-kept t y h (t.one-kind y k) in
      holds-view (plain t (y ∷ h)) (t.process y) (run t (y ∷ h)) (holds ok (t.process y) (reader_sees ok k (plain t (y ∷ h)) (sym e))) ∙ e

  -- After publishing by all processes, in any sequence, the published byte is the plain one.
  pub published-plain : (h : List ℕ) → Ok t h → (ps : List ℕ) → ((k : ℕ) → In k h → In (t.process k) ps) → (publish_all ps (run t h)).published ≡ plain t h
  published-plain h ok ps m =
      let (q, v) = someone_sees t h (plain t h) in
      all-publish (plain t h) q (run t h) ps (holds ok q v)
      (λ u. let w = waiting t ok q u in rw w.own at (m w.row w.inside))
