-- The trace whose race under session no order shows.
use Rattle.std.proofs.Common.{ℕ, zero, suc, ◌<◌, arith, ◌≡◌, refl, sym, ap, subst, ◌∙◌, ◌⊎◌, inl, inr, Bool, true, false, cond, ◌&&◌, List, [], ◌∷◌, ◌++◌, eq-eqb}
use mathlib.Core.Bool.{false≢true}
use lib.Dec.{eqb}
use Rattle.rows.specs.Limits.{FILES}
use Rattle.rows.specs.Kinds.{WRITE, COMMIT, CLOSE, SEND, RECV, WAIT, ARRIVAL, BARRIER}
use Rattle.models.specs.Models.{COMMIT_MODEL, SESSION}
use Rattle.models.specs.Table.{publishes, refreshes}
use Rattle.csv_records.specs.Reading.{records, records_from, on_found, read_at, fields_from, on_stop, prepend}
use Rattle.csv_field.specs.FieldReading.{field_at, after_cr, stop_of, text_length, is_text}
use Rattle.csv_content.specs.Content.{content_of, same_bytes}
use Rattle.rows.specs.declared.row.Row.{Row}
use Rattle.trace.specs.Rows.{word_of, used_by, all_digits, starts_plain, value_from, row_of}
use Rattle.trace.specs.Questions.{call_questions, filled_as_used, numbers_in_range, any, message_in_order, wait_in_order, field_questions, record_questions, row_questions, message_questions, judge_rows, read_records, ask_barriers, read_trace, check_trace, accepted}
use Rattle.rows.specs.Questions.{first_no}
use Rattle.rows.specs.Counting.{any_below, least_from, last_below}
use Rattle.barriers.specs.Barriers.{goes_on, repeats, out_of_turn, first_out, unfinished, barrier_place}
use Rattle.happens_before.specs.Order.{delivers, last_of, last_before, passes, crosses, edge, hb_within}
use Rattle.rows.specs.Rows.{row_at}
use Rattle.happens_before.proofs.Clocks.{edge-forward, edge_by, program-order, message-order, passes-kind}
use Rattle.races_meaning.specs.Races.{share_byte, conflict, chain_commit, chain_session, chain, synchronized, race, free, racing, verdict_of}
use Rattle.extents_meaning.specs.Cells.{number_in}
use Rattle.machine_meaning.specs.Layers.{Layers, fresh, nothing, of_file}
use Rattle.machine_meaning.specs.States.{Header}
use Rattle.consistency.specs.Orders.{Allowed}
use Rattle.rows.specs.Lists.{In}
use Rattle.consistency.specs.Files.{NumberedRow, rows_for, End, end_rows, processes_of, ByAll, SpaceFor, header_for, EqualWith}
use Rattle.consistency.proofs.Byte.{Byte, step_byte}
use Rattle.consistency.proofs.Core.{Trace, run, plain, Ok, none, next, publish_all}
use Rattle.consistency.proofs.Freedom.{row-of, published-plain}
use Rattle.consistency.proofs.Meaning.{layers_run, plain_run, ReadsSame, covers, byte_trace}
use Rattle.consistency.proofs.Encoding.{Made, AllFit, agree-iff, level-iff}
use Rattle.consistency.proofs.Bytewise.{layers_at, plain_at, reads_in, ends-plain, ends_read, ends_at, layers_append, plain-append, reads-append}
use Rattle.consistency.proofs.Bridges.{allowed-ok, free-at}
use Rattle.consistency.proofs.Theorems.{points_of, points_enough, order-fits, ends-fit, fit_append, sound_trace}
use Rattle.consistency.proofs.Benches.{row}

-- ---- Session: 0 writes, closes, sends; 1 posts a receive, waits, writes the same byte, closes

abbrev pub s_rows : List Row
s_rows =
    row 0 WRITE 1 0 1 0
    ∷ (row 0 CLOSE 1 0 0 0
    ∷ (row 0 SEND 0 0 0 7 ∷ (row 1 RECV 0 0 0 7 ∷ (row 1 WAIT 0 0 0 7 ∷ (row 1 WRITE 1 0 1 0 ∷ (row 1 CLOSE 1 0 0 0 ∷ []))))))

-- 0,write,1,0,1,  0,close,1,,,  0,send,,,,7  1,recv,,,,7  1,wait,,,,7  1,write,1,0,1,  1,close,1,,,
abbrev pub s_text : List ℕ
s_text =
    (48 ∷ 44 ∷ 119 ∷ 114 ∷ 105 ∷ 116 ∷ 101 ∷ 44 ∷ 49 ∷ 44 ∷ 48 ∷ 44 ∷ 49 ∷ 44 ∷ 13 ∷ 10 ∷ [])
    ++ ((48 ∷ 44 ∷ 99 ∷ 108 ∷ 111 ∷ 115 ∷ 101 ∷ 44 ∷ 49 ∷ 44 ∷ 44 ∷ 44 ∷ 13 ∷ 10 ∷ [])
    ++ ((48 ∷ 44 ∷ 115 ∷ 101 ∷ 110 ∷ 100 ∷ 44 ∷ 44 ∷ 44 ∷ 44 ∷ 55 ∷ 13 ∷ 10 ∷ [])
    ++ ((49 ∷ 44 ∷ 114 ∷ 101 ∷ 99 ∷ 118 ∷ 44 ∷ 44 ∷ 44 ∷ 44 ∷ 55 ∷ 13 ∷ 10 ∷ [])
    ++ ((49 ∷ 44 ∷ 119 ∷ 97 ∷ 105 ∷ 116 ∷ 44 ∷ 44 ∷ 44 ∷ 44 ∷ 55 ∷ 13 ∷ 10 ∷ [])
    ++ ((49 ∷ 44 ∷ 119 ∷ 114 ∷ 105 ∷ 116 ∷ 101 ∷ 44 ∷ 49 ∷ 44 ∷ 48 ∷ 44 ∷ 49 ∷ 44 ∷ 13 ∷ 10 ∷ [])
    ++ (49 ∷ 44 ∷ 99 ∷ 108 ∷ 111 ∷ 115 ∷ 101 ∷ 44 ∷ 49 ∷ 44 ∷ 44 ∷ 44 ∷ 13 ∷ 10 ∷ []))))))

-- The trace races under session, yet no order shows a difference, with closes at the end.
pub record SessionRace : Type 0 where
  pub taken : check_trace s_text 0 SESSION 7 2 8192 42 14 ≡ accepted s_rows
  pub judged : verdict_of s_rows SESSION ≡ racing 1 6
  pub equal : (space : ℕ) → SpaceFor s_rows space → EqualWith CLOSE SESSION 2 space s_rows

-- ---- From the text to the verdict

-- The text is read as these rows.
s_taken : check_trace s_text 0 SESSION 7 2 8192 42 14 ≡ accepted s_rows
unfolding records records_from on_found read_at fields_from on_stop prepend field_at after_cr stop_of text_length is_text content_of same_bytes word_of used_by
    all_digits starts_plain value_from row_of first_no call_questions filled_as_used numbers_in_range any message_in_order wait_in_order field_questions record_questions row_questions message_questions judge_rows
    read_records goes_on repeats out_of_turn first_out unfinished barrier_place ask_barriers read_trace check_trace
s_taken = refl

-- Rows 1 and 6 race.
s_judged : verdict_of s_rows SESSION ≡ racing 1 6
unfolding any_below edge share_byte conflict chain_session chain synchronized race least_from verdict_of
s_judged = refl

-- ---- The trace with commits for its closes is free under commit

-- The rows with commits for closes.
abbrev c_rows : List Row
c_rows =
    row 0 WRITE 1 0 1 0
    ∷ (row 0 COMMIT 1 0 0 0
    ∷ (row 0 SEND 0 0 0 7 ∷ (row 1 RECV 0 0 0 7 ∷ (row 1 WAIT 0 0 0 7 ∷ (row 1 WRITE 1 0 1 0 ∷ (row 1 COMMIT 1 0 0 0 ∷ []))))))

-- The rows with commits for closes are free under commit.
c-judged : verdict_of c_rows COMMIT_MODEL ≡ free
unfolding any_below last_below last_of passes crosses edge hb_within share_byte conflict chain_commit chain synchronized race least_from verdict_of
c-judged = refl

-- ---- Every byte sees both traces alike

-- What a byte of a file and the edges see of a row under a model.
record Seen : Type 0 where
  process : ℕ
  message : ℕ
  sends : Bool
  arrives : Bool
  writes : Bool
  publishes : Bool
  refreshes : Bool

abbrev seen : ℕ → ℕ → ℕ → Row → Seen
seen model file b r =
    record {
      process = r.process;
      message = r.message;
      sends = eqb r.kind SEND;
      arrives = eqb r.kind ARRIVAL;
      writes = covers WRITE file b r;
      publishes = of_file file r && publishes model r.kind;
      refreshes = of_file file r && refreshes model r.kind;
    }

module _ (file b : ℕ) where
  -- The rows, and the rows with commits.
  abbrev t : Trace
  t = byte_trace s_rows SESSION file b

  abbrev u : Trace
  u = byte_trace c_rows COMMIT_MODEL file b

  -- A row is seen alike, does not read, is of process 0 or 1, and of no barrier.
  abbrev Alike : ℕ → Type 0
  Alike k =
      (seen SESSION file b (row_at s_rows k) ≡ seen COMMIT_MODEL file b (row_at c_rows k)) × (t.reads k ≡ false) × (u.process k < 2)
      × (eqb (row_at c_rows k).kind BARRIER ≡ false)

  -- Each row is.
  alike : (k : ℕ) → k < 7 → Alike k
  unfolding publishes refreshes
  alike zero l = (refl, refl, omega arith, refl)
  alike (suc zero) l = (refl, refl, omega arith, refl)
  alike (suc (suc zero)) l = (refl, refl, omega arith, refl)
  alike (suc (suc (suc zero))) l = (refl, refl, omega arith, refl)
  alike (suc (suc (suc (suc zero)))) l = (refl, refl, omega arith, refl)
  alike (suc (suc (suc (suc (suc zero))))) l = (refl, refl, omega arith, refl)
  alike (suc (suc (suc (suc (suc (suc zero)))))) l = (refl, refl, omega arith, refl)
  alike (suc (suc (suc (suc (suc (suc (suc k))))))) l = absurd (omega arith)

  -- An edge between rows with commits is one between the rows.
  edge-alike : (k y : ℕ) → y < 7 → edge c_rows k y ≡ true → edge s_rows k y ≡ true
  edge-alike k y l e = let m = edge-forward c_rows k y e in go m (alike k (omega arith)) (alike y l) (edge_by c_rows k y e)
    where
      go : k < y → Alike k → Alike y →
          ((row_at c_rows k).process ≡ (row_at c_rows y).process)
          ⊎ ((delivers (row_at c_rows k) (row_at c_rows y) ≡ true) ⊎ (passes (row_at c_rows) k (last_before (row_at c_rows) y) ≡ true)) → edge s_rows k y ≡ true
      go m p q (inl s) = program-order s_rows k y m l (ap (λ (x : Seen). x.process) p.0 ∙ s ∙ ap (λ (x : Seen). x.process) (sym q.0))
      go m p q (inr (inl d)) =
          message-order s_rows k y m l
          ((λ i. (p.0 i).sends && ((q.0 i).arrives && eqb (p.0 i).message (q.0 i).message)) ∙ d)
      go m p q (inr (inr s)) = absurd (false≢true (sym p.3 ∙ eq-eqb _ _ (passes-kind (row_at c_rows) k _ s)))

  -- An allowed order of the rows is one of the rows with commits, and leaves the same files.
  run_alike : {h : List ℕ} → Ok t h → Ok u h × (run t h ≡ run u h) × (plain t h ≡ plain u h)
  unfolding run plain
  run_alike none = (none, refl, refl)
  run_alike (next {y} {h} l n es ok) =
      let w = run_alike ok in
      let e = (alike y l).0 in (
        next l n (λ k d. es k (edge-alike k y l d)) w.0,
        (λ i. step_byte (e i).writes (e i).publishes (e i).refreshes (e i).process (suc y) (w.1 i)),
        (λ i. cond (e i).writes (suc y) (w.2 i)),
      )

  -- After both processes have published, the published byte is the plain one.
  published-last : {h : List ℕ} → Ok t h → (ps : List ℕ) → ((p : ℕ) → p < 2 → In p ps) → (publish_all ps (run t h)).published ≡ plain t h
  published-last {h} ok ps m =
      let w = run_alike ok in
      ap (λ (s : Byte). (publish_all ps s).published) w.1
      ∙ published-plain u (free-at c_rows COMMIT_MODEL (omega arith) c-judged file b) h w.0 ps
      (λ k i. m (u.process k) (alike k (row-of u w.0 k i)).2)
      ∙ sym w.2

-- ---- No order shows a difference

-- A number in the middle of a list stands in the list.
in_middle : (y : ℕ) (l m : List ℕ) → In y (l ++ (y ∷ m))
in_middle y [] m = inl refl
in_middle y (x ∷ l) m = inr (in_middle y l m)

module _ (space file : ℕ) (f : file < FILES) (order : List ℕ) (allowed : Allowed s_rows order) (ends : List End) (all : ByAll 2 ends) where
  -- The header, the rows in this order, the closes at the end.
  abbrev h : Header
  h = header_for SESSION 2 space file

  abbrev l : List NumberedRow
  l = rows_for s_rows file order

  abbrev final : List NumberedRow
  final = end_rows CLOSE file ends

  -- The header passes the questions of making.
  made : Made h
  made = record { is_model = omega arith; some-process = omega arith; few-processes = omega arith; is_file = f }

  -- The rows and the closes pass the questions before 16.
  whole-fits : AllFit h (points_of s_rows) (l ++ final)
  whole-fits =
      let s = sound_trace s_text 0 SESSION 7 2 8192 42 14 s_rows s_taken in
      fit_append h (points_of s_rows) l final
      (order-fits s_rows 2 s.0 s.1 s.2 s.3 SESSION space file (omega arith) f order allowed.of_trace)
      (ends-fit s_rows 2 s.0 s.1 s.2 s.3 SESSION space file (omega arith) f CLOSE (omega arith) refl (λ q. absurd (omega (arith, q))) ends
      (λ p i. (all.every p).1 i) all.numbered)

  -- No row of the run reads.
  whole-reads : ReadsSame SESSION (l ++ final) fresh nothing
  whole-reads =
      reads-append SESSION l final fresh nothing
      (reads_in s_rows SESSION file order
      (λ first y rest q b r.
      let i = subst (In y) (sym q) (in_middle y first rest) in
      absurd (false≢true (sym (alike file b y (allowed.of_trace y i)).1 ∙ r))))
      (ends_read CLOSE SESSION file ends (λ q. absurd (omega (arith, q))) _ _)

  -- At the end the published file holds what the plain file holds.
  whole-level : (b : ℕ) → number_in ((layers_run SESSION (l ++ final) fresh).shared b) ≡ number_in (plain_run (l ++ final) nothing b)
  unfolding publishes refreshes
  whole-level b =
      let n : CLOSE ≡ WRITE → ⊥ = λ q. absurd (omega (arith, q)) in
      ap (λ (s : Layers). number_in (s.shared b)) (layers_append SESSION l final fresh)
      ∙ (ends_at CLOSE SESSION file n refl refl ends (layers_run SESSION l fresh) b _ (layers_at s_rows SESSION file b order)).shared
      ∙ published-last file b (allowed-ok s_rows SESSION file b order allowed) (processes_of ends) (λ p i. (all.every p).0 i)
      ∙ sym (plain_at s_rows SESSION file b order)
      ∙ ap (λ (g : ℕ → ℕ). number_in (g b)) (sym (plain-append l final nothing ∙ ends-plain CLOSE file ends n (plain_run l nothing)))

-- The layered file and the plain file are equal.
equal-always : (space : ℕ) → SpaceFor s_rows space → EqualWith CLOSE SESSION 2 space s_rows
equal-always space room file f order allowed ends all xs ys out lent =
    let rows = rows_for s_rows file order ++ end_rows CLOSE file ends in
    let m = made space file f order allowed ends all in
    let enough = points_enough (header_for SESSION 2 space file) s_rows room in
    let fit = whole-fits space file f order allowed ends all in (
      (agree-iff m enough lent rows fit).1 (whole-reads space file f order allowed ends all),
      (level-iff m enough lent rows fit).1 (λ b _. whole-level space file f order allowed ends all b),
    )

-- The trace whose race no order shows.
pub session-race : SessionRace
session-race = record { taken = s_taken; judged = s_judged; equal = equal-always }
