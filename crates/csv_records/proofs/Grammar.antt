-- A reader finds a record with these contents exactly where the grammar of RFC 4180 derives one, and the grammar is unambiguous.
use Rattle.std.proofs.Common.{ℕ, suc, zero, ◌+◌, ◌-◌, ◌≤◌, ◌<◌, arith, le_refl, ◌≡◌, refl, sym, ap, ◌∙◌, ◌↔◌, Bool, true, false, cond, List, [], ◌∷◌, ◌++◌, map, append_assoc, append-nil, length, take, drop, length-append, length-drop, take-append-drop, drop_of_length-le, take_all, drop_at, lt-ltb, le-ltb, ltb-true, ltb-false}
use native.Mathlib.Decide.{dec_lt}
use lib.Seq.{take-length, take-append_seam, drop-append-le}
use lib.Dec.{ltb}
use Rattle.csv_field.specs.FieldGrammar.{CRLF}
use Rattle.csv_records.specs.Grammar.{Record, Line, ended, last, Text}
use Rattle.csv_content.specs.Content.{content_of}
use Rattle.csv_records.specs.Reading.{record_in, read_at, Finding, nothing, malformed, past-limit, found, on_found, records_from, records, Records, all_read}
use Rattle.csv_field.specs.declared.Span.{Span}
use Rattle.csv_content.proofs.Fields.{behind}
use Rattle.csv_records.proofs.Records.{Halt, line, whole, after, record_found, Derived, found-derived, Settled, settled}
use Rattle.csv_records.proofs.Places.{found-places}
use Rattle.csv_records.proofs.Limit.{limit-same}

-- a record at the front of a text has the text's first bytes
line-own : {t own rest : List ℕ} {fields : List (List ℕ)} → Line t own fields rest → take (length own) t ≡ own
line-own {own} {rest} (ended e r) = rw e (take-append_seam own (CRLF rest))
line-own {own} (last e z n r) = rw e (take-length own)

-- the rest behind a record has the text's last bytes
line-rest : {t own rest : List ℕ} {fields : List (List ℕ)} → Line t own fields rest → drop (length t - length rest) t ≡ rest
line-rest {t} {own} {rest} (ended e r) =
    let p = own ++ CRLF [] in
    let q : t ≡ p ++ rest = e ∙ sym (append_assoc own (CRLF []) rest) in
    let n : length p ≡ length t - length rest = omega (arith, length-append p rest, ap length q) in
    ap (drop (length t - length rest)) q ∙ drop_at p rest (length t - length rest) n
line-rest {t} {rest} (last e z n r) =
    let i : length t ≤ length t - length rest = omega (arith, ap length z) in
    drop_of_length-le t i ∙ sym z

-- a list that is not empty has elements
some_bytes : (l : List ℕ) → (l ≡ [] → ⊥) → 0 < length l
some_bytes [] n = absurd (n refl)
some_bytes (b ∷ l) n = omega arith

module _ (text : List ℕ) (at limit : ℕ) where
  -- the reader finds a record of the grammar before what stands after a record
  record_read : {w u : List ℕ} {cs : List (List ℕ)} {next : ℕ} → at < length text → Record w cs → drop at (take limit text) ≡ w ++ u →
      (h : Halt (ltb limit (length text)) u) → after h (at + length w) ≡ next →
      (spans : List Span) × (read_at text at limit ≡ found spans (at + length w) next) × (map (content_of text) spans ≡ cs)
  unfolding read_at
  record_read {w} {u} i r split h e =
      let s = take limit text in
      let fuel : length w < suc (length s) = omega (arith, length-append w u, ap length split, length-drop at s) in
      let x = record_found s (drop limit text) (ltb limit (length text)) r (suc (length s)) at split h fuel in
      (x.0, rw (lt-ltb at (length text), ← e) x.1, rw take-append-drop at x.2)

  -- a record of the grammar before what stands after a record is a Line of the text
  record_line : {w u : List ℕ} {cs : List (List ℕ)} → at < length text → Record w cs → drop at (take limit text) ≡ w ++ u →
      (h : Halt (ltb limit (length text)) u) → Line (drop at text) w cs (drop (after h (at + length w)) text)
  record_line {w} i r split (line {rest}) =
      let s = take limit text in
      let v = drop limit text in
      let n : at ≤ length s = omega (arith, length-append w (CRLF rest), ap length split, length-drop at s) in
      let q : drop at text ≡ w ++ CRLF (rest ++ v) =
      ap (drop at) (sym (take-append-drop limit text)) ∙ drop-append-le at s v n ∙ ap (λ (l : List ℕ). l ++ v) split ∙ append_assoc w (CRLF rest) v in
      ended (q ∙ ap (λ (l : List ℕ). w ++ CRLF l) (sym (behind (CRLF []) (rest ++ v) text (at + length w) (behind w _ text at q)))) r
  record_line {w} i r split (whole c) =
      let q : drop at text ≡ w ++ [] = rw (take_all limit text (ltb-false limit (length text) c)) at split in
      let n : w ≡ [] → ⊥ = λ z. omega (arith, ap length z, ap length (q ∙ append-nil w), length-drop at text) in
      last (q ∙ append-nil w) (behind w [] text at q) n r

  -- the record that the reader finds is a Line of the text
  derived-line : (spans : List Span) (end next : ℕ) → at < length text → Derived (take limit text) (ltb limit (length text)) at →
      read_at text at limit ≡ found spans end next →
      Line (drop at text) (take (end - at) (drop at text)) (map (content_of text) spans) (drop next text)
  derived-line spans end next i d e =
      let x = record_read i d.derives d.split d.halt refl in
      let l = record_line i d.derives d.split d.halt in
      let m : end ≡ at + length d.own = cc in
      let n : next ≡ after d.halt (at + length d.own) = cc in
      let c : map (content_of text) spans ≡ d.fields = cc in
      let k : end - at ≡ length d.own = omega arith in
      rw (k, line-own l, c, n) l

-- The grammar derives what the reader finds: the record's own bytes, its fields by content, and the rest of the text.
pub found-line : (text : List ℕ) (at limit : ℕ) (spans : List Span) (end next : ℕ) →
    read_at text at limit ≡ found spans end next →
    Line (drop at text) (take (end - at) (drop at text)) (map (content_of text) spans) (drop next text)
unfolding read_at
found-line text at limit spans end next e = go (ltb at (length text)) refl e
  where
    go : (x : Bool) → ltb at (length text) ≡ x → cond x (record_in (take limit text) (ltb limit (length text)) at) nothing ≡ found spans end next →
        Line (drop at text) (take (end - at) (drop at text)) (map (content_of text) spans) (drop next text)
    go true p f =
        derived-line text at limit spans end next (ltb-true at (length text) p)
        (found-derived (take limit text) (ltb limit (length text)) (suc (length (take limit text))) at spans end next f)
        e
    go false p f = let z : ◌≡◌ {A = ℕ} 0 1 = cc in absurd (omega arith)

-- the reader finds what the grammar derives
pub line-found : (text : List ℕ) (at limit : ℕ) {own : List ℕ} {fields : List (List ℕ)} {rest : List ℕ} →
    length text ≤ limit → Line (drop at text) own fields rest →
    (spans : List Span) × (read_at text at limit ≡ found spans (at + length own) (length text - length rest)) × (map (content_of text) spans ≡ fields)
line-found text at limit {own} {rest} h (ended e r) =
    let size : length text - at ≡ length own + suc (suc (length rest)) = sym (length-drop at text) ∙ ap length e ∙ length-append own (CRLF rest) in
    record_read text at limit (omega arith) r (rw (take_all limit text h) e) (line {rest = rest}) (omega arith)
line-found text at limit {own} {rest} h (last e z n r) =
    let size : length text - at ≡ length own = sym (length-drop at text) ∙ ap length e in
    let some = some_bytes own n in
    let none : length rest ≡ 0 = ap length z in
    let q : drop at text ≡ own ++ [] = e ∙ sym (append-nil own) in
    record_read text at limit (omega arith) r (rw (take_all limit text h) q) (whole (le-ltb limit (length text) h)) (omega arith)

-- a text splits into a record and a rest in at most one way
pub unambiguous : {t own own' rest rest' : List ℕ} {fields fields' : List (List ℕ)} →
    Line t own fields rest → Line t own' fields' rest' → (own ≡ own') × (fields ≡ fields') × (rest ≡ rest')
unambiguous {t} {own} {own'} {rest} {rest'} l l' =
    let x = line-found t 0 (length t) (le_refl (length t)) l in
    let y = line-found t 0 (length t) (le_refl (length t)) l' in
    let e : 0 + length own ≡ 0 + length own' = cc in
    let n : length own ≡ length own' = omega arith in
    let m : length t - length rest ≡ length t - length rest' = cc in (
      sym (line-own l) ∙ ap (λ (k : ℕ). take k t) n ∙ line-own l',
      cc,
      sym (line-rest l) ∙ ap (λ (k : ℕ). drop k t) m ∙ line-rest l',
    )

-- a reader that may look at the whole text meets no limit
settled-read : (text : List ℕ) (at limit : ℕ) → length text ≤ limit → at < length text → Settled (read_at text at limit)
unfolding read_at
settled-read text at limit h i = rw (lt-ltb at (length text), le-ltb limit (length text)) (settled (take limit text) _ at)

-- the reader finds a malformed record exactly where bytes stand and the grammar derives no record
pub malformed_iff : (text : List ℕ) (at limit : ℕ) → length text ≤ limit →
    (read_at text at limit ≡ malformed) ↔ ((at < length text) × ((own : List ℕ) (fields : List (List ℕ)) (rest : List ℕ) → Line (drop at text) own fields rest → ⊥))
unfolding read_at
malformed_iff text at limit h = (
  λ e. (bytes (ltb at (length text)) refl e, λ own fields rest l. never l e),
  λ r. go (read_at text at limit) refl (settled-read text at limit h r.0) r.1,
)
  where
    bytes : (x : Bool) → ltb at (length text) ≡ x → cond x (record_in (take limit text) (ltb limit (length text)) at) nothing ≡ malformed →
        at < length text
    bytes true p e = ltb-true at (length text) p
    bytes false p e = let z : ◌≡◌ {A = ℕ} 0 1 = cc in absurd (omega arith)

    never : {own rest : List ℕ} {fields : List (List ℕ)} → Line (drop at text) own fields rest → read_at text at limit ≡ malformed → ⊥
    never l e = let x = line-found text at limit h l in let z : ◌≡◌ {A = ℕ} 0 1 = cc in omega arith

    go : (f : Finding) → read_at text at limit ≡ f → Settled f →
        ((own : List ℕ) (fields : List (List ℕ)) (rest : List ℕ) → Line (drop at text) own fields rest → ⊥) → read_at text at limit ≡ malformed
    go nothing e t n = absurd t
    go malformed e t n = e
    go past-limit e t n = absurd t
    go (found spans end next) e t n = absurd (n _ _ _ (found-line text at limit spans end next e))

module _ (text : List ℕ) (limit : ℕ) (h : length text ≤ limit) where
  -- the reader finds nothing only at the end of the text
  nothing-end : (at : ℕ) → read_at text at limit ≡ nothing → length text ≤ at
  nothing-end at e = go (ltb at (length text)) refl
    where
      go : (x : Bool) → ltb at (length text) ≡ x → length text ≤ at
      go true p = absurd (rw e at (settled-read text at limit h (ltb-true at (length text) p)))
      go false p = ltb-false at (length text) p

  -- the end of the text has no record
  text-end : (at : ℕ) → length text ≤ at → Text (drop at text) []
  text-end at i = rw (drop_of_length-le text i) Text.none

  -- the grammar derives the records from a place on, where the reader reads all
  read-text : (k at : ℕ) → length text < at + k → (records_from k text limit at).ending ≡ all_read →
      Text (drop at text) (records_from k text limit at).rows
  unfolding records_from on_found
  read-text zero at i e = text-end at (omega arith)
  read-text (suc k) at i e = go (read_at text at limit) refl e (λ p j q. read-text k p j q)
    where
      go : (f : Finding) → read_at text at limit ≡ f → (on_found text f (λ p. records_from k text limit p)).ending ≡ all_read →
          ((p : ℕ) → length text < p + k → (records_from k text limit p).ending ≡ all_read → Text (drop p text) (records_from k text limit p).rows) →
          Text (drop at text) (on_found text f (λ p. records_from k text limit p)).rows
      go nothing q e r = text-end at (nothing-end at q)
      go malformed q e r = let z : ◌≡◌ {A = ℕ} 0 1 = cc in absurd (omega arith)
      go past-limit q e r = let z : ◌≡◌ {A = ℕ} 0 1 = cc in absurd (omega arith)
      go (found spans end next) q e r =
          Text.more (found-line text at limit spans end next q) (r next (omega (arith, found-places text at limit spans end next q)) e)

  -- the records from a place on are the record that the reader finds there and the records after it
  one_found : {fields : List (List ℕ)} {rows : List (List (List ℕ))} (k at : ℕ) (spans : List Span) (end next : ℕ) →
      read_at text at limit ≡ found spans end next → map (content_of text) spans ≡ fields →
      records_from k text limit next ≡ record { rows = rows; ending = all_read } →
      records_from (suc k) text limit at ≡ record { rows = fields ∷ rows; ending = all_read }
  unfolding records_from on_found
  one_found k at spans end next e f r = rw (e, f, r)

  -- the reader reads all records that the grammar derives from a place on
  text-read : {t : List ℕ} {rows : List (List (List ℕ))} → Text t rows → (k at : ℕ) → drop at text ≡ t → length text < at + k →
      records_from k text limit at ≡ record { rows = rows; ending = all_read }
  unfolding records_from on_found read_at
  text-read Text.none zero at e i = refl
  text-read Text.none (suc k) at e i =
      let n : length text ≤ at = omega (arith, length-drop at text, ap length e) in
      rw (le-ltb at (length text) n)
  text-read (Text.more l x) zero at e i =
      let f = line-found text at limit h (rw (sym e) at l) in
      let p = found-places text at limit _ _ _ f.1 in
      absurd (omega arith)
  text-read (Text.more {rest} l x) (suc k) at e i =
      let f = line-found text at limit h (rw (sym e) at l) in
      let p = found-places text at limit _ _ _ f.1 in
      let u = unambiguous (found-line text at limit _ _ _ f.1) (rw (sym e) at l) in
      one_found k at _ _ _ f.1 f.2 (text-read x k (length text - length rest) u.2 (omega arith))

-- where the limit is not below the text's length, the reader reads exactly the records that the grammar derives
pub records-text : (text : List ℕ) (limit : ℕ) (rows : List (List (List ℕ))) → length text ≤ limit →
    (records text limit ≡ record { rows = rows; ending = all_read }) ↔ Text text rows
unfolding records
records-text text limit rows h = (
  λ e. rw (ap (λ (r : Records). r.rows) e) at (read-text text limit h _ 0 (omega arith) (ap (λ (r : Records). r.ending) e)),
  λ t. text-read text limit h t _ 0 refl (omega arith),
)

-- where the reader reads all of a text, the text ends within the limit
within-limit : (text : List ℕ) (limit k at : ℕ) → length text < at + k → at ≤ limit → (records_from k text limit at).ending ≡ all_read →
    length text ≤ limit
unfolding records_from on_found
within-limit text limit zero at h i e = omega arith
within-limit text limit (suc k) at h i e = go (read_at text at limit) refl e (λ p j. within-limit text limit k p j) (dec_lt limit (length text))
  where
    go : (f : Finding) → read_at text at limit ≡ f → (on_found text f (λ p. records_from k text limit p)).ending ≡ all_read →
        ((p : ℕ) → length text < p + k → p ≤ limit → (records_from k text limit p).ending ≡ all_read → length text ≤ limit) →
        Dec (limit < length text) → length text ≤ limit
    go nothing q e r d =
        let same = limit-same text at limit (λ p. let z : ◌≡◌ {A = ℕ} 0 1 = cc in absurd (omega arith)) in
        omega (arith, nothing-end text (length text) (le_refl (length text)) at (sym same ∙ q))
    go malformed q e r d = let z : ◌≡◌ {A = ℕ} 0 1 = cc in absurd (omega arith)
    go past-limit q e r d = let z : ◌≡◌ {A = ℕ} 0 1 = cc in absurd (omega arith)
    go (found spans end next) q e r (yes l) =
        let p = found-places text at limit spans end next q in
        r next (omega arith) (p.4 l) e
    go (found spans end next) q e r (no l) = omega arith

-- The reader reads all of a text exactly where the text ends within the limit and the grammar derives it, and reads the records that the
-- grammar derives.
pub all-read_iff : (text : List ℕ) (limit : ℕ) (rows : List (List (List ℕ))) →
    (records text limit ≡ record { rows = rows; ending = all_read }) ↔ ((length text ≤ limit) × Text text rows)
unfolding records
all-read_iff text limit rows = (
  λ e. let h = within-limit text limit (suc (length text)) 0 (omega arith) (omega arith) (ap (λ (r : Records). r.ending) e) in
      (h, (records-text text limit rows h).0 e),
  λ (h, t). (records-text text limit rows h).1 t,
)
