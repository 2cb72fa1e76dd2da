-- Records that are handed over: each is cut out of its file's text and read by itself.
use Rattle.std.proofs.Common.{ℕ, ◌+◌, ◌-◌, ◌<◌, le_refl, arith, ◌≡◌, refl, ap, ◌∙◌, cond, List, [], ◌∷◌, map, length, take, drop, length-append}
use lib.ListN.{length-map}
use lib.Dec.{eqb}
use Rattle.csv_field.specs.FieldGrammar.{COMMA}
use Rattle.csv_field.specs.declared.Span.{Span}
use Rattle.csv_content.specs.Content.{content_of}
use Rattle.csv_records.specs.Grammar.{Record, Line, ended, last, Text, none}
use Rattle.csv_records.specs.Reading.{read_at, found}
use Rattle.csv_records.proofs.Grammar.{found-line, line-found}
use Rattle.rows.specs.declared.row.Row.{Row}
use Rattle.trace.specs.Rows.{row_of}
use Rattle.trace.specs.Questions as outcome
use Rattle.join_meaning.specs.Files.{Entry, part_of, read_file, entries_of}
use Rattle.join_meaning.specs.Merging.{Merged}
use Rattle.join_meaning.proofs.Ahead.{Ahead, at-end, more, file-ahead}

-- A record of two fields or more has a comma, so that it has bytes.
some_bytes : {own : List ℕ} {fields : List (List ℕ)} → Record own fields → 1 < length fields → own ≡ [] → ⊥
some_bytes (Record.one f) h e = omega arith
some_bytes (Record.more {t} {u} f r) h e = omega (arith, ap length e, length-append t (COMMA ∷ u))

-- The own bytes of a record at the front of a text are a record by themselves.
own-record : {text own rest : List ℕ} {fields : List (List ℕ)} → Line text own fields rest → Record own fields
own-record (ended e r) = r
own-record (last e z n r) = r

-- A record of six fields that the reader finds in a text, cut out of the text without its line end, is a text of one record with the same fields.
pub part-alone : (text : List ℕ) (at : ℕ) (spans : List Span) (end next : ℕ) → read_at text at (length text) ≡ found spans end next → length spans ≡ 6 →
    (alone : List Span)
    × (read_at (take (end - at) (drop at text)) 0 (length (take (end - at) (drop at text)))
    ≡ found alone (length (take (end - at) (drop at text))) (length (take (end - at) (drop at text))))
    × (map (content_of (take (end - at) (drop at text))) alone ≡ map (content_of text) spans)
part-alone text at spans end next e six =
    let own = take (end - at) (drop at text) in
    let r = own-record (found-line text at (length text) spans end next e) in
    let some : 1 < length (map (content_of text) spans) = omega (arith, length-map spans (content_of text)) in
    let x = line-found own 0 (length own) (le_refl (length own)) (last refl refl (some_bytes r some) r) in
    let front : 0 + length own ≡ length own = omega arith in
    let behind : length own - 0 ≡ length own = omega arith in
    (x.0, x.1 ∙ (λ i. found x.0 (front i) (behind i)), x.2)

-- ---- The records handed over

-- What a joined entry hands over of its file's text: the record at its place, without its line end, with six fields that give its row. Read by
-- itself, the part is a text of this one record.
pub record HandedOver (text : List ℕ) (e : Entry) : Type 0 where
  pub fields : List (List ℕ)
  pub rest : List ℕ
  pub in_file : Line (drop e.start text) (part_of text e) fields rest
  pub alone : Text (part_of text e) (fields ∷ [])
  pub six-fields : length fields ≡ 6
  pub its_row : row_of fields ≡ e.row

-- A found record of six fields is handed over.
found-handed : (text : List ℕ) (file at : ℕ) (spans : List Span) (end next : ℕ) → read_at text at (length text) ≡ found spans end next → length spans ≡ 6 →
    HandedOver text (record { file = file; start = at; end = end; row = row_of (map (content_of text) spans) })
found-handed text file at spans end next e six =
    let l = found-line text at (length text) spans end next e in
    let r = own-record l in
    let some : 1 < length (map (content_of text) spans) = omega (arith, length-map spans (content_of text)) in
    record {
      fields = map (content_of text) spans;
      rest = drop next text;
      in_file = l;
      alone = Text.more (last refl refl (some_bytes r some) r) none;
      six-fields = length-map spans (content_of text) ∙ six;
      its_row = refl;
    }

-- All entries of a list are as Q says.
abbrev pub Every : (Entry → Type 0) → List Entry → Type 0
Every Q [] = Unit {0}
Every Q (e ∷ es) = Q e × Every Q es

-- What holds for all entries of two lists holds for all of a merging.
pub every-merged : (Q : Entry → Type 0) {a b m : List Entry} → Merged a b m → Every Q a → Every Q b → Every Q m
every-merged Q Merged.none p q = tt
every-merged Q (Merged.first d) p q = (p.0, every-merged Q d p.1 q)
every-merged Q (Merged.second d) p q = (q.0, every-merged Q d p q.1)

-- The text of a file by its number: the first file's for 1, else the second's.
abbrev pub file_text : List ℕ → List ℕ → ℕ → List ℕ
file_text first second file = cond (eqb file 1) first second

-- Every entry that stands ahead in a file is handed over from it.
ahead-handed : (first second : List ℕ) {P : ℕ} (file : ℕ) {text : List ℕ} {at : ℕ} {es : List Entry} → file_text first second file ≡ text →
    Ahead P file text at es → Every (λ e. HandedOver (file_text first second e.file) e) es
ahead-handed first second file s (at-end e) = tt
ahead-handed first second file {text} s (more {at = at} {spans = spans} {end = end} {next = next} f six pass a) =
    (rw s (found-handed text file at spans end next f six), ahead-handed first second file s a)

-- The entries of two accepted files are handed over from them.
pub first-handed : (h R P : ℕ) (first second : List ℕ) {rows : List Row} → read_file h R P first ≡ outcome.accepted rows →
    Every (λ e. HandedOver (file_text first second e.file) e) (entries_of 1 h first)
first-handed h R P first second e = ahead-handed first second 1 refl (file-ahead h R P first e 1)

-- So are those of the second.
pub second-handed : (h R P : ℕ) (first second : List ℕ) {rows : List Row} → read_file h R P second ≡ outcome.accepted rows →
    Every (λ e. HandedOver (file_text first second e.file) e) (entries_of 2 h second)
second-handed h R P first second e = ahead-handed first second 2 refl (file-ahead h R P second e 2)
