-- What stands next in a file, by the entries that stand ahead there.
use Rattle.std.proofs.Common.{ℕ, ◌-◌, ◌<◌, ◌≤◌, arith, ◌≡◌, refl, sym, ap, ◌∙◌, true, false, not, ◌&&◌, ◌||◌, List, [], ◌∷◌, map, length, take, drop}
use lib.ListN.{length-map}
use lib.Dec.{eqb}
use Rattle.csv_field.specs.declared.Span.{Span}
use Rattle.csv_content.specs.Content.{content_of}
use Rattle.csv_records.specs.Reading.{read_at, found}
use Rattle.csv_records.proofs.Answers.{all-six}
use Rattle.csv_records.proofs.Places.{found-places}
use Rattle.rows.specs.declared.row.Row.{Row}
use Rattle.rows.specs.Questions.{first_no}
use Rattle.rows.specs.Kinds.{ARRIVAL}
use Rattle.rows.specs.Limits.{PROCESSES, MESSAGES}
use Rattle.messages.proofs.Tables.{Tells}
use Rattle.barriers.proofs.Noting.{Noted, noted-held}
use Rattle.trace_fields.specs.Questions.{field_questions}
use Rattle.trace_fields.specs.Reads.{judged_fields}
use Rattle.trace.specs.Rows.{row_of}
use Rattle.trace.proofs.Laws.{WellFormed}
use Rattle.join_meaning.specs.Files.{Entry, part_of, rows_of}
use Rattle.join_meaning.specs.Joining.{waits}
use Rattle.join_meaning.proofs.Ahead.{Ahead, at-end, more, ahead-well_formed}
use Rattle.join_meaning.proofs.Parts.{part-alone}
use Rattle.join.specs.Choosing.{Next}
use Rattle.join.specs.Choosing.{no_next, next_row, next_found, next_in, unsent_by, waits_by, ready_by}

-- What stands next in a file is what the chooser reads at a place from which these entries stand ahead.
pub record Stands (P file : ℕ) (text : List ℕ) (x : Next) (es : List Entry) : Type 0 where
  pub at : ℕ
  pub ahead : Ahead P file text at es
  pub is_next : x ≡ next_in P text at

-- The entry that stands next, and the place behind it.
abbrev pub next_of : Entry → ℕ → Next
next_of e behind = record { some = true; row = e.row; start = e.start; end = e.end; behind = behind }

-- A record of six fields that passes the questions 8 to 11 stands next with its row.
next-found : (P : ℕ) (text : List ℕ) (at : ℕ) {spans : List Span} {end next : ℕ} → read_at text at (length text) ≡ found spans end next →
    length spans ≡ 6 → first_no (field_questions P (map (content_of text) spans)) ≡ 0 →
    next_in P text at ≡ record { some = true; row = row_of (map (content_of text) spans); start = at; end = end; behind = next }
unfolding next_in next_found next_row judged_fields
next-found P text at {spans} f six pass = rw (f, all-six spans six, pass)

-- What stands next of an entry that is the first of those ahead.
pub record First (P file : ℕ) (text : List ℕ) (x : Next) (e : Entry) (es : List Entry) : Type 0 where
  pub behind : ℕ
  pub is_next : x ≡ next_of e behind
  pub in_file : e.file ≡ file
  pub well-formed : WellFormed P e.row
  pub read-alone : (next_in P (part_of text e) 0).row ≡ e.row
  pub forward : e.start < behind
  pub within : behind ≤ length text
  pub rest : Stands P file text (next_in P text behind) es

-- The record of the first entry ahead is read, also by itself.
first-ahead : {P file : ℕ} {text : List ℕ} {at : ℕ} {e : Entry} {es : List Entry} {x : Next} → Ahead P file text at (e ∷ es) → x ≡ next_in P text at →
    WellFormed P e.row → First P file text x e es
first-ahead {P} {file} {text} {at} (more {spans = spans} {end = end} {next = next} f six pass a) q w =
    let alone = part-alone text at spans end next f six in
    let part = take (end - at) (drop at text) in
    let size : length alone.0 ≡ 6 =
    sym (length-map alone.0 (content_of part)) ∙ ap length alone.2 ∙ length-map spans (content_of text) ∙ six in
    let passes : first_no (field_questions P (map (content_of part) alone.0)) ≡ 0 = rw alone.2 pass in
    let p = found-places text at (length text) spans end next f in
    record {
      behind = next;
      is_next = q ∙ next-found P text at f six pass;
      in_file = refl;
      well-formed = w;
      read-alone = ap (λ (x : Next). x.row) (next-found P part 0 alone.1 size passes) ∙ ap row_of alone.2;
      forward = p.2;
      within = p.3;
      rest = record { at = next; ahead = a; is_next = refl };
    }

-- The first entry of those ahead stands next.
pub stands-first : {P file : ℕ} {text : List ℕ} {x : Next} {e : Entry} {es : List Entry} → Stands P file text x (e ∷ es) → First P file text x e es
unfolding rows_of
stands-first s = first-ahead s.ahead s.is_next (ahead-well_formed s.ahead 0 (omega arith))

-- The text ends where no entry stands ahead.
end-ahead : {P file : ℕ} {text : List ℕ} {at : ℕ} {x : Next} → Ahead P file text at [] → x ≡ next_in P text at → x ≡ no_next
unfolding next_in next_found
end-ahead {P} {text = text} {at = at} (at-end e) q = q ∙ ap (next_found P text at) e

-- Where no entry stands ahead, a file is at its end.
pub stands-none : {P file : ℕ} {text : List ℕ} {x : Next} → Stands P file text x [] → x ≡ no_next
stands-none s = end-ahead s.ahead s.is_next

-- ---- Whether a row is ready

-- The tables tell of the rows taken so far, of the rows of both files.
pub record Told (both taken : List Row) (table stands arrivals : List ℕ) (processes : ℕ) : Type 0 where
  pub messages_told : Tells table taken
  pub barriers_told : Noted both taken stands arrivals processes

module _ {both taken : List Row} {table stands arrivals : List ℕ} {processes : ℕ} (t : Told both taken table stands arrivals processes) where
  -- Tables that tell of the taken rows tell which rows wait.
  pub waits-told : (r : Row) → r.process < PROCESSES → r.message < MESSAGES → waits_by table stands arrivals processes r ≡ waits both taken r
  unfolding unsent_by waits_by waits
  waits-told r low h =
      λ i. (eqb r.kind ARRIVAL && not ((t.messages_told.each r.message h).sent-told i)) || noted-held t.barriers_told r low i

  -- Where an entry stands next, the file is ready exactly where its row does not wait.
  pub ready-told : {P file : ℕ} {text : List ℕ} {x : Next} {e : Entry} {es : List Entry} → P ≤ PROCESSES → First P file text x e es →
      ready_by table stands arrivals processes x ≡ not (waits both taken e.row)
  unfolding ready_by
  ready-told {e = e} few f =
      let w = f.well-formed in
      let low : e.row.process < PROCESSES = omega (arith, w.process) in
      ap (ready_by table stands arrivals processes) f.is_next ∙ ap not (waits-told e.row low w.message)

-- A file at its end is not ready.
pub ready-none : {x : Next} (table stands arrivals : List ℕ) (processes : ℕ) → x ≡ no_next → ready_by table stands arrivals processes x ≡ false
unfolding ready_by
ready-none table stands arrivals processes q = ap (ready_by table stands arrivals processes) q
