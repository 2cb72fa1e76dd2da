-- What the whole call answers and leaves, put together from its parts.
use Rattle.std.proofs.Common.{ℕ, Result, Ok, Err, ◌+◌, ◌*◌, ◌-◌, ◌≤◌, ◌<◌, arith, ◌≡◌, refl, sym, ap, ◌∙◌, Bool, true, false, not, List, [], length, ne_eqb, leb-true}
use Rattle.print.specs.Puts.{lay}
use Rattle.print.proofs.Laying.{lay-length, lay-lay}
use Rattle.rows.specs.declared.row.Row.{Row}
use Rattle.rows.specs.Limits.{PROCESSES, MESSAGES}
use Rattle.rows.specs.Questions.{first_no}
use Rattle.rows.specs.Refusals.{TEXT_SPACE, BARRIER_ORDER, number_of, refused_at}
use Rattle.rows.specs.Rows.{rows_in, row_in}
use Rattle.rows.proofs.Bools.{refused as refused-by, passed}
use Rattle.rows.proofs.Slices.{length-rows}
use Rattle.barriers.specs.Barriers.{barrier_place}
use Rattle.trace.specs.Questions.{Outcome, refused, accepted, ask_barriers}
use Rattle.trace.proofs.Barriers.{asked-refused, asked-yes, asked-no}
use Rattle.trace.proofs.Sounds.{sound_fit}
use Rattle.rows.specs.declared.refusal.Refusal.{Refusal}
use Rattle.rows.specs.declared.refusal.Refusal.TheVariants.{BarrierOrder, TextSpace}
use Rattle.rows.specs.declared.refusal.Refused.{Refused as RefusedAt}
use Rattle.rows.proofs.Asking.{number-some}
use Rattle.writer.specs.Answers.{Passed, No, Length, told_asked, told_written}
use Rattle.writer.specs.Writing.{LINE_MOST, lines_of, header_of, text_of, write_questions, ask_rows, asked_of, text_fits, Writing, not_written, written, on_asked, write_trace, written_of, out_left, Writes}
use Rattle.writer.proofs.Formed.{passes-iff, asked-all}
use Rattle.writer.proofs.Sizes.{lines_few, text-size}

-- ---- What asking the rows told

-- A refusal is that of the rows.
asked-row : (o : Outcome) {number row : ℕ} → asked_of o ≡ No number row → o ≡ refused number row
asked-row (refused k r) e = cc
asked-row (accepted rows) e = let z : ◌≡◌ {A = ℕ} 0 1 = cc in absurd (omega arith)

-- Where all passed, the outcome has rows.
asked-passed : (o : Outcome) → asked_of o ≡ Passed → (rows : List Row) × (o ≡ accepted rows)
asked-passed (refused k r) e = let z : ◌≡◌ {A = ℕ} 0 1 = cc in absurd (omega arith)
asked-passed (accepted rows) e = (rows, refl)

-- ---- The call

module _ (xs : List ℕ) (n header P place : ℕ) (out : List ℕ) where
  -- What the call comes to.
  abbrev whole : Writing
  whole = write_trace xs n header P (length out) place

  -- The text of the rows.
  abbrev text : List ℕ
  text = text_of header (rows_in n xs)

  -- What a call that comes to w answers and leaves.
  gives : {w : Writing} → whole ≡ w → (answer : Result ℕ RefusedAt) → told_written answer ≡ written_of w → Writes whole answer place out (out_left w place out)
  gives e answer t = record { answered = t ∙ ap written_of (sym e); out_after = ap (λ w. out_left w place out) (sym e) }

  -- The first No of the questions 1 to 3.
  abbrev first : ℕ
  first = first_no (write_questions n header P (length xs))

  -- One of the questions 1 to 3 has No.
  pub call-no : (e : Refusal) → number_of e ≡ first → Writes whole (Err (refused_at e 0)) place out out
  unfolding write_trace
  call-no e is =
      let low : 1 ≤ number_of e = number-some e in
      let some : number_of e ≡ 0 → ⊥ = λ z. omega arith in
      let w : whole ≡ not_written (number_of e) 0 = rw (sym is, ne_eqb (number_of e) 0 some) in gives w (Err (refused_at e 0)) refl

  module _ (z : first ≡ 0) where
    -- The rows decide.
    by_rows : whole ≡ on_asked header (length out) place (ask_barriers (ask_rows P [] (rows_in n xs)))
    unfolding write_trace
    by_rows = rw z

    -- A row has No.
    pub row-no : (e : RefusedAt) → told_asked (Err e) ≡ asked_of (ask_rows P [] (rows_in n xs)) → Writes whole (Err e) place out out
    row-no e t =
        gives (by_rows ∙ ap (on_asked header (length out) place) (asked-refused (asked-row (ask_rows P [] (rows_in n xs)) (sym t)))) (Err e) refl

    module _ (t : Passed ≡ asked_of (ask_rows P [] (rows_in n xs))) where
      -- All rows passed.
      all-passed : ask_rows P [] (rows_in n xs) ≡ accepted (rows_in n xs)
      all-passed =
          let l = asked-passed (ask_rows P [] (rows_in n xs)) (sym t) in
          l.1 ∙ ap accepted (asked-all P (rows_in n xs) l.0 l.1)

      -- Each has a process and a message within their ranges.
      pub rows_have_room : P ≤ PROCESSES → (k : ℕ) → k < n → ((row_in xs k).process < PROCESSES) × ((row_in xs k).message < MESSAGES)
      rows_have_room few = sound_fit n xs ((passes-iff P (rows_in n xs)).0 all-passed) few

      -- The lines have at most 36 bytes for each row.
      pub lines-bound : P ≤ PROCESSES → length (lines_of (rows_in n xs)) ≤ LINE_MOST * n
      lines-bound few = omega (arith, lines_few P (rows_in n xs) few all-passed, length-rows n xs)

      -- 22 has No.
      pub barriers-no : {row : ℕ} → row ≡ barrier_place (rows_in n xs) → 0 < row → Writes whole (Err (refused_at BarrierOrder row)) place out out
      barriers-no {row} b h =
          gives
          (by_rows ∙ ap (on_asked header (length out) place) (asked-no all-passed (λ k. omega (arith, b, k)) ∙ ap (refused BARRIER_ORDER) (sym b)))
          (Err (refused_at BarrierOrder row)) refl

      module _ (y : barrier_place (rows_in n xs) ≡ 0) where
        -- 22 has Yes.
        all-kept : ask_barriers (ask_rows P [] (rows_in n xs)) ≡ accepted (rows_in n xs)
        all-kept = asked-yes all-passed y

        module _ {f : Bool} (s : f ≡ text_fits (length out) place text) where
          -- The text does not fit.
          pub no-space : not f ≡ true → Writes whole (Err (refused_at TextSpace 0)) place out out
          no-space h =
              let w : on_asked header (length out) place (accepted (rows_in n xs)) ≡ not_written TEXT_SPACE 0 = rw (refused-by s h) in
              gives (by_rows ∙ ap (on_asked header (length out) place) all-kept ∙ w) (Err (refused_at TextSpace 0)) refl

          module _ (h : not f ≡ false) where
            -- The text fits.
            fit : place + length text ≤ length out
            fit = leb-true (place + length text) (length out) (passed s h)

            -- There is room for the header.
            pub header-room : place + length (header_of header) ≤ length out
            header-room = omega (arith, fit, text-size (length out) place header (rows_in n xs))

            module _ {at : ℕ} {out₁ : List ℕ} (p : (at ≡ place + length (header_of header)) × (out₁ ≡ lay out place (header_of header))) where
              -- There is room for the lines behind the header.
              pub lines-room : at + length (lines_of (rows_in n xs)) ≤ length out₁
              lines-room =
                  omega (
                    arith,
                    fit,
                    text-size (length out) place header (rows_in n xs),
                    p.0,
                    ap length p.1,
                    lay-length out place (header_of header) header-room,
                  )

              module _ {end : ℕ} {out₂ : List ℕ}
                  (l : (end ≡ at + length (lines_of (rows_in n xs))) × (out₂ ≡ lay out₁ at (lines_of (rows_in n xs)))) where
                -- The text's length is from the place to its end.
                size : end - place ≡ length text
                size = omega (arith, l.0, p.0, text-size (length out) place header (rows_in n xs))

                -- The text is written.
                pub text-written : Writes whole (Ok (end - place)) place out out₂
                unfolding text_of
                text-written =
                    let w : on_asked header (length out) place (accepted (rows_in n xs)) ≡ written text = rw (passed s h) in
                    let r = gives (by_rows ∙ ap (on_asked header (length out) place) all-kept ∙ w) (Ok (length text)) refl in
                    record {
                      answered = ap Length size ∙ r.answered;
                      out_after =
                          l.1 ∙ (λ i. lay (p.1 i) (p.0 i) (lines_of (rows_in n xs)))
                          ∙ lay-lay out place (header_of header) (lines_of (rows_in n xs)) header-room ∙ r.out_after;
                    }
