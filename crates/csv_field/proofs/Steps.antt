-- One step of each function of the reader, at a place of a list: what the functions' loops and branches cite.
use Rattle.std.proofs.Common.{ℕ, suc, ◌+◌, ◌≤◌, ◌<◌, arith, ◌≡◌, Bool, true, false, cond, List, length, drop, drop_of_length-le, drop-cons, add-one, eq-eqb, ne_eqb}
use lib.ListN.{get_or}
use native.Mathlib.Decide.{dec_lt}
use native.Mathlib.Numerals.{add-two}
use lib.Dec.{eqb}
use Rattle.csv_field.specs.FieldGrammar.{COMMA, DQUOTE, CR, LF}
use Rattle.csv_field.specs.FieldReading.{is_text, is_quoted, text_length, quotes, after_quote, after_cr, stop_of}
use Rattle.csv_field.specs.declared.Quotes.TheVariants.{Unclosed, Broken, Closed}
use Rattle.csv_field.specs.declared.Stop.TheVariants.{Comma, LineEnd, TextEnd, Bad, Cut}
pub use Rattle.csv_field.proofs.Places.{quote_in, run_in}

-- a byte of TEXTDATA counts one
pub run_on : (s : List ℕ) (i : ℕ) → i < length s → is_text (get_or s i 0) ≡ true → text_length (drop i s) ≡ suc (text_length (drop (i + 1) s))
unfolding text_length
run_on s i h e = rw (drop-cons s i 0 h, e, add-one)

-- a byte that is no TEXTDATA ends the count
pub run_off : (s : List ℕ) (i : ℕ) → i < length s → is_text (get_or s i 0) ≡ false → text_length (drop i s) ≡ 0
unfolding text_length
run_off s i h e = rw (drop-cons s i 0 h, e)

-- past the end no TEXTDATA is left
pub run_end : (s : List ℕ) (i : ℕ) → length s ≤ i → text_length (drop i s) ≡ 0
unfolding text_length
run_end s i h = rw (drop_of_length-le s h)

module _ (s : List ℕ) (i n : ℕ) (d : Bool) where
  -- between quotes, a byte that quotes may hold counts one
  pub quotes_byte : i < length s → eqb (get_or s i 0) DQUOTE ≡ false → is_quoted (get_or s i 0) ≡ true → quotes n d (drop i s) ≡ quotes (n + 1) d (drop (i + 1) s)
  unfolding quotes
  quotes_byte h e q = simp (add-one, drop-cons s i 0 h, e, q)

  -- a byte that quotes may not hold breaks the field
  pub quotes_bad : i < length s → eqb (get_or s i 0) DQUOTE ≡ false → is_quoted (get_or s i 0) ≡ false → quotes n d (drop i s) ≡ Broken
  unfolding quotes
  quotes_bad h e q = rw (drop-cons s i 0 h, e, q)

  -- two quotes side by side count two
  pub quotes_two : i < length s → eqb (get_or s i 0) DQUOTE ≡ true → eqb (get_or s (i + 1) 0) DQUOTE ≡ true →
      quotes n d (drop i s) ≡ quotes (n + 2) true (drop (i + 2) s)
  unfolding quotes
  quotes_two h e q =
      let r = rw add-one at q in
      simp (add-two, drop-cons s i 0 h, e, drop-cons s (suc i) 0 (quote_in s (suc i) r), r)

  -- a quote without a second one closes the field
  pub quotes_close : i < length s → eqb (get_or s i 0) DQUOTE ≡ true → eqb (get_or s (i + 1) 0) DQUOTE ≡ false → quotes n d (drop i s) ≡ Closed n d
  unfolding quotes
  quotes_close h e q = rw (drop-cons s i 0 h, e) (go (dec_lt (suc i) (length s)))
    where
      r : eqb (get_or s (suc i) 0) DQUOTE ≡ false
      r = rw add-one at q

      go : Dec (suc i < length s) → after_quote n d (drop (suc i) s) ≡ Closed n d
      go (yes l) = rw (drop-cons s (suc i) 0 l, r)
      go (no l) = let m : length s ≤ suc i = omega arith in rw (drop_of_length-le s m)

  -- at the end of the list no closing quote was met
  pub quotes_end : length s ≤ i → quotes n d (drop i s) ≡ Unclosed
  unfolding quotes
  quotes_end h = rw (drop_of_length-le s h)

module _ (s : List ℕ) (i : ℕ) (cut : Bool) where
  -- LF after a CR ends the record
  pub cr-lf : i < length s → get_or s i 0 ≡ LF → after_cr cut (drop i s) ≡ LineEnd
  unfolding after_cr
  cr-lf h e = rw (drop-cons s i 0 h, eq-eqb (get_or s i 0) LF e)

  -- a byte after a CR that is no LF is malformed
  pub cr-bad : i < length s → (get_or s i 0 ≡ LF → ⊥) → after_cr cut (drop i s) ≡ Bad
  unfolding after_cr
  cr-bad h e = rw (drop-cons s i 0 h, ne_eqb (get_or s i 0) LF e)

  -- nothing after a CR: the limit in a cut text, malformed in any other
  pub cr-end : length s ≤ i → after_cr cut (drop i s) ≡ cond cut Cut Bad
  unfolding after_cr
  cr-end h = rw (drop_of_length-le s h)

  -- a comma after a field
  pub stop-comma : i < length s → get_or s i 0 ≡ COMMA → stop_of cut (drop i s) ≡ Comma
  unfolding stop_of
  stop-comma h e = rw (drop-cons s i 0 h, eq-eqb (get_or s i 0) COMMA e)

  -- a CR after a field: the next byte decides
  pub stop-cr : i < length s → get_or s i 0 ≡ CR → stop_of cut (drop i s) ≡ after_cr cut (drop (i + 1) s)
  unfolding stop_of
  stop-cr h e = rw (add-one, drop-cons s i 0 h, e)

  -- a byte after a field that is neither a comma nor a CR is malformed
  pub stop-bad : i < length s → (get_or s i 0 ≡ COMMA → ⊥) → (get_or s i 0 ≡ CR → ⊥) → stop_of cut (drop i s) ≡ Bad
  unfolding stop_of
  stop-bad h e f = rw (drop-cons s i 0 h, ne_eqb (get_or s i 0) COMMA e, ne_eqb (get_or s i 0) CR f)

  -- nothing after a field: the limit in a cut text, the end of the text in any other
  pub stop-end : length s ≤ i → stop_of cut (drop i s) ≡ cond cut Cut TextEnd
  unfolding stop_of
  stop-end h = rw (drop_of_length-le s h)

-- what follows a field, for a search
pub ruleset after_fields = (stop-comma, stop-cr, stop-bad, stop-end)

-- what follows a CR, for a search
pub ruleset after_crs = (cr-lf, cr-bad, cr-end)
