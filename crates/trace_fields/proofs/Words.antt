-- Kinds by their words, and the fields that a kind uses.
use Rattle.std.proofs.Common.{ℕ, suc, zero-add, ◌+◌, ◌-◌, ◌≤◌, ◌<◌, arith, ◌≡◌, sym, ap, add-one, drop-cons, cond, ◌∙◌, Bool, true, false, List, [], ◌∷◌, ◌++◌, length, take, drop, replicate, get_or-append-add}
use lib.ListN.{get_or, get_or-map, get_or-replicate, length-replicate, get_or-append, get_or-eq_default}
use Rattle.csv_content.specs.Content.{same_bytes}
use Rattle.rows.specs.Kinds.{COMMIT, SEND, KINDS, kind_number}
use Rattle.rows.specs.declared.kind.Kind.{Kind}
use Rattle.rows.specs.declared.kind.Kind.TheVariants.{Read, Write, Commit, Open, Close, Sync, Send, Recv, Wait, Barrier}
use Rattle.std.proofs.lemmas.List.FromFn.{get_or-range_with_len}
use Rattle.trace_numbers.specs.declared.Used.{Used}
use Rattle.trace_fields.specs.Rows.{kind_words, word, word_of, kind_of, used_by, used_table, range_used, file_used, message_used, none_used}

-- every kind, by its number
abbrev pub kinds : List Kind
kinds = Read ∷ Write ∷ Commit ∷ Open ∷ Close ∷ Sync ∷ Send ∷ Recv ∷ Wait ∷ Barrier ∷ []

-- a kind stands at the place that is its number
number_at : (i : ℕ) → i < KINDS → kind_number (get_or kinds i Read) ≡ i
number_at i h = sym (get_or-map kind_number kinds i Read) ∙ get_or-range_with_len 0 KINDS i 0 h ∙ zero-add i

module _ (content : List ℕ) (i : ℕ) (h : i < KINDS) (left : kind_of content ≡ word_of (drop i kind_words) content + i) {r : Bool}
    (e : r ≡ same_bytes content (word (get_or kinds i Read))) where
  -- the words that are left, by whether the next one is the content
  next : kind_of content ≡ cond r 0 (word_of (drop (suc i) kind_words) content + 1) + i
  unfolding word_of
  next =
      let g : i < length kind_words = omega arith in
      let w : same_bytes content (get_or kind_words i []) ≡ r = sym (e ∙ ap (λ (n : ℕ). same_bytes content (get_or kind_words n [])) (number_at i h)) in
      left ∙ rw (drop-cons kind_words i [] g, w)

  -- the next word is not the content
  pub next_word : r ≡ false → kind_of content ≡ word_of (drop (i + 1) kind_words) content + (i + 1)
  next_word f = rw (add-one i) (omega (arith, rw f at next))

  -- the next word is the content, whose kind it numbers
  pub word_here : r ≡ true → kind_number (get_or kinds i Read) ≡ kind_of content
  word_here f = omega (arith, number_at i h, rw f at next)

-- the content is none of the words
pub no_word : (content : List ℕ) (i : ℕ) → KINDS ≤ i → i ≤ KINDS → kind_of content ≡ word_of (drop i kind_words) content + i → KINDS ≡ kind_of content
unfolding word_of
no_word content i h g e = let n : i ≡ KINDS = omega arith in sym (rw n at e)

-- a table has one value at n places side by side
stretch : (front : List Used) (n : ℕ) (u : Used) (back : List Used) (k : ℕ) → length front ≤ k → k < length front + n →
    u ≡ get_or (front ++ (replicate n u ++ back)) k none_used
stretch front n u back k l h =
    let j = k - length front in
    let e : length front + j ≡ k = omega arith in
    let i : j < n = omega arith in
    let b : j < length (replicate n u) = omega (arith, length-replicate n u) in
    sym (ap (λ (m : ℕ). get_or (front ++ (replicate n u ++ back)) m none_used) (sym e) ∙ get_or-append-add front (replicate n u ++ back) j none_used
    ∙ get_or-append (replicate n u) back none_used j b ∙ get_or-replicate n j u none_used i)

module _ (k : ℕ) where
  -- read and write use the file and the range
  pub used-range : k < COMMIT → range_used ≡ used_by k
  unfolding used_by
  used-range h = stretch [] COMMIT range_used (drop COMMIT used_table) k (omega arith) h

  -- commit, open, close and sync use the file alone
  pub used-file : COMMIT ≤ k → k < SEND → file_used ≡ used_by k
  unfolding used_by
  used-file l h = stretch (take COMMIT used_table) (SEND - COMMIT) file_used (drop SEND used_table) k l h

  -- send, recv, wait and barrier use the message
  pub used-message : SEND ≤ k → k < KINDS → message_used ≡ used_by k
  unfolding used_by
  used-message l h = stretch (take SEND used_table) (KINDS - SEND) message_used [] k l h

  -- a number that is no kind's uses nothing
  pub used-nothing : KINDS ≤ k → none_used ≡ used_by k
  unfolding used_by
  used-nothing l = sym (get_or-eq_default used_table none_used l)

-- the fields that a number uses, by its range
pub ruleset uses = (used-range, used-file, used-message, used-nothing)
