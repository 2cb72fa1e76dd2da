-- The entries of the map of pieces: their questions in sequence, and what they answer and leave.
use Rattle.std.specs.Prelude.{ℕ, ◌+◌, ◌*◌, ◌≡◌, Bool, true, false, cond, ◌&&◌, List, [], ◌∷◌, ◌++◌, length, leb, eqb}
use Rattle.rows.specs.Limits.{ROWS, OFFSET_MAX}
use Rattle.rows.specs.Questions.{Question, first_no}
use Rattle.extents_meaning.specs.Cells.{Bytes, cell_of, number_in, mark_in, overwrite, published, as_published, refreshed}
use Rattle.extents_meaning.specs.Runs.{Run, runs_of, pieces_of}
use Rattle.extents_meaning.specs.Maps.{map_for, space_in, bytes_of, lawful, with_map, listed_in}
use Rattle.extents_meaning.specs.Lookups.{change_of}
use Rattle.extents_meaning.specs.Pairs.{two_maps, view_of, below_of}
use Rattle.extents.specs.declared.Stretch.{Stretch}
use Rattle.extents.specs.Answers.{Answer, Done, Listed, Refused}
use Rattle.extents.specs.LookupAnswers as looked
use Rattle.extents.specs.LookupAnswers.{LookupAnswer}

-- ---- Questions

-- 13, of maps
abbrev pub asks_law : Bool → Question
asks_law law = record { number = 13; yes = law }

-- 14, of a row number
abbrev pub asks_number : ℕ → Question
asks_number number = record { number = 14; yes = leb 1 number && leb number ROWS }

-- 10 and 11, of a range
abbrev pub asks_range : ℕ → ℕ → List Question
asks_range start length =
    record { number = 10; yes = leb start OFFSET_MAX && leb length OFFSET_MAX }
    ∷ (record { number = 11; yes = leb (start + length) OFFSET_MAX } ∷ [])

-- 16, of what a map is to hold
abbrev pub asks_space : ℕ → Bytes → Question
asks_space space f = record { number = 16; yes = leb (length (runs_of f)) space }

-- 17, of pieces and the answer slice
abbrev pub asks_room : List Run → ℕ → Question
asks_room pieces room = record { number = 17; yes = leb (3 * length pieces) room }

-- ---- Answers

-- a refusal's number, or the answer where there is none
abbrev pub or_refused : ℕ → Answer → Answer
or_refused refusal a = cond (eqb refusal 0) a (Refused refusal)

-- A refused entry leaves the slice as it was.
abbrev pub or_kept : ℕ → List ℕ → List ℕ → List ℕ
or_kept refusal left xs = cond (eqb refusal 0) left xs

-- The answer to a listing is the count of its pieces.
abbrev pub listed_count : List Run → Answer
listed_count pieces = Listed (length pieces)

-- The mark of an unpublished byte is 1.
abbrev pub mark_bit : Bool → ℕ
mark_bit true = 1
mark_bit false = 0

-- An entry answers a refusal's number and leaves the slice xs as it was, or answers `accepted` and leaves `made`.
pub record Entry (refusal : ℕ) (accepted : Answer) (made xs : List ℕ) (r : Answer) (xs' : List ℕ) : Type 0 where
  pub answer : r ≡ or_refused refusal accepted
  pub left : xs' ≡ or_kept refusal made xs

-- ---- One map

-- The refusal of a write of a range, 0 where the entry accepts.
unfoldable pub write_refusal : List ℕ → ℕ → ℕ → ℕ → Bool → ℕ
write_refusal xs start length number mark =
    first_no
    (asks_law (lawful xs)
    ∷ (asks_number number
    ∷ (asks_range start length
    ++ (asks_space (space_in xs) (overwrite start length (cell_of number (mark_bit mark)) (bytes_of xs)) ∷ []))))

-- The map that a write leaves.
unfoldable pub written_map : List ℕ → ℕ → ℕ → ℕ → Bool → List ℕ
written_map xs start length number mark = map_for (space_in xs) (overwrite start length (cell_of number (mark_bit mark)) (bytes_of xs))

-- A write of a range answers r and leaves the map xs'.
abbrev pub WriteEntry : List ℕ → ℕ → ℕ → ℕ → Bool → Answer → List ℕ → Type 0
WriteEntry xs start length number mark = Entry (write_refusal xs start length number mark) Done (written_map xs start length number mark) xs

-- The refusal of a listing of the pieces of a range, 0 where the entry accepts.
unfoldable pub list_refusal : List ℕ → ℕ → ℕ → ℕ → ℕ
list_refusal xs start length room =
    first_no (asks_law (lawful xs) ∷ (asks_range start length ++ (asks_room (pieces_of (bytes_of xs) start length) room ∷ [])))

-- A listing answers r and leaves the answer slice out'.
abbrev pub ListEntry : List ℕ → ℕ → ℕ → List ℕ → Answer → List ℕ → Type 0
ListEntry xs start n out =
    Entry (list_refusal xs start n (length out)) (listed_count (pieces_of (bytes_of xs) start n)) (listed_in (pieces_of (bytes_of xs) start n) out) out

-- The row number and the mark of a byte, and the first byte behind it where either differs.
unfoldable pub lookup_of : Bytes → ℕ → Stretch
lookup_of f b = record { number = number_in (f b); mark = mark_in (f b); next = change_of f b }

-- The refusal of a lookup of a byte, which is asked as a range of length 1; 0 where the entry accepts.
unfoldable pub lookup_refusal : List ℕ → ℕ → ℕ
lookup_refusal xs byte = first_no (asks_law (lawful xs) ∷ asks_range byte 1)

-- What a lookup answers: a refusal's number, or what stands at the byte.
abbrev pub looked_up : List ℕ → ℕ → LookupAnswer
looked_up xs byte = cond (eqb (lookup_refusal xs byte) 0) (looked.Found (lookup_of (bytes_of xs) byte)) (looked.Refused (lookup_refusal xs byte))

-- A lookup answers r.
abbrev pub LookupEntry : List ℕ → ℕ → LookupAnswer → Type 0
LookupEntry xs byte r = r ≡ looked_up xs byte

-- ---- A view and the published map

module _ (space view below : ℕ) (xs : List ℕ) where
  -- what the two maps mean
  abbrev own : Bytes
  own = view_of space view below xs

  abbrev base : Bytes
  base = below_of space view below xs

  -- the slice with both maps anew
  unfoldable pub both_maps : Bytes → Bytes → List ℕ
  both_maps v w = with_map space below (map_for space w) (with_map space view (map_for space v) xs)

  -- both maps at the end of an entry fit; nothing is asked of what lies between
  abbrev pub asks_both : Bytes → Bytes → List Question
  asks_both v w = record { number = 16; yes = leb (length (runs_of v)) space && leb (length (runs_of w)) space } ∷ []

  -- The refusal of publishing the view, 0 where the entry accepts.
  unfoldable pub publish_refusal : ℕ
  publish_refusal = first_no (asks_law (two_maps space view below xs) ∷ asks_both (as_published own) (published own base))

  -- The maps that publishing leaves.
  unfoldable pub published_maps : List ℕ
  published_maps = both_maps (as_published own) (published own base)

  -- Publishing answers r and leaves the maps xs'.
  abbrev pub PublishEntry : Answer → List ℕ → Type 0
  PublishEntry = Entry publish_refusal Done published_maps xs

  -- The refusal of a refresh of the view, 0 where the entry accepts.
  unfoldable pub refresh_refusal : ℕ
  refresh_refusal = first_no (asks_law (two_maps space view below xs) ∷ asks_both (refreshed own base) base)

  -- The maps that a refresh leaves.
  unfoldable pub refreshed_maps : List ℕ
  refreshed_maps = both_maps (refreshed own base) base

  -- A refresh answers r and leaves the maps xs'.
  abbrev pub RefreshEntry : Answer → List ℕ → Type 0
  RefreshEntry = Entry refresh_refusal Done refreshed_maps xs

  -- The refusal of a sync, which publishes and then refreshes, 0 where the entry accepts.
  unfoldable pub sync_refusal : ℕ
  sync_refusal =
      first_no
      (asks_law (two_maps space view below xs)
      ∷ asks_both (refreshed (as_published own) (published own base)) (published own base))

  -- The maps that a sync leaves.
  unfoldable pub synced_maps : List ℕ
  synced_maps = both_maps (refreshed (as_published own) (published own base)) (published own base)

  -- A sync answers r and leaves the maps xs'.
  abbrev pub SyncEntry : Answer → List ℕ → Type 0
  SyncEntry = Entry sync_refusal Done synced_maps xs

  module _ (start length : ℕ) where
    -- The view after writing a range.
    abbrev pub writing : ℕ → Bytes
    writing number = overwrite start length (cell_of number 1) own

    -- The number of a refused write through, 0 where the entry accepts.
    unfoldable pub write_through_refusal : ℕ → ℕ
    write_through_refusal number =
        first_no
        (asks_law (two_maps space view below xs)
        ∷ (asks_number number ∷ (asks_range start length ++ asks_both (as_published (writing number)) (published (writing number) base))))

    -- The maps that a write through leaves.
    unfoldable pub written_through_maps : ℕ → List ℕ
    written_through_maps number = both_maps (as_published (writing number)) (published (writing number) base)

    -- A write through answers r and leaves the maps xs'.
    abbrev pub WriteThroughEntry : ℕ → Answer → List ℕ → Type 0
    WriteThroughEntry number = Entry (write_through_refusal number) Done (written_through_maps number) xs

    -- The refusal of a read, which refreshes and then lists the pieces of a range, 0 where the entry accepts.
    unfoldable pub read_refusal : ℕ → ℕ
    read_refusal room =
        first_no
        (asks_law (two_maps space view below xs)
        ∷ (asks_range start length
        ++ (asks_both (refreshed own base) base ++ (asks_room (pieces_of (refreshed own base) start length) room ∷ []))))

    -- The slice `out` gets the pieces.
    abbrev pub read_pieces : List Run
    read_pieces = pieces_of (refreshed own base) start length

  -- A read changes two slices: the maps, and the answer slice `out`.
  pub record ReadEntry (start n : ℕ) (out : List ℕ) (r : Answer) (xs' out' : List ℕ) : Type 0 where
    pub answer : r ≡ or_refused (read_refusal start n (length out)) (listed_count (read_pieces start n))
    pub left : xs' ≡ or_kept (read_refusal start n (length out)) refreshed_maps xs
    pub listed : out' ≡ or_kept (read_refusal start n (length out)) (listed_in (read_pieces start n) out) out
