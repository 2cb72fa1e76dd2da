-- The state of a machine and of a plain file: a header, and the maps in a slice. The published map stands first, then each process's.
use Rattle.std.specs.Prelude.{ℕ, suc, ◌+◌, ◌*◌, Bool, ◌&&◌, List, ◌++◌, length, drop, leb, ltb}
use Rattle.rows.specs.Limits.{MODELS, FILES}
use Rattle.rows.specs.Counting.{blocks, all_below}
use Rattle.rows.specs.Questions.{is_process_limit}
use Rattle.extents_meaning.specs.Cells.{Bytes}
use Rattle.extents_meaning.specs.Runs.{runs_of}
pub use Rattle.extents_meaning.specs.Maps.{map_for, map_at}
use Rattle.extents_meaning.specs.Maps.{bytes_of, lawful, lawful_published}
use Rattle.machine_meaning.specs.Layers.{Layers}

-- What a machine is made for. A plain file ignores its model.
pub record Header : Type 0 where
  pub model : ℕ
  pub processes : ℕ
  pub file : ℕ
  pub space : ℕ

-- ---- Maps of a slice

-- The count of numbers that the maps of a machine take.
abbrev pub maps_length : Header → ℕ
maps_length h = 4 * h.space * (h.processes + 1)

-- ---- Machines

-- Is the state one with model, process limit, file and slice as for making, and lawful runs in its maps?
unfoldable pub lawful_state : Header → List ℕ → Bool
lawful_state h xs =
    ltb h.model MODELS
    && (is_process_limit h.processes
    && (ltb h.file FILES
    && (leb (maps_length h) (length xs)
    && (lawful_published (map_at h.space 0 xs) && all_below h.processes (λ p. lawful (map_at h.space (suc p) xs))))))

-- The layered file that the maps of a slice encode.
abbrev pub layers_in : Header → List ℕ → Layers
layers_in h xs =
    record {
      shared = bytes_of (map_at h.space 0 xs);
      view = λ p. bytes_of (map_at h.space (suc p) xs);
    }

-- The slice with the maps of a layered file. Numbers past the maps stay.
unfoldable pub layers_to : Header → Layers → List ℕ → List ℕ
layers_to h s xs =
    (map_for h.space s.shared ++ blocks h.processes (λ p. map_for h.space (s.view p))) ++ drop (maps_length h) xs

-- Does every map fit its space?
unfoldable pub layers_fit : Header → Layers → Bool
layers_fit h s =
    leb (length (runs_of s.shared)) h.space && all_below h.processes (λ p. leb (length (runs_of (s.view p))) h.space)

-- ---- Plain files: one map with marks 0

-- Is the plain file one with process limit, file and slice as for making, and lawful runs without marks in its map?
unfoldable pub lawful_plain : Header → List ℕ → Bool
lawful_plain h xs =
    is_process_limit h.processes
    && (ltb h.file FILES && (leb (4 * h.space) (length xs) && lawful_published (map_at h.space 0 xs)))

-- The bytes that the map of a slice encodes.
abbrev pub plain_in : Header → List ℕ → Bytes
plain_in h xs = bytes_of (map_at h.space 0 xs)

-- The slice with the map of these bytes. Numbers past the map stay.
unfoldable pub plain_to : Header → Bytes → List ℕ → List ℕ
plain_to h f xs = map_for h.space f ++ drop (4 * h.space) xs

-- Does the map of these bytes fit its space?
abbrev pub plain_fits : Header → Bytes → Bool
plain_fits h f = leb (length (runs_of f)) h.space
