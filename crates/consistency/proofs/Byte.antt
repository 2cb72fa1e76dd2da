-- One byte of the layered file: a published row number and, for each process, a view: a row number and whether it is unpublished.
use Rattle.std.proofs.Common.{ℕ, Bool, true, false, cond}
use lib.Dec.{eqb}

pub record Byte : Type 0 where
  pub published : ℕ
  pub view : ℕ → ℕ
  pub unpublished : ℕ → Bool

-- A function with another value at one process.
unfoldable pub put : {A : Type 0} → ℕ → A → (ℕ → A) → ℕ → A
put p a f q = cond (eqb q p) a (f q)

-- A fresh byte has 0 everywhere.
unfoldable pub fresh_byte : Byte
fresh_byte = record { published = 0; view = λ p. 0; unpublished = λ p. false }

-- A write puts its row number in the writer's view, unpublished.
unfoldable pub write_byte : ℕ → ℕ → Byte → Byte
write_byte p number s =
    record {
      published = s.published;
      view = put p number s.view;
      unpublished = put p true s.unpublished;
    }

-- To publish is to copy the process's unpublished bytes to the published file and mark them published.
unfoldable pub publish_byte : ℕ → Byte → Byte
publish_byte p s =
    record {
      published = cond (s.unpublished p) (s.view p) s.published;
      view = s.view;
      unpublished = put p false s.unpublished;
    }

-- To refresh is to take the published number for each byte of the view that is not unpublished.
unfoldable pub refresh_byte : ℕ → Byte → Byte
refresh_byte p s =
    record {
      published = s.published;
      view = put p (cond (s.unpublished p) (s.view p) s.published) s.view;
      unpublished = s.unpublished;
    }

-- What a row of process p does to one byte: it writes it, publishes and refreshes, in this sequence, each where it does so at all.
abbrev pub step_byte : Bool → Bool → Bool → ℕ → ℕ → Byte → Byte
step_byte writes publishes refreshes p number s =
    let written = cond writes (write_byte p number s) s in
    let shared = cond publishes (publish_byte p written) written in
    cond refreshes (refresh_byte p shared) shared
