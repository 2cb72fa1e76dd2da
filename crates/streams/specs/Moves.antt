-- What the answer of a call of C's read or write means.
use Rattle.std.specs.Prelude.{ℕ, zero, suc, min, ◌≤◌, ◌<◌, ◌≡◌, cond, List, length, take, eqb, ℤ, pos, negsuc, ◌≢◌, Result, Ok, Err, None, IfSome}
use Rattle.std.specs.declared.option.Option.{Option}
use Rattle.std.specs.Io.KnownBytes.{Consumes, IsAtEnd}
use Rattle.std.specs.IoError.{error_kind, raw_os_error}
use Rattle.std.specs.declared.io.Error.{Error}
use Rattle.std.specs.declared.io.ErrorKind.TheVariants.{Interrupted}
use Rattle.streams.specs.declared.Moved.{Moved}
use Rattle.streams.specs.declared.Moved.TheVariants.{Took, End, Again, Failed}

-- C's number of an interrupted call.
abbrev pub EINTR : ℕ
EINTR = 4

-- An error is an interruption or a failure.
abbrev pub failure : ℤ → Moved
failure (pos error) = cond (eqb error EINTR) Again Failed
failure (negsuc error) = Failed

-- A negative answer is an error, 0 is the end of the input, and any other answer is a number of bytes, of which the buffer has at most `room`.
unfoldable pub outcome_of : ℤ → ℕ → ℤ → Moved
outcome_of (negsuc got) room error = failure error
outcome_of (pos zero) room error = End
outcome_of (pos (suc got)) room error = Took (min (suc got) room)

-- The number of bytes read lies within the buffer.
abbrev pub Within : Result ℕ Error → List ℕ → Type 0
Within (Ok n) buf = (n ≤ length buf) × (n ≡ length (take n buf))
Within (Err error) buf = Unit {0}

-- An error's number is errno's where the error is the system's. Another error has EINTR's where it says that the call was interrupted, and
-- otherwise 0, which is no error's.
abbrev pub IsNumberOf : Error → ℤ → Type 0
IsNumberOf error number =
    IfSome (raw_os_error error) (λ code. number ≡ code) × (raw_os_error error ≡ None → error_kind error ≡ Interrupted → number ≡ pos EINTR)
    × (raw_os_error error ≡ None → error_kind error ≢ Interrupted → number ≡ pos 0)

-- A reader's or a writer's answer in the numbers of C's call: how many bytes moved and no error, or -1 and the error's number.
abbrev pub AreNumbersOf : Result ℕ Error → ℤ → ℤ → Type 0
AreNumbersOf (Ok n) got number = (got ≡ pos n) × (number ≡ pos 0)
AreNumbersOf (Err error) got number = (got ≡ negsuc 0) × IsNumberOf error number

-- Where a reader's bytes are known: reading took the first of them, as they stand at the start of the buffer, and the buffer is full unless
-- no byte is left.
abbrev pub ReadsWhole : Option (List ℕ) → Option (List ℕ) → Result ℕ Error → List ℕ → Type 0
ReadsWhole old new (Ok n) buf = Consumes old new (take n buf) × (n < length buf → IsAtEnd new)
ReadsWhole old new (Err error) buf = Unit {0}
