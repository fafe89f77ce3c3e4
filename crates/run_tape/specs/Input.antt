-- A tape that was read into a buffer is the front of the input: all of it, or as much as the buffer holds. And what a
-- failed read leaves.
use Rattle.std.specs.Prelude.{ℕ, ◌≡◌, List, Option, IfSome, Result, Ok, Err, length, take}
use Rattle.run_tape.specs.declared.console.Failure.{Failure}
use Rattle.run_tape.specs.declared.console.Failure.TheVariants.{Reading, Writing}

-- the bytes that the input had left are known or not; where they are, this many of them stand in the buffer
abbrev pub IsFront : Option (List ℕ) → ℕ → List ℕ → Type 0
IsFront left len buffer = IfSome left (λ bytes. take len buffer ≡ take (length buffer) bytes)

-- where the input could not be read, the output holds what it held
abbrev pub NothingPrinted : Result (Unit {0}) Failure → Option (List ℕ) → Option (List ℕ) → Type 0
NothingPrinted (Err (Reading error)) before after = after ≡ before
NothingPrinted (Err (Writing error)) before after = Unit {0}
NothingPrinted (Ok done) before after = Unit {0}
