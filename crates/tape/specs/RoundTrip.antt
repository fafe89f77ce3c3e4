-- What is claimed of reading and writing together: what was written reads back, and what was read writes back.
use Rattle.std.specs.Prelude.{ℕ, ◌+◌, ◌<◌, ◌≡◌, List, Option, Some, None, Result, Ok, Err}
use Rattle.wire.specs.Bytes.{Bytes, overwritten}
use Rattle.wire.specs.Record.{FieldsFit}
use Rattle.command.specs.declared.Action.{Action}
use Rattle.command.specs.declared.Command.{Command}
use Rattle.refusal.specs.declared.Refusal.{Refusal}
use Rattle.tape.specs.declared.Reading.{Reading}
use Rattle.tape.specs.Table.{parts_of, bytes_of, width, plain, SameCommand}
use Rattle.tape.specs.Tape.{found, read_at, write_at}

-- the values that the operands of a command can hold, by their types
abbrev pub OperandsFit : Action → Type 0
OperandsFit a = ((parts_of a).first < 256) × ((parts_of a).second < 256)

-- what reading finds where a command was written: the same command, with the blank fields where its action has none, and the next place
abbrev pub FoundAgain : List ℕ → ℕ → ℕ → Command → Type 0
FoundAgain bytes place next c = (read_at bytes place ≡ found next (plain c)) × SameCommand (plain c) c

-- what was written reads back
abbrev pub WrittenReadsBack : Type 0
WrittenReadsBack =
    (bytes : List ℕ) (place next : ℕ) (c : Command) → OperandsFit c.action → FieldsFit c.fields
    → write_at bytes place c ≡ Ok next → FoundAgain (overwritten bytes place (bytes_of c)) place next c

-- so a command without needless fields is read back itself
abbrev pub PlainReadsBack : Type 0
PlainReadsBack =
    (bytes : List ℕ) (place next : ℕ) (c : Command) → OperandsFit c.action → FieldsFit c.fields → plain c ≡ c
    → write_at bytes place c ≡ Ok next → read_at (overwritten bytes place (bytes_of c)) place ≡ found next c

-- what was read writes back: the same next place, and the bytes as they were
abbrev pub ReadWritesBack : Type 0
ReadWritesBack =
    (bytes : List ℕ) (place next : ℕ) (c : Command) → Bytes bytes → read_at bytes place ≡ found next c
    → (write_at bytes place c ≡ Ok next) × (overwritten bytes place (bytes_of c) ≡ bytes)

-- a command that was read has fields only where its action has them, and its width leads to the next place
abbrev pub ReadIsPlain : Type 0
ReadIsPlain =
    (bytes : List ℕ) (place next : ℕ) (c : Command) → read_at bytes place ≡ found next c
    → (plain c ≡ c) × (next ≡ place + width c)

-- the same as a promise to a caller: every value of a command's type fits, and so does every byte of a slice
abbrev pub ReadsBack : Result ℕ Refusal → List ℕ → ℕ → Command → Type 0
ReadsBack (Ok next) bytes place c = FoundAgain bytes place next c
ReadsBack (Err r) bytes place c = Unit {0}

abbrev pub WritesBack : Result (Option Reading) Refusal → List ℕ → ℕ → Type 0
WritesBack (Ok (Some r)) bytes place = (write_at bytes place r.command ≡ Ok r.next) × (overwritten bytes place (bytes_of r.command) ≡ bytes)
WritesBack (Ok None) bytes place = Unit {0}
WritesBack (Err r) bytes place = Unit {0}
