-- What C may rely on when it reads and writes commands: the command that was read, written at its place, leaves the bytes as they were; and
-- what was written reads back as the same command. Both follow from the round trips of the tape (tape/specs/RoundTrip).
use Rattle.std.specs.Prelude.{ℕ, ◌<◌, ◌≡◌, List, Option, Some, None}
use Rattle.wire.specs.Bytes.{Bytes}
use Rattle.wire.specs.Record.{FieldsFit}
use Rattle.tape.specs.Shape.{fields_with}
use Rattle.tape.specs.Table.{shape_of}
use Rattle.tape.specs.Tape.{read_at}
use Rattle.c_structs.specs.declared.Command.{Command}
use Rattle.c_structs.specs.declared.Reading.{Reading}
use Rattle.c_structs.specs.declared.Writing.{Writing}
use Rattle.command.specs.declared.Action.{Action}
use Rattle.c_structs.specs.Commands.{command_of, reading_in, wanted_by, writing_to, after_writing}

-- the command with zeros where it has no operand and no fields: what it says there is not written
abbrev pub plain_by : Option Action → Command → Command
plain_by (Some a) c = command_of a (fields_with (shape_of a) c.fields)
plain_by None c = c

abbrev pub plain_command : Command → Command
plain_command c = plain_by (wanted_by c) c

-- the same command, but for what is not written
abbrev pub SameCommand : Command → Command → Type 0
SameCommand c d = plain_command c ≡ plain_command d

-- it was written, and this is the place after it
abbrev pub written_to : ℕ → Writing
written_to next = record { next = next; refusal = 0 }

-- What was read, neither refused nor the end: its command is written up to the same place, every byte stays as it was, and it says nothing
-- that is not written.
pub record WritesBack (bytes : List ℕ) (place : ℕ) (r : Reading) : Type 0 where
  pub answer : writing_to bytes place r.command ≡ written_to r.next
  pub buffer : after_writing bytes place r.command ≡ bytes
  pub plain : plain_command r.command ≡ r.command

abbrev pub ReadWritesBack : Type 0
ReadWritesBack =
    (bytes : List ℕ) (place : ℕ) → Bytes bytes
    → let r = reading_in (read_at bytes place) in r.refusal ≡ 0 → r.end ≡ 0 → WritesBack bytes place r

-- the values that the numbers of a command can hold, by their types
pub record NumbersFit (c : Command) : Type 0 where
  pub first : c.first < 256
  pub second : c.second < 256
  pub fields : FieldsFit c.fields

-- what was written reads back as the same command, up to the same place
abbrev pub WrittenReadsBack : Type 0
WrittenReadsBack =
    (bytes : List ℕ) (place next : ℕ) (c : Command) → NumbersFit c → writing_to bytes place c ≡ written_to next
    → (reading_in (read_at (after_writing bytes place c) place) ≡ record { next = next; refusal = 0; end = 0; command = plain_command c })
    × SameCommand (plain_command c) c
