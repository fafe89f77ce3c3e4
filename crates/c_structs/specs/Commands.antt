-- A command of the tape in plain numbers, and what reading and writing one answers.
use Rattle.std.specs.Prelude.{ℕ, List, Option, Some, None, Result, Ok, Err}
use Rattle.std.specs.Option.{option_map}
use Rattle.batch.specs.declared.sending.Fields.{Fields}
use Rattle.batch.specs.Sending.{no_fields}
use Rattle.refusal.specs.Number.{number_of}
use Rattle.refusal.specs.declared.Refusal.{Refusal}
use Rattle.refusal.specs.declared.Refusal.TheVariants.{UnknownCommand}
use Rattle.command.specs.declared.Action.{Action}
use Rattle.command.specs.declared.Command as made
use Rattle.tape.specs.declared.Reading as read
use Rattle.tape.specs.Table.{Row, parts_of, row_of}
use Rattle.tape.specs.Tape.{write_at, after_write}
use Rattle.c_structs.specs.declared.Command.{Command}
use Rattle.c_structs.specs.declared.Reading.{Reading}
use Rattle.c_structs.specs.declared.Writing.{Writing}

abbrev pub command : ℕ → ℕ → ℕ → Fields → Command
command code first second x = record { code = code; first = first; second = second; fields = x }

-- an action as its command byte and its operands, from the tape's table; what it does not have is 0
abbrev pub command_of : Action → Fields → Command
command_of a x = command (parts_of a).code (parts_of a).first (parts_of a).second x

-- What was read: a command and the place after it, the end, or a refusal. Where there is no command all of it is 0, the fields too.
abbrev pub nothing_read : ℕ → ℕ → Reading
nothing_read refusal end = record { next = 0; refusal = refusal; end = end; command = command 0 0 0 no_fields }

abbrev pub reading_in : Result (Option read.Reading) Refusal → Reading
reading_in (Ok (Some r)) = record { next = r.next; refusal = 0; end = 0; command = command_of r.command.action r.command.fields }
reading_in (Ok None) = nothing_read 0 1
reading_in (Err r) = nothing_read (number_of r) 0

-- what a command byte and its operands stand for, if anything, from the same table
abbrev pub action_of : ℕ → ℕ → ℕ → Option Action
action_of code first second = option_map (λ (r : Row). r.action first second) (row_of code)

abbrev pub writing_in : Result ℕ Refusal → Writing
writing_in (Ok next) = record { next = next; refusal = 0 }
writing_in (Err r) = record { next = 0; refusal = number_of r }

abbrev pub with_fields : Action → Fields → made.Command
with_fields a x = record { action = a; fields = x }

-- an unknown command byte is refused with 22, and nothing is written
abbrev pub writes : Option Action → Fields → List ℕ → ℕ → Writing
writes (Some a) x bytes place = writing_in (write_at bytes place (with_fields a x))
writes None x bytes place = writing_in (Err UnknownCommand)

abbrev pub leaves : Option Action → Fields → List ℕ → ℕ → List ℕ
leaves (Some a) x bytes place = after_write (write_at bytes place (with_fields a x)) bytes place (with_fields a x)
leaves None x bytes place = bytes

abbrev pub wanted_by : Command → Option Action
wanted_by c = action_of c.code c.first c.second

abbrev pub writing_to : List ℕ → ℕ → Command → Writing
writing_to bytes place c = writes (wanted_by c) c.fields bytes place

abbrev pub after_writing : List ℕ → ℕ → Command → List ℕ
after_writing bytes place c = leaves (wanted_by c) c.fields bytes place
