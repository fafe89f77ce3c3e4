-- What reading and writing a command answers, first refusal first, and what writing leaves in the buffer: document 01,
-- "Read a command" and "Write a command". The refusals are 22 UnknownCommand, 23 CommandCut, 24 PlaceBeyondEnd and
-- 26 NoRoomToWrite.
use Rattle.std.specs.Prelude.{ℕ, ◌+◌, ◌-◌, cond, List, eqb, ltb, length, get_or, drop, Option, Some, None, Result, Ok, Err}
use Rattle.refusal.specs.Number.{number_of}
use Rattle.refusal.specs.declared.Refusal.{Refusal}
use Rattle.refusal.specs.declared.Refusal.TheVariants.{UnknownCommand, CommandCut, PlaceBeyondEnd, NoRoomToWrite}
use Rattle.command.specs.declared.Command.{Command}
use Rattle.tape.specs.declared.Reading.{Reading}
use Rattle.wire.specs.Bytes.{overwritten}
use Rattle.tape.specs.Shape.{width_of}
use Rattle.tape.specs.Table.{Row, row_of, command_in, width, bytes_of}

-- document 01's number for each case of an answer: that of the refusal, or 0
abbrev pub read_number : Result (Option Reading) Refusal → ℕ
read_number (Ok found) = 0
read_number (Err r) = number_of r

abbrev pub write_number : Result ℕ Refusal → ℕ
write_number (Ok next) = 0
write_number (Err r) = number_of r

-- reading finds a command, and the place after it
abbrev pub found : ℕ → Command → Result (Option Reading) Refusal
found next c = Ok (Some (record { command = c; next = next }))

-- reading bytes that begin with the command byte of a row, at a place: 22, 23, or the command and the next place
unfoldable pub read_row : Option Row → ℕ → List ℕ → Result (Option Reading) Refusal
read_row None place b = Err UnknownCommand
read_row (Some r) place b =
    cond (ltb (length b) (width_of r.shape)) (Err CommandCut) (found (place + width_of r.shape) (command_in r b))

-- reading at a place: 24, the end, or what the row of the command byte says
unfoldable pub read_at : List ℕ → ℕ → Result (Option Reading) Refusal
read_at bytes place =
    cond (ltb (length bytes) place) (Err PlaceBeyondEnd)
    (cond (eqb place (length bytes)) (Ok None)
    (read_row (row_of (get_or bytes place 0)) place (drop place bytes)))

-- what writing answers: 24, 26, or the next place
unfoldable pub write_at : List ℕ → ℕ → Command → Result ℕ Refusal
write_at bytes place c =
    cond (ltb (length bytes) place) (Err PlaceBeyondEnd)
    (cond (ltb (length bytes - place) (width c)) (Err NoRoomToWrite)
    (Ok (place + width c)))

-- what the buffer holds after an answer of writing
unfoldable pub after_write : Result ℕ Refusal → List ℕ → ℕ → Command → List ℕ
after_write (Ok next) bytes place c = overwritten bytes place (bytes_of c)
after_write (Err r) bytes place c = bytes
