-- The commands of the tape: the table "Command tape" of document 01, and those of document 02. A command is a row: its command byte, its
-- shape, and the action that its operands make. The inverse, the command byte and the operands of an action, is given once beside it.
--
-- What a new command of a known shape costs: here its row and its line of `parts_of`; in the code the variant of `Action` and a line each of
-- `row_of` and `parts_of`; in proofs/, where all is computed, a line of `made` and a part of `all_fair` (CommandTable.antt).
use Rattle.std.specs.Prelude.{ℕ, ◌≡◌, cond, List, [], ◌∷◌, eqb, drop, Option, Some, None, option_map, unwrap_or}
use Rattle.batch.specs.declared.sending.Scale.{Scale}
use Rattle.batch.specs.declared.sending.Scale.TheVariants.{Tenths, Hundredths}
use Rattle.numbers.specs.Numbers.{node_no, channel_no}
use Rattle.command.specs.declared.Action.{Action}
use Rattle.command.specs.declared.Action.TheVariants.{AddNode, AddChannel, Start, Receive, Send, Enter, Move, Withdraw}
use Rattle.command.specs.declared.Command.{Command}
use Rattle.tape.specs.declared.Parts.{Parts}
use Rattle.tape.specs.declared.Row as found
use Rattle.tape.specs.declared.Shape.{Shape}
use Rattle.tape.specs.declared.Shape.TheVariants.{Bare, Byte, TwoBytes, ByteAndFields}
use Rattle.wire.specs.Bytes.{number_at}
use Rattle.wire.specs.Record.{fields_in}
use Rattle.tape.specs.Shape.{width_of, fields_with, bytes_with}

-- a row of the table: the command byte, the shape, and the action that the operands of one byte make
pub record Row : Type 0 where
  pub code : ℕ
  pub shape : Shape
  pub action : ℕ → ℕ → Action

abbrev row : ℕ → Shape → (ℕ → ℕ → Action) → Row
row code shape action = record { code = code; shape = shape; action = action }

unfoldable pub commands : List Row
commands =
    row 0x10 Byte (λ slots b. AddNode slots)
    ∷ row 0x11 TwoBytes (λ sender receiver. AddChannel (node_no sender) (node_no receiver))
    ∷ row 0x12 Bare (λ a b. Start)
    ∷ row 0x20 Byte (λ channel b. Receive (channel_no channel))
    ∷ row 0x21 ByteAndFields (λ channel b. Send (channel_no channel) Tenths)
    ∷ row 0x22 Byte (λ node b. Enter (node_no node))
    ∷ row 0x23 Byte (λ node b. Move (node_no node))
    ∷ row 0x24 Byte (λ channel b. Withdraw (channel_no channel))
    ∷ row 0x25 ByteAndFields (λ channel b. Send (channel_no channel) Hundredths)
    ∷ []

-- the command byte and the operands of one byte of an action, 0 where it has none
abbrev parts : ℕ → ℕ → ℕ → Parts
parts code first second = record { code = code; first = first; second = second }

-- the command byte of a send, by the unit of its temperature
abbrev pub send_code : Scale → ℕ
send_code Tenths = 0x21
send_code Hundredths = 0x25

abbrev pub parts_of : Action → Parts
parts_of (AddNode slots) = parts 0x10 slots 0
parts_of (AddChannel sender receiver) = parts 0x11 sender.0 receiver.0
parts_of Start = parts 0x12 0 0
parts_of (Receive channel) = parts 0x20 channel.0 0
parts_of (Send channel scale) = parts (send_code scale) channel.0 0
parts_of (Enter node) = parts 0x22 node.0 0
parts_of (Move node) = parts 0x23 node.0 0
parts_of (Withdraw channel) = parts 0x24 channel.0 0

-- the row of a command byte: none where no command has it
unfoldable pub find : ℕ → List Row → Option Row
find code [] = None
find code (r ∷ rows) = cond (eqb code r.code) (Some r) (find code rows)

unfoldable pub row_of : ℕ → Option Row
row_of code = find code commands

-- a row with these operands, as the code has it
abbrev pub row_with : Option Row → ℕ → ℕ → Option found.Row
row_with o first second = option_map (λ (r : Row). record { shape = r.shape; action = r.action first second }) o

-- the command that bytes which begin with the row's command byte stand for
unfoldable pub command_in : Row → List ℕ → Command
command_in r b = record {
  action = r.action (number_at 1 1 b) (number_at 2 1 b);
  fields = fields_with r.shape (fields_in (drop 2 b));
}

-- the shape of an action's command is its row's. Each action has a row (`made_again` of proofs/CommandTable.antt), so `Bare` stands in for none
abbrev pub shape_of : Action → Shape
shape_of a = unwrap_or (option_map (λ (r : Row). r.shape) (row_of (parts_of a).code)) Bare

-- how many bytes a command takes, and those bytes
unfoldable pub width : Command → ℕ
width c = width_of (shape_of c.action)

unfoldable pub bytes_of : Command → List ℕ
bytes_of c = bytes_with (shape_of c.action) (parts_of c.action) c.fields

-- the command with the blank fields where its action has none. A command that was read is plain already
unfoldable pub plain : Command → Command
plain c = record { action = c.action; fields = fields_with (shape_of c.action) c.fields }

-- The same command: the same action, and the same fields where the action has them; for a send, the same unit too. Fields beside any other
-- action say nothing and are not written.
abbrev pub SameCommand : Command → Command → Type 0
SameCommand c d = plain c ≡ plain d
