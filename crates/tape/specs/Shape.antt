-- The shapes of a command: what follows its command byte. A shape has the width, and how operands are written and read.
use Rattle.std.specs.Prelude.{ℕ, ◌+◌, Bool, true, false, cond, List, ◌++◌}
use Rattle.batch.specs.declared.sending.Fields.{Fields}
use Rattle.batch.specs.Sending.{no_fields}
use Rattle.wire.specs.Bytes.{little}
use Rattle.wire.specs.Record.{record_length, field_bytes}
use Rattle.tape.specs.declared.Parts.{Parts}
use Rattle.tape.specs.declared.Shape.{Shape}
use Rattle.tape.specs.declared.Shape.TheVariants.{Bare, Byte, TwoBytes, ByteAndFields}

-- how many bytes a command of the shape takes, its command byte among them
abbrev pub width_of : Shape → ℕ
width_of Bare = 1
width_of Byte = 2
width_of TwoBytes = 3
width_of ByteAndFields = 2 + record_length

-- whether it has the fields of a send, and the fields beside the action: the blank ones where the shape has none
abbrev pub carries : Shape → Bool
carries Bare = false
carries Byte = false
carries TwoBytes = false
carries ByteAndFields = true

abbrev pub fields_with : Shape → Fields → Fields
fields_with s x = cond (carries s) x no_fields

-- the bytes of a command of the shape: its command byte, then its operands, low byte first
unfoldable pub bytes_with : Shape → Parts → Fields → List ℕ
bytes_with Bare p x = little 1 p.code
bytes_with Byte p x = little 1 p.code ++ little 1 p.first
bytes_with TwoBytes p x = (little 1 p.code ++ little 1 p.first) ++ little 1 p.second
bytes_with ByteAndFields p x = (little 1 p.code ++ little 1 p.first) ++ field_bytes x
