-- The lines of the report, byte by byte, as document 01 has them under "Command tape".
use Rattle.std.specs.Prelude.{ℕ, List, [], ◌∷◌, ◌++◌, take}
use Rattle.std.proofs.Math.Option.{Option, none, some}
use Rattle.batch.specs.declared.BatchRecord.{BatchRecord}
use Rattle.numbers.specs.declared.ChannelNo.{ChannelNo}
use Rattle.network.specs.Calls.{Delivery}
use Rattle.network.specs.Answers.{Reply, number_in, delivered_in}
use Rattle.text.specs.Digits.{decimal, hex2, signed}
use Rattle.text.specs.Fields.{space, field, name_field}

-- room for any line: none is longer
abbrev pub line_room : ℕ
line_room = 160

-- what ends a line
abbrev pub newline : ℕ
newline = 0x0A

-- the ten bytes ` delivered`
abbrev pub delivered_bytes : List ℕ
delivered_bytes = 0x20 ∷ 0x64 ∷ 0x65 ∷ 0x6C ∷ 0x69 ∷ 0x76 ∷ 0x65 ∷ 0x72 ∷ 0x65 ∷ 0x64 ∷ []

-- the three bytes `end`
abbrev pub end_bytes : List ℕ
end_bytes = 0x65 ∷ 0x6E ∷ 0x64 ∷ []

-- the eight bytes `too long`
abbrev pub too_long_bytes : List ℕ
too_long_bytes = 0x74 ∷ 0x6F ∷ 0x6F ∷ 0x20 ∷ 0x6C ∷ 0x6F ∷ 0x6E ∷ 0x67 ∷ []

-- channel, batch number, vessel, temperature, name length and name. A length over the name's 32 cells takes all of them.
unfoldable pub record_fields : ChannelNo → BatchRecord → List ℕ
record_fields channel x =
    field channel.0
    ++ field x.batch.0
    ++ field x.vessel
    ++ (space ∷ signed x.temperature)
    ++ field x.name_length
    ++ name_field (take x.name_length x.name)

-- what a delivery has after the refusal's number; where there is none, nothing
abbrev pub delivery_bytes : Option Delivery → List ℕ
delivery_bytes none = []
delivery_bytes (some d) = delivered_bytes ++ record_fields d.channel d.«record»

-- a command's line: its number, the command byte, the refusal or 0, the delivery
unfoldable pub line_of : ℕ → ℕ → Reply → List ℕ
line_of number command reply =
    decimal number
    ++ (space ∷ hex2 command)
    ++ field (number_in reply)
    ++ delivery_bytes (delivered_in reply)
    ++ newline ∷ []

-- the last line: `end`, accepted, refused
unfoldable pub end_of : ℕ → ℕ → List ℕ
end_of accepted refused = end_bytes ++ field accepted ++ field refused ++ newline ∷ []

-- the only line of a tape that is too long
unfoldable pub too_long : List ℕ
too_long = too_long_bytes ++ newline ∷ []
