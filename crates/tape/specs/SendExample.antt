-- The send command of document 01's listing, as a command and as its 42 bytes; and the same numbers as command 25, in hundredths. Read, each
-- keeps its unit, and is written back as the command that it was read as.
use Rattle.std.specs.Prelude.{ℕ, ◌≡◌, List, [], ◌∷◌, ◌++◌, pos, replicate}
use Rattle.batch.specs.declared.sending.Fields.{Fields}
use Rattle.batch.specs.declared.sending.Scale.{Scale}
use Rattle.batch.specs.declared.sending.Scale.TheVariants.{Tenths, Hundredths}
use Rattle.numbers.specs.Numbers.{channel_no}
use Rattle.command.specs.declared.Action.TheVariants.{Send}
use Rattle.command.specs.declared.Command.{Command}
use Rattle.tape.specs.Table.{bytes_of}
use Rattle.tape.specs.Tape.{found, read_at}

-- channel 0, batch 7, vessel 3, 612 tenths or hundredths of a degree, the name `A1`
abbrev pub sent_fields : Fields
sent_fields =
    record { batch = record { 0 = 7 }; vessel = 3; temperature = pos 612; name_length = 2; name = 0x41 ∷ 0x31 ∷ replicate 30 0 }

abbrev pub sent : Scale → Command
sent scale = record { action = Send (channel_no 0) scale; fields = sent_fields }

abbrev pub sent_bytes : ℕ → List ℕ
sent_bytes code =
    (code ∷ 0x00 ∷ 0x07 ∷ 0x00 ∷ 0x00 ∷ 0x00 ∷ 0x03 ∷ 0x64 ∷ 0x02 ∷ 0x02 ∷ 0x41 ∷ 0x31 ∷ []) ++ replicate 30 0x00

abbrev pub SentAsListed : Type 0
SentAsListed = (bytes_of (sent Tenths) ≡ sent_bytes 0x21) × (read_at (sent_bytes 0x21) 0 ≡ found 42 (sent Tenths))

abbrev pub SentInHundredths : Type 0
SentInHundredths = (bytes_of (sent Hundredths) ≡ sent_bytes 0x25) × (read_at (sent_bytes 0x25) 0 ≡ found 42 (sent Hundredths))
