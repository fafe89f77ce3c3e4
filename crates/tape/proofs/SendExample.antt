-- The listing's send command and its like in hundredths, computed.
use mathlib.Core.Path.{refl}
use Rattle.wire.specs.Bytes.{little, number, twos, signed}
use Rattle.wire.specs.Record.{record_bytes, record_in}
use Rattle.tape.specs.Shape.{bytes_with}
use Rattle.tape.specs.Table.{commands, find, row_of, command_in, bytes_of}
use Rattle.tape.specs.Tape.{read_row, read_at}
use Rattle.tape.specs.SendExample.{SentAsListed, SentInHundredths}

pub sent-as-listed : SentAsListed
unfolding little number twos signed record_bytes record_in bytes_with commands find row_of command_in bytes_of read_row read_at
sent-as-listed = (refl, refl)

pub sent-in-hundredths : SentInHundredths
unfolding little number twos signed record_bytes record_in bytes_with commands find row_of command_in bytes_of read_row read_at
sent-in-hundredths = (refl, refl)
