-- Byte by byte.
use Rattle.std.proofs.Common.{◌+◌, arith}
use Rattle.wire.proofs.Numbers.{number-one, number-from}
use Rattle.wire.proofs.fields.u16_at.Goals as goal

pub returns : goal.returns
returns c =
    let at = c.args.at in
    let bytes = c.args.bytes.now in
    let low = number-from 1 at (at + 1) bytes (omega arith) (omega arith) in
    let high = number-one (at + 1) bytes (omega arith) in
    omega (arith, c.from_le_bytes.ensures)
