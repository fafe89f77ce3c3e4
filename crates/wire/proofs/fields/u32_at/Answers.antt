-- Byte by byte.
use Rattle.std.proofs.Common.{◌+◌, arith}
use Rattle.wire.proofs.Numbers.{number-one, number-from}
use Rattle.wire.proofs.fields.u32_at.Goals as goal

pub returns : goal.returns
returns c =
    let at = c.args.at in
    let bytes = c.args.bytes.now in
    let lowest = number-from 3 at (at + 1) bytes (omega arith) (omega arith) in
    let low = number-from 2 (at + 1) (at + 2) bytes (omega arith) (omega arith) in
    let high = number-from 1 (at + 2) (at + 3) bytes (omega arith) (omega arith) in
    let highest = number-one (at + 3) bytes (omega arith) in
    omega (arith, c.from_le_bytes.ensures)
