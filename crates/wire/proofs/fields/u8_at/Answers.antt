use Rattle.std.proofs.Common.{sym, arith}
use Rattle.wire.proofs.Numbers.{number-one}
use Rattle.wire.proofs.fields.u8_at.Goals as goal

pub returns : goal.returns
returns c = sym (number-one c.args.at c.args.bytes.now (omega arith))
