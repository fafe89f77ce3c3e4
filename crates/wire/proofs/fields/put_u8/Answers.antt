-- A store at the front.
use Rattle.std.proofs.Common.{◌≡◌, ◌%◌, arith}
use lib.Seq.{set_split}
use Rattle.wire.specs.Bytes.{little, overwritten}
use Rattle.wire.proofs.fields.put_u8.Goals as goal

pub returns : goal.returns
unfolding little overwritten
returns c =
    let byte : c.args.value % 256 ≡ c.args.value = omega arith in
    rw byte (set_split c.args.bytes.now 0 c.args.value (omega arith))
