use Rattle.std.proofs.Common.{arith, rules}
use lib.Seq.{length-take-le}
use Rattle.wire.proofs.Buffer.{copied_front}
use Rattle.wire.proofs.put_name.Goals as goal

pub copy_from_slice-requires : goal.copy_from_slice-requires
copy_from_slice-requires c = rw (length-take-le 32 c.args.bytes.now (omega arith)) (search rules)

pub returns : goal.returns
returns c = copied_front _ _ _ 32 c.copy_from_slice.ensures.after (search rules)
