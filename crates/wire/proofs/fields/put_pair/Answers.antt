use Rattle.std.proofs.Common.{◌≡◌, ◌%◌, refl, arith}
use Rattle.wire.specs.Bytes.{little}
use Rattle.wire.proofs.Buffer.{copied_front}
use Rattle.wire.proofs.fields.put_pair.Goals as goal

pub returns : goal.returns
unfolding little
returns c =
    let first : c.args.first % 256 ≡ c.args.first = omega arith in
    let second : c.args.second % 256 ≡ c.args.second = omega arith in
    rw (first, second) (copied_front _ _ _ 2 c.copy_from_slice.ensures.after refl)
