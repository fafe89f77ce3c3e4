-- A record that is there is judged in its bytes, and else they are zero.
use Rattle.std.proofs.Common.{rules}
use Rattle.soundness.proofs.RecordBytes.{decides-there, decides-absent}
use Rattle.soundness.proofs.records.record_fits.Goals as goal

pub returns-then-there : goal.returns-then-there
returns-then-there c =
    rw (c.if-there.true, c.record_good.ensures) (decides-there c.args.bytes.now c.requires (search rules))

pub returns : goal.returns
returns c = rw c.if-there.false (decides-absent c.args.bytes.now c.requires c.record_blank.ensures)
