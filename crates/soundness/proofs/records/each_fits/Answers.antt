use Rattle.messages.proofs.Loops.{counting-wrong, counting-right}
use Rattle.messages.proofs.Zeros.{part-is-row}
use Rattle.soundness.proofs.records.each_fits.Goals as goal
use Rattle.soundness.proofs.records.each_fits.Goals.{then-not-record_fits, else-not-record_fits}

pub loop-k-preserved : goal.loop-k-preserved
loop-k-preserved c =
    let judged = rw part-is-row at c.record_fits.ensures in
    elim c.if-not-record_fits.branch [
      | then-not-record_fits w ↦
          counting-wrong c.loop-k.invariant c.loop-k-test.true judged w.if-not-record_fits.true w.wrong-is
      | else-not-record_fits w ↦
          counting-right c.loop-k.invariant c.loop-k-test.true judged w.if-not-record_fits.false w.wrong-is
    ]
