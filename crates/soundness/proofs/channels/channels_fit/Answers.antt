use Rattle.std.proofs.Common.{refl, arith}
use Rattle.batch.proofs.Places.{counted}
use Rattle.soundness.proofs.InUse.{used_start, used-wrong, used-right}
use Rattle.soundness.proofs.channels.channels_fit.Goals as goal
use Rattle.soundness.proofs.channels.channels_fit.Goals.{then-not-fits, else-not-fits}

pub loop-k-init : goal.loop-k-init
loop-k-init c = used_start (counted _ refl)

pub loop-k-preserved : goal.loop-k-preserved
loop-k-preserved c =
    elim c.if-not-fits.branch [
      | then-not-fits w ↦
          used-wrong c.loop-k.invariant c.loop-k-test.true (omega arith) c.fits.ensures w.if-not-fits.true w.wrong-is
      | else-not-fits w ↦
          used-right c.loop-k.invariant c.loop-k-test.true (omega arith) c.fits.ensures w.if-not-fits.false w.wrong-is
    ]
