use Rattle.std.proofs.Common.{refl, arith}
use Rattle.batch.proofs.Places.{counted}
use Rattle.soundness.proofs.InUse.{used_start, used-wrong, used-right}
use Rattle.soundness.proofs.nodes.nodes_fit.Goals as goal
use Rattle.soundness.proofs.nodes.nodes_fit.Goals.{then-not-fits, else-not-fits}

pub loop-p-init : goal.loop-p-init
loop-p-init c = used_start (counted _ refl)

pub loop-p-preserved : goal.loop-p-preserved
loop-p-preserved c =
    elim c.if-not-fits.branch [
      | then-not-fits w ↦
          used-wrong c.loop-p.invariant c.loop-p-test.true (omega arith) c.fits.ensures w.if-not-fits.true w.wrong-is
      | else-not-fits w ↦
          used-right c.loop-p.invariant c.loop-p-test.true (omega arith) c.fits.ensures w.if-not-fits.false w.wrong-is
    ]
