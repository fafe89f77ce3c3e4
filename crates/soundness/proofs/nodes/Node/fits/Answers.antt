use Rattle.soundness.proofs.InUse.{decides-nothing}
use Rattle.soundness.proofs.nodes.Node.fits.Goals as goal

pub returns : goal.returns
returns c = rw c.if-in_use.false (decides-nothing _ _ _ _)
