use Rattle.runner.proofs.SoFar.{begun, went_on, shorter}
use Rattle.runner.proofs.run.Goals as goal

pub loop-session-init : goal.loop-session-init
loop-session-init c = begun _ _ _

pub loop-session-smaller : goal.loop-session-smaller
loop-session-smaller c = shorter c.loop-session.invariant c.loop-session-test.true c.next_line-written.ensures

pub loop-session-preserved : goal.loop-session-preserved
loop-session-preserved c = went_on c.loop-session.invariant c.loop-session-test.true c.next_line-written.ensures
