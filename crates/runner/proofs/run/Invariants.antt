-- Each turn of the loop is the next line of the session; the measure is how many bytes are to come.
use Rattle.std.proofs.Common.{length}
use Rattle.runner.specs.Listing.{to_come}
use Rattle.runner.proofs.SoFar.{SoFar}
use Rattle.runner.proofs.run.Given as goal

abbrev pub invariant-loop-session : goal.invariant-loop-session
invariant-loop-session l = SoFar l.tape l.fn.out l.fn.session l.out l.session l.written

abbrev pub decreases-loop-session : goal.decreases-loop-session
decreases-loop-session l = length (to_come l.tape l.session)
