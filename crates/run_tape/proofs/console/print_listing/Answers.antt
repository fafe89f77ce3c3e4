use Rattle.std.proofs.Common.{refl, ◌∙◌}
use Rattle.run_tape.proofs.Printed.{begins, goes_on, whole}
use Rattle.run_tape.proofs.console.print_listing.Goals as goal

pub loop-session-init : goal.loop-session-init
loop-session-init g c = (refl, rw c.begin-session.ensures (begins _ _))

pub loop-session-preserved : goal.loop-session-preserved
loop-session-preserved g c = (
  c.run-written.auto.out ∙ c.loop-session.invariant.0,
  goes_on _ c.loop-session.invariant.1 c.run-written.ensures.text c.in_ok-write_all.ensures.bytes,
)

pub returns : goal.returns
returns g c = whole c.loop-session.invariant.1 c.loop-session-test.false
