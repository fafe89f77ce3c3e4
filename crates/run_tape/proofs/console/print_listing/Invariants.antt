-- What was printed so far and what is then to come are together the listing; the measure is how many bytes are to come.
use Rattle.std.proofs.Common.{◌≡◌, length}
use Rattle.runner.specs.Listing.{to_come}
use Rattle.run_tape.proofs.Printed.{Printed}
use Rattle.run_tape.proofs.console.print_listing.Given as goal

abbrev pub invariant-loop-session : goal.invariant-loop-session
invariant-loop-session g l =
    (length l.out ≡ 65536) × Printed l.tape l.session (g.W.Write.contents l.initial.output) (g.W.Write.contents l.output)

abbrev pub decreases-loop-session : goal.decreases-loop-session
decreases-loop-session g l = length (to_come l.tape l.session)
