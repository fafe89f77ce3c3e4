-- The table is the one after the rows of the nodes passed.
use Rattle.std.proofs.Common.{◌≡◌, Some}
use Rattle.messages.specs.Messages.{mark_rows}
use Rattle.messages.proofs.rows.mark.Given as goal

abbrev pub invariant-loop-p : goal.invariant-loop-p
invariant-loop-p l = mark_rows l.ring l.p l.fn.met ≡ Some l.met
