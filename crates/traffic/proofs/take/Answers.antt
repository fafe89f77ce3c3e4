-- Each return carries what the test showed to the law of its case.
use Rattle.updates.proofs.Openings.{accepts}
use Rattle.traffic.proofs.Move.{cell-used, can-leave, take-ready, take-room, take-responds}
use Rattle.traffic.proofs.take.Goals as goal

pub overflow_sub-channel : goal.overflow_sub-channel
overflow_sub-channel c = cell-used c.requires.leaves

pub leave-requires : goal.leave-requires
leave-requires c = can-leave c.requires.leaves

pub returns-then-ring-k-eq0 : goal.returns-then-ring-k-eq0
returns-then-ring-k-eq0 c =
    rw c.leave.ensures (accepts _ (take-ready c.requires (rw c.leave.ensures at c.if-ring-k-eq0.true)))

pub respond-requires : goal.respond-requires
respond-requires c = rw c.leave.ensures (take-room c.requires (λ bare. c.if-ring-k-eq0.false (rw c.leave.ensures bare)))

pub returns : goal.returns
returns c =
    rw (c.respond.ensures, c.record_of-record.ensures, c.clear_record.ensures, c.leave.ensures)
    (accepts _ (take-responds c.requires (λ bare. c.if-ring-k-eq0.false (rw c.leave.ensures bare))))
