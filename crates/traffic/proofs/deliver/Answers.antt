-- The changes one after the other are those of the law.
use Rattle.traffic.proofs.Move.{cell-used, cell-within, can-leave, hands-out, deliver-done}
use Rattle.traffic.proofs.deliver.Goals as goal

pub overflow_sub-channel : goal.overflow_sub-channel
overflow_sub-channel c = cell-used c.requires.leaves

pub leave-requires : goal.leave-requires
leave-requires c = can-leave c.requires.leaves

pub record_of-record-requires : goal.record_of-record-requires
record_of-record-requires c = cell-within c.requires.leaves

pub clear_record-requires : goal.clear_record-requires
clear_record-requires c = cell-within c.requires.leaves

pub bounds-ring-k : goal.bounds-ring-k
bounds-ring-k c = cell-within c.requires.leaves

pub returns : goal.returns
returns c =
    rw (c.one_more-ring.ensures, c.record_of-record.ensures, c.clear_record.ensures, c.leave.ensures)
    (hands-out _ (deliver-done c.requires))
