-- The buffer is not empty, and its first cell is a channel's.
use Rattle.std.proofs.Common.{refl}
use Rattle.updates.proofs.Openings.{refuses}
use Rattle.updates.proofs.Reading.{node-within}
use Rattle.traffic.proofs.Move.{move-empty, leaves-first, cell-used, cell-within}
use Rattle.traffic.proofs.move_at.Goals as goal

pub bounds-ring-p : goal.bounds-ring-p
bounds-ring-p c = node-within c.requires

pub returns-then-ring-p-eq0 : goal.returns-then-ring-p-eq0
returns-then-ring-p-eq0 c = refuses _ (move-empty c.requires c.if-ring-p-eq0.true) refl

pub overflow_sub-k : goal.overflow_sub-k
overflow_sub-k c = cell-used (leaves-first c.requires c.if-ring-p-eq0.false)

pub bounds-ring-k : goal.bounds-ring-k
bounds-ring-k c = cell-within (leaves-first c.requires c.if-ring-p-eq0.false)

pub bounds-ring-k-2 : goal.bounds-ring-k-2
bounds-ring-k-2 c = cell-within (leaves-first c.requires c.if-ring-p-eq0.false)

pub bounds-ring-k-3 : goal.bounds-ring-k-3
bounds-ring-k-3 c = cell-within (leaves-first c.requires c.if-ring-p-eq0.false)
