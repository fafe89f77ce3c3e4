-- Each return carries what the tests showed to the law of its case.
use Rattle.std.proofs.Common.{refl}
use Rattle.updates.proofs.Openings.{refuses, accepts}
use Rattle.updates.proofs.Reading.{node-within}
use Rattle.traffic.proofs.Entries.{enter-empty, enter-full, enter-room, enter-done}
use Rattle.traffic.proofs.enter_at.Goals as goal

pub bounds-ring-p : goal.bounds-ring-p
bounds-ring-p c = node-within c.requires

pub returns-then-waiting-eq0 : goal.returns-then-waiting-eq0
returns-then-waiting-eq0 c = refuses _ (enter-empty c.requires c.if-waiting-eq0.true) refl

pub returns-then-ring-p : goal.returns-then-ring-p
returns-then-ring-p c = refuses _ (enter-full c.requires c.if-waiting-eq0.false c.if-ring-p.true) refl

pub put-requires : goal.put-requires
put-requires c = (node-within c.requires, enter-room c.requires c.if-waiting-eq0.false c.if-ring-p.false)

pub returns : goal.returns
returns c =
    rw (c.cut.ensures, c.put.ensures)
    (accepts _ (enter-done c.requires c.if-waiting-eq0.false c.if-ring-p.false))
