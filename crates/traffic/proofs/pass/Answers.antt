-- Each return carries what the tests showed to the law of its case.
use Rattle.std.proofs.Common.{refl}
use Rattle.updates.proofs.Openings.{refuses, accepts}
use Rattle.traffic.proofs.Move.{nodes_within, pass-full, pass-marked, pass-room, pass-done}
use Rattle.traffic.proofs.pass.Goals as goal

pub bounds-ring-q : goal.bounds-ring-q
bounds-ring-q c = (nodes_within c.requires).1

pub bounds-ring-q-2 : goal.bounds-ring-q-2
bounds-ring-q-2 c = (nodes_within c.requires).1

pub returns-then-ring-q : goal.returns-then-ring-q
returns-then-ring-q c = refuses _ (pass-full c.requires c.if-ring-q.true) refl

pub returns-then-ring-q-ne0 : goal.returns-then-ring-q-ne0
returns-then-ring-q-ne0 c = refuses _ (pass-marked c.requires c.if-ring-q.false c.if-ring-q-ne0.true) refl

pub put-requires : goal.put-requires
put-requires c = ((nodes_within c.requires).1, rw c.leave.ensures (pass-room c.requires c.if-ring-q.false))

pub returns : goal.returns
returns c =
    rw (c.mark_after.ensures, c.put.ensures, c.leave.ensures)
    (accepts _ (pass-done c.requires c.if-ring-q.false c.if-ring-q-ne0.false))
