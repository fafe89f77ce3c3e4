-- `tasks::receive` meets its contract: each return carries what the tests showed to the law of its case.
use Rattle.std.proofs.Common.{refl}
use Rattle.network.specs.Runs
use Rattle.updates.proofs.Openings.{passed-on, turns-away, channel-passed, refuses, accepts}
use Rattle.updates.proofs.Reading.{channel-within}
use Rattle.tasks.proofs.Offers.{receive-busy, receive-room, receive-done}
use Rattle.tasks.proofs.receive.Goals as goal

pub returns-in_err-open : goal.returns-in_err-open
returns-in_err-open c =
    turns-away (Runs.receive _) _ c.in_err-open.ensures (passed-on c.from_residual.ensures.1)

pub bounds-ring-k : goal.bounds-ring-k
bounds-ring-k c = channel-within (channel-passed _ c.in_ok-open.ensures)

pub returns-then-ring-k-ne-RESTING : goal.returns-then-ring-k-ne-RESTING
returns-then-ring-k-ne-RESTING c =
    refuses _ (receive-busy (channel-passed _ c.in_ok-open.ensures) c.if-ring-k-ne-RESTING.true) refl

pub bounds-ring-k-2 : goal.bounds-ring-k-2
bounds-ring-k-2 c = channel-within (channel-passed _ c.in_ok-open.ensures)

pub bounds-ring-k-3 : goal.bounds-ring-k-3
bounds-ring-k-3 c = channel-within (channel-passed _ c.in_ok-open.ensures)

pub join-requires : goal.join-requires
join-requires c = receive-room (channel-passed _ c.in_ok-open.ensures) c.if-ring-k-ne-RESTING.false

pub returns : goal.returns
returns c =
    rw c.join.ensures (accepts _ (receive-done (channel-passed _ c.in_ok-open.ensures) c.if-ring-k-ne-RESTING.false))
