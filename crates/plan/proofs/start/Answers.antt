-- `plan::start` meets its contract: each return carries what the tests showed to the law of its case.
use Rattle.std.proofs.Common.{refl}
use Rattle.network.specs.Runs
use Rattle.updates.proofs.Openings.{passed-on, turns-away, plan-passed, refuses, accepts}
use Rattle.plan.proofs.Building.{start-no-node, start-no-channel, start-too-few, start-done}
use Rattle.plan.proofs.start.Goals as goal
use Rattle.plan.proofs.start.Goals.{then-ring-lt1-via-then-ring-lt1, then-ring-lt1-via-else-ring-lt1+then-channels-lt1}

pub returns-in_err-open : goal.returns-in_err-open
returns-in_err-open c =
    turns-away Runs.start _ c.in_err-open.ensures (passed-on c.from_residual.ensures.1)

pub returns-then-ring-lt1 : goal.returns-then-ring-lt1
returns-then-ring-lt1 c =
    let h = plan-passed _ c.in_ok-open.ensures in
    refuses _
    (elim c.then-ring-lt1.branch [
      | then-ring-lt1-via-then-ring-lt1 w ↦ start-no-node h w.if-ring-lt1.true
      | then-ring-lt1-via-else-ring-lt1+then-channels-lt1 w ↦ start-no-channel h w.if-ring-lt1.false w.if-channels-lt1.true
    ]) refl

pub returns-then-slot_count-channels : goal.returns-then-slot_count-channels
returns-then-slot_count-channels c =
    let h = plan-passed _ c.in_ok-open.ensures in
    let few = rw c.slot_count.ensures at c.if-slot_count-channels.true in
    refuses _ (start-too-few h c.if-ring-lt1.false c.if-channels-lt1.false few) refl

pub returns : goal.returns
returns c =
    let h = plan-passed _ c.in_ok-open.ensures in
    let more = rw c.slot_count.ensures at c.if-slot_count-channels.false in
    accepts _ (start-done h c.if-ring-lt1.false c.if-channels-lt1.false more)
