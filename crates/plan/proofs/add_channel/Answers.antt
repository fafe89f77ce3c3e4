-- `plan::add_channel` meets its contract: each return carries what the tests showed to the law of its case.
use Rattle.std.proofs.Common.{refl}
use Rattle.network.specs.Runs
use Rattle.updates.proofs.Openings.{passed-on, turns-away, plan-passed, refuses, accepts}
use Rattle.plan.proofs.Building.{add-channel-full, add-channel-no-sender, add-channel-no-receiver, add-channel-done}
use Rattle.plan.proofs.add_channel.Goals as goal
use Rattle.plan.proofs.add_channel.Goals.{then-nodes-sender-via-then-nodes-sender, then-nodes-sender-via-else-nodes-sender+then-nodes-receiver}

pub returns-in_err-open : goal.returns-in_err-open
returns-in_err-open c =
    turns-away (Runs.add_channel _ _) _ c.in_err-open.ensures (passed-on c.from_residual.ensures.1)

pub returns-then-count-ge-MOST_CHANNELS : goal.returns-then-count-ge-MOST_CHANNELS
returns-then-count-ge-MOST_CHANNELS c =
    refuses _ (add-channel-full (plan-passed _ c.in_ok-open.ensures) _ _ c.if-count-ge-MOST_CHANNELS.true) refl

pub returns-then-nodes-sender : goal.returns-then-nodes-sender
returns-then-nodes-sender c =
    let h = plan-passed _ c.in_ok-open.ensures in
    let room = c.if-count-ge-MOST_CHANNELS.false in
    refuses _
    (elim c.then-nodes-sender.branch [
      | then-nodes-sender-via-then-nodes-sender w ↦ add-channel-no-sender h _ _ room w.if-nodes-sender.true
      | then-nodes-sender-via-else-nodes-sender+then-nodes-receiver w ↦
          add-channel-no-receiver h _ _ room w.if-nodes-sender.false w.if-nodes-receiver.true
    ]) refl

pub returns : goal.returns
returns c =
    let h = plan-passed _ c.in_ok-open.ensures in
    accepts _ (add-channel-done h _ _ c.if-count-ge-MOST_CHANNELS.false c.if-nodes-sender.false c.if-nodes-receiver.false)
