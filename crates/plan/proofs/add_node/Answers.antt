-- `plan::add_node` meets its contract: each return carries what the tests showed to the law of its case.
use Rattle.std.proofs.Common.{refl, sym, ◌∙◌}
use Rattle.network.specs.Runs
use Rattle.updates.proofs.Openings.{passed-on, turns-away, plan-passed, refuses, accepts}
use Rattle.plan.proofs.Building.{slots-test, add-node-full, add-node-bad, add-node-done}
use Rattle.plan.proofs.add_node.Goals as goal

pub returns-in_err-open : goal.returns-in_err-open
returns-in_err-open c =
    turns-away (Runs.add_node _) _ c.in_err-open.ensures (passed-on c.from_residual.ensures.1)

pub returns-then-count-ge-MOST_NODES : goal.returns-then-count-ge-MOST_NODES
returns-then-count-ge-MOST_NODES c =
    refuses _ (add-node-full (plan-passed _ c.in_ok-open.ensures) _ c.if-count-ge-MOST_NODES.true) refl

pub returns-then-not-contains : goal.returns-then-not-contains
returns-then-not-contains c =
    let h = plan-passed _ c.in_ok-open.ensures in
    let test = slots-test c.args.capacity c.new.result c.new.ensures.start c.new.ensures.end c.new.ensures.exhausted in
    refuses _ (add-node-bad h _ c.if-count-ge-MOST_NODES.false (test ∙ sym c.if-not-contains.ensures.value)) refl

pub returns : goal.returns
returns c =
    let h = plan-passed _ c.in_ok-open.ensures in
    let test = slots-test c.args.capacity c.new.result c.new.ensures.start c.new.ensures.end c.new.ensures.exhausted in
    accepts _ (add-node-done h _ c.if-count-ge-MOST_NODES.false (test ∙ sym c.if-not-contains.ensures.value))
