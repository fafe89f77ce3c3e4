use Rattle.std.proofs.Common.{get_or, sym, ◌∙◌, arith}
use Rattle.network.proofs.Ground.Splits.{both_ways}
use native.Mathlib.Numerals.{sub-one}
use Rattle.messages.proofs.RowPass.{Fresh, passing-stops, passing-more, passing-end, says-passed, says-stopped}
use Rattle.messages.proofs.rows.mark_cells.Goals as goal
use Rattle.messages.proofs.rows.mark_cells.Goals.{then-number-eq0-via-then-number-eq0, then-number-eq0-via-else-number-eq0+then-head-number, then-met-channel-via-then-met-channel, then-met-channel-via-else-met-channel+then-not-may_stand}

pub returns-then-number-eq0 : goal.returns-then-number-eq0
returns-then-number-eq0 c =
    let stale : Fresh c.args.head.now c.args.place c.loop-number.met (get_or c.args.cells.now c.loop-number.number-index 0) → ⊥ =
    λ f. elim c.then-number-eq0.branch [
      | then-number-eq0-via-then-number-eq0 w ↦ omega arith
      | then-number-eq0-via-else-number-eq0+then-head-number w ↦ omega arith
    ] in
    says-stopped (passing-stops _ _ _ _ c.loop-number.invariant c.loop-number-test.true stale)

pub returns-then-met-channel : goal.returns-then-met-channel
returns-then-met-channel c =
    let stale : Fresh c.args.head.now c.args.place c.loop-number.met (get_or c.args.cells.now c.loop-number.number-index 0) → ⊥ =
    λ f. elim c.then-met-channel.branch [
      | then-met-channel-via-then-met-channel w ↦ both_ways (rw sub-one at w.if-met-channel.true) f.first
      | then-met-channel-via-else-met-channel+then-not-may_stand w ↦
          both_ways f.right (rw sub-one at (sym w.may_stand.ensures ∙ w.if-not-may_stand.true))
    ] in
    says-stopped (passing-stops _ _ _ _ c.loop-number.invariant c.loop-number-test.true stale)

pub loop-number-preserved : goal.loop-number-preserved
loop-number-preserved c =
    passing-more _ _ _ _ c.loop-number.invariant c.loop-number-test.true
    (record {
      used = omega arith;
      known = omega arith;
      first = rw sub-one at c.if-met-channel.false;
      right = rw sub-one at (sym c.may_stand.ensures ∙ c.if-not-may_stand.false);
    })

pub returns : goal.returns
returns c = says-passed (passing-end _ _ _ _ c.loop-number.invariant c.loop-number-test.false)
