-- `tasks::withdraw` meets its contract: each return carries what the tests showed to the law of its case.
use Rattle.std.proofs.Common.{ℕ, ◌≡◌, refl, arith, sym, ap, ◌∙◌}
use Rattle.std.specs.Prelude.{Result, Err}
use Rattle.refusal.specs.declared.Refusal.{Refusal}
use Rattle.refusal.specs.declared.Refusal.TheVariants.{RequestInBuffer}
use Rattle.network.specs.Runs
use Rattle.updates.proofs.Openings.{passed-on, turns-away, channel-passed, refuses, accepts}
use Rattle.updates.proofs.Reading.{channel-within}
use Rattle.tasks.proofs.Withdrawals.{withdraw-quiet, receiver-within, line-within, withdraw-gone, can-leave, withdraw-done}
use Rattle.tasks.proofs.withdraw.Goals as goal

pub leave_line-requires : goal.leave_line-requires
leave_line-requires c =
    let h = channel-passed _ c.in_ok-open.ensures in
    can-leave h c.if-ring-k-ne-ASKING.false (sym c.index_in-request.ensures ∙ c.in_ok-place.ensures.ok_part)

pub returns-in_err-open : goal.returns-in_err-open
returns-in_err-open c =
    turns-away (Runs.withdraw _) _ c.in_err-open.ensures (passed-on c.from_residual.ensures.1)

pub bounds-ring-k : goal.bounds-ring-k
bounds-ring-k c = channel-within (channel-passed _ c.in_ok-open.ensures)

pub returns-then-ring-k-ne-ASKING : goal.returns-then-ring-k-ne-ASKING
returns-then-ring-k-ne-ASKING c =
    refuses _ (withdraw-quiet (channel-passed _ c.in_ok-open.ensures) c.if-ring-k-ne-ASKING.true) refl

pub bounds-ring-at : goal.bounds-ring-at
bounds-ring-at c = receiver-within (channel-passed _ c.in_ok-open.ensures)

pub slice_bounds-line-end : goal.slice_bounds-line-end
slice_bounds-line-end c =
    let h = channel-passed _ c.in_ok-open.ensures in
    omega (arith, receiver-within h, line-within h)

-- the request is not in the line
pub returns-in_err-place : goal.returns-in_err-place
returns-in_err-place c =
    let h = channel-passed _ c.in_ok-open.ensures in
    let none = c.in_err-place.ensures.ok_part in
    let said : ◌≡◌ {A = Result ℕ Refusal} (Err c.in_err-place.field-0.0) (Err RequestInBuffer) = c.in_err-place.ensures.value ∙ rw none refl in
    let told : c.in_err-place.field-0.0 ≡ RequestInBuffer = cc in
    refuses _ (withdraw-gone h c.if-ring-k-ne-ASKING.false (sym c.index_in-request.ensures ∙ none)) (passed-on c.from_residual-in_err-place.ensures.1 ∙ ap Err told)

pub returns : goal.returns
returns c =
    let h = channel-passed _ c.in_ok-open.ensures in
    let done = withdraw-done h c.if-ring-k-ne-ASKING.false (sym c.index_in-request.ensures ∙ c.in_ok-place.ensures.ok_part) in
    rw c.leave_line.ensures (accepts _ done)
