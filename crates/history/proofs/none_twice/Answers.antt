-- The batch at `i` stands again further on, or the rest decides.
use Rattle.std.proofs.Common.{◌≡◌, ◌<◌, ◌∙◌, sym, length, rules, arith}
use borrow.Author.Tests.{eq-eqb}
use Rattle.history.proofs.Places.{again, there-again, once-there, none-there}
use Rattle.history.proofs.none_twice.Goals as goal
use Rattle.history.proofs.none_twice.Goals.{else-batch-ne0-via-then-batch-ne0+else-contains, else-batch-ne0-via-else-batch-ne0}

pub loop-i-preserved : goal.loop-i-preserved
loop-i-preserved c =
    let bs = c.args.batches.now in
    let i = c.loop-i.i in
    let long : length bs ≡ 128 = search rules in
    let inside : i < length bs = omega (arith, long) in
    elim c.else-batch-ne0.branch [
      | else-batch-ne0-via-then-batch-ne0+else-contains w ↦
          once-there bs i inside c.loop-i.invariant (sym (again bs i inside long) ∙ sym w.contains.ensures.value ∙ w.if-contains.false)
      | else-batch-ne0-via-else-batch-ne0 w ↦ none-there bs i inside c.loop-i.invariant (eq-eqb _ 0 w.if-batch-ne0.false)
    ]

pub returns-then-contains : goal.returns-then-contains
returns-then-contains c =
    let bs = c.args.batches.now in
    let i = c.loop-i.i in
    let long : length bs ≡ 128 = search rules in
    let inside : i < length bs = omega (arith, long) in
    there-again bs i inside c.loop-i.invariant c.if-batch-ne0.true
    (sym (again bs i inside long) ∙ sym c.contains.ensures.value ∙ c.if-contains.true)
