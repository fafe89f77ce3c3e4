-- What is decided from the pass, done to the table, is what the definition says.
use Rattle.std.proofs.Common.{◌∙◌, ap}
use Rattle.std.proofs.lemmas.Result.{err_from_is_err_and}
use Rattle.refusal.specs.Number.{verdict_number}
use Rattle.history.proofs.Passing.{closed}
use Rattle.history.proofs.Said.{close-said}
use Rattle.history.proofs.close.Goals as goal

pub returns-in_err-at : goal.returns-in_err-at
returns-in_err-at c =
    let b = c.args.batch in
    let t = c.args.table.now in
    let out = err_from_is_err_and c.from_residual.result c.from_residual.ensures.1 in
    let done = closed t b c.passed-search.ensures c.in_err-at.ensures in
    rw (out.1, out.2) (record { done = done; said = ap verdict_number done.1 ∙ close-said b.0 t })

pub bounds-table-at : goal.bounds-table-at
bounds-table-at c = (closed c.args.table.now c.args.batch c.passed-search.ensures (rw c.in-Some.is at c.in_ok-at.ensures)).0

pub returns-in-Some : goal.returns-in-Some
returns-in-Some c =
    let b = c.args.batch in
    let t = c.args.table.now in
    let done = closed t b c.passed-search.ensures (rw c.in-Some.is at c.in_ok-at.ensures) in
    rw c.empty.ensures (record { done = (done.1, done.2); said = ap verdict_number done.2 ∙ close-said b.0 t })

pub returns-in_default : goal.returns-in_default
returns-in_default c =
    let b = c.args.batch in
    let t = c.args.table.now in
    let done = closed t b c.passed-search.ensures (rw c.in_default.is at c.in_ok-at.ensures) in
    record { done = done; said = ap verdict_number done.1 ∙ close-said b.0 t }
