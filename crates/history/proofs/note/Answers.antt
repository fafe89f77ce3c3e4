-- What is decided from the pass, done to the table, is what the definition says.
use Rattle.std.proofs.Common.{◌∙◌, ap}
use Rattle.std.proofs.lemmas.Result.{err_from_is_err_and}
use Rattle.refusal.specs.Number.{verdict_number}
use Rattle.history.proofs.Passing.{noted}
use Rattle.history.proofs.Said.{note-said}
use Rattle.history.proofs.note.Goals as goal

pub returns-in_err-at : goal.returns-in_err-at
returns-in_err-at c =
    let out = err_from_is_err_and c.from_residual.result c.from_residual.ensures.1 in
    let done = noted c.args.table.now c.args.record c.passed-search.ensures c.in_err-at.ensures in
    rw (out.1, out.2) (record { done = done; said = ap verdict_number done.1 ∙ note-said c.args.record c.args.table.now })

pub bounds-table-at : goal.bounds-table-at
bounds-table-at c = (noted c.args.table.now c.args.record c.passed-search.ensures c.in_ok-at.ensures).0

pub returns : goal.returns
returns c =
    let done = noted c.args.table.now c.args.record c.passed-search.ensures c.in_ok-at.ensures in
    record { done = (done.1, done.2); said = ap verdict_number done.2 ∙ note-said c.args.record c.args.table.now }
