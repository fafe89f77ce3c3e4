-- A table that is refused stays, and the rows of any other become what the definition says.
use Rattle.std.proofs.Common.{◌≤◌, ◌<◌, length, arith, take_all, append-nil}
use Rattle.std.proofs.lemmas.List.{drop_all, get_or_default}
use Rattle.std.proofs.lemmas.List.Edits.{map_over_more}
use Rattle.std.proofs.lemmas.Result.{err_from_is_err_and}
use Rattle.convert.specs.TablePass.{turned_row}
use Rattle.convert.proofs.TablePassed.{left, turned}
use Rattle.convert.proofs.tables.turn_table.Goals as goal

pub returns-in_err-judged : goal.returns-in_err-judged
returns-in_err-judged c =
    let out = err_from_is_err_and c.from_residual.result c.from_residual.ensures.1 in
    rw (out.1, out.2) (left _ c.in_err-judged.ensures)

pub loop-row-preserved : goal.loop-row-preserved
loop-row-preserved c =
    let inside : c.loop-row.row-index < length c.args.table.now = omega arith in
    let there : c.loop-row.row-index < length c.loop-row.table = omega arith in
    rw c.turned_row.ensures
    (map_over_more turned_row c.args.table.now c.loop-row.table c.loop-row.row-index _ inside c.loop-row.invariant (get_or_default _ _ _ _ there))

pub returns : goal.returns
returns c =
    let all : length c.args.table.now ≤ c.loop-row.row-index = omega arith in
    rw (c.loop-row.invariant, take_all _ _ all, drop_all _ _ all, append-nil) (turned _ c.in_ok-judged.ensures)
