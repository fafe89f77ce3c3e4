-- The batch told of the pass is that of the table's row.
use Rattle.std.proofs.Common.{◌≡◌, ◌∙◌, ap}
use Rattle.history.specs.History.{batch_in}
use Rattle.history.specs.Said.{batch_told_in}
use Rattle.history.specs.Search.{to_list}
use Rattle.history.proofs.Passing.{list-passed}
use Rattle.history.proofs.Said.{batch-said}
use Rattle.history.proofs.batch_in.Goals as goal

pub returns : goal.returns
returns c =
    let t = c.args.table.now in
    let i = c.args.row in
    let is : c.to_list.result ≡ batch_in i t = c.to_list.ensures ∙ ap (λ s. to_list s i) c.passed.ensures ∙ list-passed i t in
    record { value = is; said = ap batch_told_in is ∙ batch-said i t }
