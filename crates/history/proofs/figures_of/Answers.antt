-- The figures told of the pass are those of the table.
use Rattle.std.proofs.Common.{◌≡◌, ◌∙◌, ap}
use Rattle.history.specs.History.{figures}
use Rattle.history.specs.Said.{told_in}
use Rattle.history.specs.Search.{to_tell}
use Rattle.history.proofs.Passing.{tell-passed}
use Rattle.history.proofs.Said.{figures-said}
use Rattle.history.proofs.figures_of.Goals as goal

pub returns : goal.returns
returns c =
    let b = c.args.batch in
    let t = c.args.table.now in
    let is : c.to_tell.result ≡ figures b.0 t = c.to_tell.ensures ∙ ap to_tell c.passed.ensures ∙ tell-passed b t in
    record { value = is; said = ap told_in is ∙ figures-said b.0 t }
