-- A cell in hundredths is what is made of it, or the cell.
use Rattle.std.proofs.Common.{ap, ◌∙◌, rules, FitsSigned, w16}
use Rattle.std.proofs.lemmas.Int.{to_z-of_z}
use Rattle.std.specs.Result.{result_unwrap_or}
use Rattle.convert.proofs.Cells.{turned_is}
use Rattle.convert.proofs.tables.turned_cell.Goals as goal

pub returns : goal.returns
returns c =
    let fits : FitsSigned w16 c.args.cell = search rules in
    let told : FitsSigned w16 c.unwrap_or.result = search rules in
    rw to_z-of_z
    ((simp to_z-of_z at c.unwrap_or.ensures)
    ∙ ap (λ r. result_unwrap_or r c.args.cell) (simp to_z-of_z at c.hundredths.ensures)
    ∙ turned_is c.args.cell)
