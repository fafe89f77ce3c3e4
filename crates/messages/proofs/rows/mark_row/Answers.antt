-- The count of the cells in use, then the pass over them.
use Rattle.std.proofs.Common.{◌≡◌, sym, ◌∙◌, arith}
use lib.Seq.{length-take-le}
use Rattle.messages.specs.Messages.{cells_in_use}
use Rattle.messages.proofs.RowPass.{in-use-most, row-right, row-wrong, says-stopped}
use Rattle.messages.proofs.rows.mark_row.Goals as goal

pub returns-then-cells_in_use-used : goal.returns-then-cells_in_use-used
returns-then-cells_in_use-used c =
    says-stopped (row-wrong _ _ _ _ _ (λ e. c.if-cells_in_use-used.true (c.cells_in_use.ensures ∙ e)))

pub slice_bounds-mark_cells-end : goal.slice_bounds-mark_cells-end
slice_bounds-mark_cells-end c =
    sym (length-take-le _ _ (omega (arith, in-use-most c.args.cells.now, c.requires.1)))

pub returns : goal.returns
returns c =
    let whole : cells_in_use c.args.cells.now ≡ c.args.used = sym c.cells_in_use.ensures ∙ c.if-cells_in_use-used.false in
    rw (row-right _ _ _ _ _ whole) c.mark_cells.ensures
