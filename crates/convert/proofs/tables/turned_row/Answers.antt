-- A turn of the loop writes the cell that it reads, turned.
use Rattle.std.proofs.Common.{◌≡◌, ◌<◌, ◌+◌, ℕ, List, length, map, take, drop, get_or, ℤ, pos, FitsSigned, w16, rules, arith, sym, ap, ◌∙◌, length-append}
use Rattle.std.proofs.lemmas.Int.{to_z-of_z}
use Rattle.std.proofs.lemmas.List.{get_or_default, length-map, take-append-drop}
use Rattle.std.proofs.lemmas.List.Edits.{map_over_more}
use Rattle.convert.specs.TablePass.{turned_cell}
use Rattle.convert.proofs.tables.turned_row.Goals as goal

pub loop-cell-preserved : goal.loop-cell-preserved
loop-cell-preserved c =
    let told : FitsSigned w16 c.turned_cell.result = search rules in
    let fits : FitsSigned w16 (get_or c.loop-cell.cell-items c.loop-cell.cell-index (pos 0)) = search rules in
    let inside : c.loop-cell.cell-index < length c.args.row.now.readings = omega arith in
    let cells : List ℤ = c.args.row.now.readings in
    let i : ℕ = c.loop-cell.cell-index in
    let long : length c.loop-cell.cell-items ≡ length cells =
    ap length c.loop-cell.invariant
    ∙ length-append (map turned_cell (take i cells)) (drop i cells)
    ∙ ap (λ n. n + length (drop i cells)) (length-map (take i cells) turned_cell)
    ∙ sym (length-append (take i cells) (drop i cells))
    ∙ ap length (take-append-drop i cells) in
    let there : c.loop-cell.cell-index < length c.loop-cell.cell-items = omega (arith, long) in
    rw (to_z-of_z, simp to_z-of_z at c.turned_cell.ensures)
    (map_over_more turned_cell c.args.row.now.readings c.loop-cell.cell-items c.loop-cell.cell-index _ inside c.loop-cell.invariant (get_or_default _ _ _ _ there))
