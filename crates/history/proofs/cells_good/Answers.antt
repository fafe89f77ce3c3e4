-- A turn judges the cell of number `i` by its place.
use Rattle.std.proofs.Common.{◌≡◌, arith, length, ◌&&◌, ◌+◌, ◌-◌, Bool, cond, ltb, ℕ, List, get_or, ℤ, pos, SFits, sym, ap, ◌∙◌, rules}
use mir.Syntax.{w16}
use Rattle.std.proofs.Math.Bool.{and_assoc}
use Rattle.std.proofs.Math.ListN.{drop}
use Rattle.std.proofs.lemmas.Int.{to_z-of_z}
use Rattle.batch.specs.Good.{first_then, in_range}
use Rattle.batch.proofs.Name.{then-more}
use Rattle.history.specs.Table.{is_nought}
use Rattle.history.proofs.cells_good.Goals as goal

pub loop-i-preserved : goal.loop-i-preserved
loop-i-preserved c =
    let n : ℕ = c.args.count in
    let cells : List ℤ = c.args.cells.now in
    let i : ℕ = c.loop-i.i in
    let long : length cells ≡ 24 = search rules in
    let good : Bool = c.loop-i.good in
    let here : Bool = cond (ltb i n) (in_range (get_or cells i (pos 0))) (is_nought (get_or cells i (pos 0))) in
    let rest : Bool = first_then in_range is_nought (n - (i + 1)) (drop (i + 1) cells) in
    let fits : SFits w16 (get_or cells i (pos 0)) = search rules in
    let judged : c.cell_good-good.result ≡ here = simp to_z-of_z at c.cell_good-good.ensures in
    rw judged
    (c.loop-i.invariant
    ∙ ap (λ (b : Bool). good && b) (then-more in_range is_nought n cells i (pos 0) (omega (arith, long)))
    ∙ sym (and_assoc good here rest))
