use Rattle.std.proofs.Common.{inl, inr}
use Rattle.batch.proofs.Name.{counted-none, counted-more, counted-all}
use Rattle.batch.proofs.name_cells_good.Goals as goal

pub loop-cell-init : goal.loop-cell-init
loop-cell-init c =
    rw (c.into_iter-cell-iterator.ensures.into_iter_gives, c.zip-cell-items.ensures.first, c.zip-cell-items.ensures.second, c.iter.ensures.rest)
    (counted-none _ _ c.told-name)

pub loop-cell-preserved : goal.loop-cell-preserved
loop-cell-preserved c =
    let step = c.in-Some.ensures.steps in
    rw (c.from-wrong.ensures, c.cell_good.ensures, step.1.0)
    (counted-more _ _ c.loop-cell.invariant step.0 (rw step.1.0 at step.1.1))

pub returns : goal.returns
returns c =
    elim c.in-None.ensures.steps [
      | inl e ↦ counted-all _ _ c.loop-cell.invariant (inl e.1.0)
      | inr e ↦ counted-all _ _ c.loop-cell.invariant (inr e.1.0)
    ]
