-- The cell after the copied ones is the new reading's.
use Rattle.std.proofs.Common.{SFits}
use mir.Syntax.{w16}
use Rattle.std.proofs.lemmas.Int.{to_z-of_z}
use Rattle.history.proofs.Readings.{row-joined}
use Rattle.history.proofs.row_with.Goals as goal

pub returns : goal.returns
returns c =
    let a = c.args in
    let fits : SFits w16 a.reading = c.ranges.reading in
    simp to_z-of_z (row-joined a.batch a.before.now a.reading c.copy_from_slice.ensures.after c.requires)
