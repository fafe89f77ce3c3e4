-- Whether one of the cells is the cell, as the definition counts them off.
use Rattle.std.proofs.Common.{◌≡◌, ◌+◌, ◌-◌, ◌*◌, ◌∙◌, arith}
use Rattle.network.specs.Layout.{row_length}
use Rattle.updates.specs.Flat.{used_at}
use Rattle.questions.proofs.Standing.{stands-listed}
use Rattle.questions.proofs.stands_in.Goals as goal

pub returns : goal.returns
returns c =
    let base = row_length * c.args.at in
    let used = used_at c.args.ring.now.head c.args.at in
    let same : base + used - base ≡ used = omega arith in
    (rw same at c.contains.ensures.value)
    ∙ stands-listed c.args.ring.now.slots base c.args.cell used (omega (arith, c.requires.0, c.requires.1))
