-- The parts that are lent leave no cell out.
use Rattle.std.proofs.Common.{◌≤◌, ◌+◌, ◌-◌, ◌/◌, length, refl, arith}
use Rattle.messages.proofs.Decides.{restated}
use Rattle.messages.proofs.Zeros.{halves}
use Rattle.messages.proofs.blank.from.Goals as goal

pub returns : goal.returns
returns c =
    let end = length c.args.first.now in
    let back = c.args.start + (end - c.args.start) / 2 in
    let middle = c.args.start + (end - back) in
    let after : c.args.start ≤ back = omega arith in
    let no_gap : back ≤ middle = omega (arith, c.requires.1) in
    let first_halves = halves c.args.first.now c.args.start back middle end refl after no_gap in
    let second_halves = halves c.args.second.now c.args.start back middle end c.requires.0 after no_gap in
    restated
    (λ parts. (first_halves.0 parts.0, second_halves.0 parts.1))
    (λ blank. (first_halves.1 blank.0, second_halves.1 blank.1)) c.all_four.ensures
