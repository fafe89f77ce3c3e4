use Rattle.std.proofs.Common.{rules, arith}
use Rattle.std.proofs.lemmas.Result.{on_ok_weaker}
use Rattle.run_tape.proofs.Mapped.{value-kept}
use Rattle.run_tape.proofs.Printed.{all-listed}
use Rattle.run_tape.proofs.console.list_input.Goals as goal

pub returns-clause-listed : goal.returns-clause-listed
returns-clause-listed g c =
    let read = value-kept _ _ _ _ c.map_err.ensures.cases c.map_err.ensures.variant c.read_tape.ensures.front in
    let printed = value-kept _ _ _ _ c.map_err-2.ensures.cases c.map_err-2.ensures.variant c.print_listing.ensures in
    on_ok_weaker _ (all-listed _ _ _ _ _ _ read (search rules) (omega arith)) printed
