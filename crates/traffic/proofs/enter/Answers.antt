-- A refused opening is the call's refusal.
use Rattle.std.proofs.lemmas.Result.{err_from_is_err_and}
use Rattle.network.specs.Runs
use Rattle.updates.proofs.Openings.{turns-away}
use Rattle.traffic.proofs.enter.Goals as goal

pub returns-in_err-open : goal.returns-in_err-open
returns-in_err-open c =
    let out = err_from_is_err_and c.from_residual.result c.from_residual.ensures.1 in
    turns-away (Runs.enter _) _ c.in_err-open.ensures (rw out.2 at out.1)
