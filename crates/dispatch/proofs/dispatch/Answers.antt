-- A refused opening is the call's refusal, and an open one is what `rounds` asks.
use Rattle.std.proofs.lemmas.Result.{err_from_is_err_and}
use Rattle.updates.proofs.Openings.{node-passed}
use Rattle.dispatch.proofs.Going.{can-begin}
use Rattle.dispatch.proofs.Course.{not-run}
use Rattle.dispatch.proofs.dispatch.Goals as goal

pub returns-in_err-open : goal.returns-in_err-open
returns-in_err-open c =
    let out = err_from_is_err_and c.from_residual.result c.from_residual.ensures.1 in
    not-run _ _ c.in_err-open.ensures (rw out.2 at out.1)

pub rounds-requires : goal.rounds-requires
rounds-requires c =
    let there = node-passed _ c.in_ok-open.ensures in
    can-begin _ there.ok there.going
