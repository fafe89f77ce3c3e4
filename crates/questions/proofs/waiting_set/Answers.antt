-- A refused opening is the call's refusal, and an open one has the set made.
use Rattle.std.proofs.lemmas.Result.{err_from_is_err_and}
use Rattle.network.specs.Runs
use Rattle.updates.proofs.Openings.{turns-away, tasks-passed}
use Rattle.questions.proofs.Standing.{sound-within}
use Rattle.questions.proofs.Waiting.{waiting-answered}
use Rattle.questions.proofs.waiting_set.Goals as goal

pub returns-in_err-open : goal.returns-in_err-open
returns-in_err-open c =
    let out = err_from_is_err_and c.from_residual.result c.from_residual.ensures.1 in
    (turns-away (Runs.waiting_set _) _ c.in_err-open.ensures (rw out.2 at out.1)).1

pub set_of-set-requires : goal.set_of-set-requires
set_of-set-requires c = (sound-within _ (tasks-passed _ c.in_ok-open.ensures).ok).channels

pub returns : goal.returns
returns c = rw (c.set_of-set.ensures, waiting-answered (tasks-passed _ c.in_ok-open.ensures))
