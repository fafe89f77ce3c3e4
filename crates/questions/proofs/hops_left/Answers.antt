-- A refused opening is the call's refusal, and an open one has the hops found.
use Rattle.std.proofs.lemmas.Result.{err_from_is_err_and}
use Rattle.network.specs.Runs
use Rattle.updates.proofs.Openings.{turns-away, channel-passed}
use Rattle.updates.proofs.Reading.{channel-within}
use Rattle.questions.proofs.Standing.{sound-within, hops-answered}
use Rattle.questions.proofs.hops_left.Goals as goal

pub returns-in_err-open : goal.returns-in_err-open
returns-in_err-open c =
    let out = err_from_is_err_and c.from_residual.result c.from_residual.ensures.1 in
    (turns-away (Runs.hops_left _) _ c.in_err-open.ensures (rw out.2 at out.1)).1

pub hops_of-left-requires : goal.hops_of-left-requires
hops_of-left-requires c =
    let at = channel-passed _ c.in_ok-open.ensures in
    (sound-within _ at.ok, channel-within at)

pub returns : goal.returns
returns c = rw (c.hops_of-left.ensures, hops-answered (channel-passed _ c.in_ok-open.ensures))
