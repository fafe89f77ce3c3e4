-- The reply to the question is told by `questions::tasks_in`, and says what document 01 does.
use Rattle.std.proofs.Common.{◌≡◌, ap, ◌∙◌}
use Rattle.questions.specs.Tasks.{said_in, tasks_to}
use Rattle.questions.proofs.Waiting.{tasks-said}
use Rattle.site.proofs.tasks_waiting.Goals as goal

pub returns : goal.returns
returns c =
    let told : c.tasks_in.result ≡ tasks_to c.args.node c.args.ring.now = rw (c.tasks_in.ensures, c.waiting_set.ensures) in
    (told, ap said_in told ∙ tasks-said c.args.node c.args.ring.now)
