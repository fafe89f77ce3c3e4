use Rattle.std.proofs.Common.{sym, ◌∙◌}
use Rattle.soundness.proofs.RecordBytes.{word-passed}
use Rattle.soundness.proofs.records.record_blank.Goals as goal

pub loop-word-preserved : goal.loop-word-preserved
loop-word-preserved c =
    let step = c.in-Some.ensures.steps in
    word-passed c.loop-word.invariant c.in-Some.word.now c.next.new.self.rest.now step.1.0 step.1.1 step.0 (sym c.all_zero.ensures ∙ c.if-not-all_zero.false)
