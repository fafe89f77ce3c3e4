use Rattle.soundness.proofs.RecordBytes.{ToCome}
use Rattle.soundness.proofs.records.record_blank.Given as goal

abbrev pub invariant-loop-word : goal.invariant-loop-word
invariant-loop-word l = ToCome l.bytes l.word-iterator.rest.now l.word-iterator.size
