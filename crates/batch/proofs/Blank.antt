-- The record of zeros is refused.
use mathlib.Core.Path.{refl}
use Rattle.batch.specs.Blank.{no_record, NoRecordRefused}
use Rattle.batch.proofs.Good.{batch-zero, verdict-batch}

pub no_record-refused : NoRecordRefused
unfolding no_record
no_record-refused = verdict-batch no_record (batch-zero no_record refl)
