-- The record that stands where there is none: every field is zero.
use Rattle.std.specs.Prelude.{◌≡◌, pos, replicate, Err}
use Rattle.refusal.specs.declared.Refusal.TheVariants.{BatchNumberZero}
use Rattle.batch.specs.Good.{name_limit, verdict_of}
use Rattle.batch.specs.declared.BatchRecord.{BatchRecord}

unfoldable pub no_record : BatchRecord
no_record =
    record {
      batch = record { 0 = 0 };
      vessel = 0;
      temperature = pos 0;
      name_length = 0;
      name = replicate name_limit 0;
    }

-- it is refused, for its batch number
abbrev pub NoRecordRefused : Type 0
NoRecordRefused = verdict_of no_record ≡ Err BatchNumberZero
