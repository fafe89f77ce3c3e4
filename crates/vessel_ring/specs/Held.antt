-- The record in bytes that C hands over, as many as it likes.
use Rattle.std.specs.Prelude.{ℕ, cond, List, ltb, length}
use Rattle.batch.specs.declared.BatchRecord.{BatchRecord}
use Rattle.batch.specs.Blank.{no_record}
use Rattle.wire.specs.Record.{record_length, record_in}

-- the record that the bytes begin with, the blank one where they are too few
unfoldable pub record_held : List ℕ → BatchRecord
record_held b = cond (ltb (length b) record_length) no_record (record_in b)
