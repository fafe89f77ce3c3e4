-- The records of a ring, 64 in their bytes, as the code turns them: the definitions that the functions by value meet.
use Rattle.std.specs.Prelude.{ℕ, Bool, List}
use Rattle.batch.specs.declared.BatchRecord.{BatchRecord}
use Rattle.batch.specs.Sending.{in_tenths, record_with, fields_of}
use Rattle.wire.specs.Record.{record_length, record_bytes}
use Rattle.network.specs.Counting.{all_below}
use Rattle.network.specs.Layout.{channel_room, rows, record_at}
use Rattle.convert.specs.TablePass.{turned_cell}

-- a record with its temperature turned, as a cell of a table is
abbrev pub turned_record : BatchRecord → BatchRecord
turned_record x = record_with (fields_of x) (turned_cell x.temperature)

unfoldable pub turned_records : List ℕ → List ℕ
turned_records b = rows record_length channel_room (λ k. record_bytes (turned_record (record_at b k)))

unfoldable pub records_in_tenths : List ℕ → Bool
records_in_tenths b = all_below channel_room (λ k. in_tenths (record_at b k).temperature)
