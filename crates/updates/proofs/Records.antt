-- Rows of records: a record is read off its own row, and to overwrite its bytes is to put another row.
use Prim.Native.Nat.{ℕ, zero, suc, ◌+◌, ◌≤◌}
use mathlib.Core.Path.{◌≡◌, refl}
use mathlib.Core.List.{List, [], ◌∷◌}
use native.Mathlib.Omega.{arith}
use lib.ListN.{take}
use lib.Seq.{take-take}
use Rattle.batch.specs.declared.BatchRecord.{BatchRecord}
use Rattle.batch.specs.Blank.{no_record}
use Rattle.wire.specs.Bytes.{part, overwritten}
use Rattle.wire.specs.Record.{record_length, record_bytes, record_in, RecordFits}
use Rattle.wire.proofs.Record.{length-record, blank-record}
use Rattle.network.proofs.Memory.Rows.{padded-whole, padded-none, put_row}
use Rattle.updates.specs.Flat.{recorded}

-- a part of the first bytes is the same part of all
part-front : (at n m : ℕ) (b : List ℕ) → at + n ≤ m → part at n (take m b) ≡ part at n b
part-front zero n m b l = take-take n m b (omega arith)
part-front (suc at) n zero b l = absurd (omega arith)
part-front (suc at) n (suc m) [] l = refl
part-front (suc at) n (suc m) (x ∷ b) l = part-front at n m b (omega arith)

-- a record reads no further than its own bytes
pub record-front : (b : List ℕ) → record_in (take record_length b) ≡ record_in b
unfolding record_in
record-front b =
    rw (
      part-front 0 4 record_length b (omega arith),
      part-front 4 1 record_length b (omega arith),
      part-front 5 2 record_length b (omega arith),
      part-front 7 1 record_length b (omega arith),
      part-front 8 32 record_length b (omega arith),
    )

-- a record that fits, or none, put for channel k
pub recorded_row : (records : List ℕ) (k : ℕ) (x : BatchRecord) → RecordFits x →
    recorded records k x ≡ put_row record_length records k (record_bytes x)
unfolding overwritten put_row
recorded_row records k x f = rw (length-record f, padded-whole record_length (record_bytes x) (length-record f))

pub cleared-row : (records : List ℕ) (k : ℕ) → recorded records k no_record ≡ put_row record_length records k []
unfolding overwritten put_row
cleared-row records k = rw (blank-record, padded-none record_length)
