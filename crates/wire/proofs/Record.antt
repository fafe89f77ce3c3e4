-- A record as bytes: what was written is read, and what was read is written; it takes as many bytes as it should, and all are bytes.
use Prim.Native.Nat.{◌<◌, ◌^◌}
use mathlib.Core.Path.{◌≡◌, refl, ap}
use mathlib.Core.List.{◌++◌}
use native.Mathlib.Omega.{arith}
use lib.IntN.{ℤ, pos, negsuc}
use lib.Signed.{mag}
use lib.ListN.{length, replicate}
use lib.Seq.{take_at, take-add}
use Rattle.batch.specs.declared.BatchRecord.{BatchRecord}
use Rattle.batch.specs.Good.{name_limit}
use Rattle.batch.specs.Blank.{no_record}
use Rattle.batch.specs.Sending.{same_numbers, fields_of}
use Rattle.wire.specs.Bytes.{little, number_at, twos, Bytes}
use Rattle.wire.specs.Record.{record_length, record_bytes, record_in, RecordFits, RecordReadsBack, RecordWritesBack}
use Rattle.wire.specs.Record.{FieldsReadBack, FieldsWriteBack}
use Rattle.wire.proofs.Numbers.{number-little, signed-twos, twos-signed}
use Rattle.wire.proofs.Bytes.{bytes-append, little-bytes, part-written, part-bound}

twos-fits : (z : ℤ) → mag z < 2 ^ 15 → twos z < 65536
unfolding twos
twos-fits (pos n) h = omega arith
twos-fits (negsuc n) h = omega arith

-- the record that was written
pub record-reads-back : RecordReadsBack
unfolding little record_bytes record_in
record-reads-back r rest f =
    let z = r.temperature in
    rw (
      number-little 4 r.batch.0 f.batch,
      number-little 1 r.vessel f.vessel,
      number-little 2 (twos z) (twos-fits z f.temperature),
      signed-twos z f.temperature,
      number-little 1 r.name_length f.name-length,
      take_at r.name rest name_limit f.name-width,
    )

-- the bytes that were read
pub record-writes-back : RecordWritesBack
unfolding record_bytes record_in
record-writes-back b s h =
    let bits : number_at 5 2 b < 65536 = part-bound 5 2 b s (omega arith) in
    rw (
      twos-signed (number_at 5 2 b) bits,
      part-written 0 4 b s (omega arith),
      part-written 4 1 b s (omega arith),
      part-written 5 2 b s (omega arith),
      part-written 7 1 b s (omega arith),
      ← (take-add 4 1 b),
      ← (take-add 5 2 b),
      ← (take-add 7 1 b),
      ← (take-add 8 name_limit b),
    )

-- the same of the fields of a send
pub fields-read-back : FieldsReadBack
fields-read-back f rest fits = ap fields_of (record-reads-back (same_numbers f) rest fits)

pub fields-write-back : FieldsWriteBack
fields-write-back b s h = record-writes-back b s h

-- ---- how many bytes, and which

pub length-record : {r : BatchRecord} → RecordFits r → length (record_bytes r) ≡ record_length
unfolding little record_bytes
length-record f = rw f.name-width

pub record-bytes : {r : BatchRecord} → RecordFits r → Bytes (record_bytes r)
unfolding record_bytes
record-bytes {r} f =
    let number = little 4 r.batch.0 in
    let vessel = little 1 r.vessel in
    let degrees = little 2 (twos r.temperature) in
    let size = little 1 r.name_length in
    bytes-append (number ++ vessel ++ degrees ++ size) r.name
    (bytes-append (number ++ vessel ++ degrees) size
    (bytes-append (number ++ vessel) degrees
    (bytes-append number vessel (little-bytes 4 _) (little-bytes 1 _)) (little-bytes 2 _)) (little-bytes 1 _))
    f.name

-- a cell that holds no record has bytes of zero
pub blank-record : record_bytes no_record ≡ replicate record_length 0
unfolding little twos record_bytes no_record
blank-record = refl
