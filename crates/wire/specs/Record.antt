-- A batch record as bytes, in the order of document 01's command tape: batch number 4, vessel 1, temperature 2, name length 1, name 32.
-- The fields of a send are written alike, with the temperature in the command's unit. What was written is read, and what was read is
-- written.
use Rattle.std.specs.Prelude.{ℕ, ◌<◌, ◌≤◌, ◌^◌, ◌≡◌, List, ◌++◌, length, take}
use Rattle.std.specs.Int.Signed.{mag}
use Rattle.batch.specs.declared.BatchRecord.{BatchRecord}
use Rattle.batch.specs.declared.sending.Fields.{Fields}
use Rattle.batch.specs.Good.{name_limit}
use Rattle.batch.specs.Sending.{same_numbers, fields_of}
use Rattle.wire.specs.Bytes.{little, part, number_at, twos, signed, Bytes}

-- how many bytes a record takes
abbrev pub record_length : ℕ
record_length = 40

-- a record's bytes, and the record that bytes stand for
unfoldable pub record_bytes : BatchRecord → List ℕ
record_bytes r =
    little 4 r.batch.0 ++ little 1 r.vessel ++ little 2 (twos r.temperature) ++ little 1 r.name_length ++ r.name

unfoldable pub record_in : List ℕ → BatchRecord
record_in b = record {
  batch = record { 0 = number_at 0 4 b };
  vessel = number_at 4 1 b;
  temperature = signed (number_at 5 2 b);
  name_length = number_at 7 1 b;
  name = part 8 name_limit b;
}

-- the bytes of a send's fields are those of the record of the same numbers; and the fields that bytes stand for
abbrev pub field_bytes : Fields → List ℕ
field_bytes f = record_bytes (same_numbers f)

abbrev pub fields_in : List ℕ → Fields
fields_in b = fields_of (record_in b)

-- the values that the fields of a record can hold, by their types
pub record RecordFits (r : BatchRecord) : Type 0 where
  pub batch : r.batch.0 < 2 ^ 32
  pub vessel : r.vessel < 256
  pub temperature : mag r.temperature < 2 ^ 15
  pub name-length : r.name_length < 256
  pub name-width : length r.name ≡ name_limit
  pub name : Bytes r.name

abbrev pub FieldsFit : Fields → Type 0
FieldsFit f = RecordFits (same_numbers f)

-- what was written is read, whatever follows it
abbrev pub RecordReadsBack : Type 0
RecordReadsBack = (r : BatchRecord) (rest : List ℕ) → RecordFits r → record_in (record_bytes r ++ rest) ≡ r

abbrev pub FieldsReadBack : Type 0
FieldsReadBack = (f : Fields) (rest : List ℕ) → FieldsFit f → fields_in (field_bytes f ++ rest) ≡ f

-- what was read is written
abbrev pub RecordWritesBack : Type 0
RecordWritesBack = (b : List ℕ) → Bytes b → record_length ≤ length b → record_bytes (record_in b) ≡ take record_length b

abbrev pub FieldsWriteBack : Type 0
FieldsWriteBack = (b : List ℕ) → Bytes b → record_length ≤ length b → field_bytes (fields_in b) ≡ take record_length b
