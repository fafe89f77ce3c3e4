-- From a command's fields to a record (document 02): a command gives its temperature in tenths or in hundredths of a degree, a record has
-- hundredths.
use Rattle.std.specs.Prelude.{◌≡◌, Bool, false, ◌↔◌, ◌≢◌, [], ◌∷◌, map, ℤ, pos, neg_ℤ, ◌*ℤ◌, Result, Ok, Err}
use Rattle.refusal.specs.declared.Refusal.TheVariants.{TemperatureOutOfRange}
use Rattle.refusal.specs.declared.Refusal.{Refusal}
use Rattle.refusal.specs.Number.{Verdict}
use Rattle.batch.specs.declared.BatchRecord.{BatchRecord}
use Rattle.batch.specs.declared.sending.Fields.{Fields}
use Rattle.batch.specs.declared.sending.Scale.{Scale}
use Rattle.batch.specs.declared.sending.Scale.TheVariants.{Tenths, Hundredths}
use Rattle.batch.specs.Good.{between, in_range, unless, send_verdict}
use Rattle.batch.specs.Blank.{no_record}

-- ---- temperatures
-- the limits of a temperature in tenths; those in hundredths are a record's
abbrev pub coldest_tenths : ℤ
coldest_tenths = neg_ℤ (pos 400)

abbrev pub hottest_tenths : ℤ
hottest_tenths = pos 1200

abbrev pub in_tenths : ℤ → Bool
in_tenths x = between coldest_tenths hottest_tenths x

-- ten times as many
abbrev pub tenfold : ℤ → ℤ
tenfold x = x *ℤ pos 10

-- a temperature in its unit that a command may give, and as hundredths
abbrev pub in_scale : Scale → ℤ → Bool
in_scale Tenths x = in_tenths x
in_scale Hundredths x = in_range x

abbrev pub as_hundredths : Scale → ℤ → ℤ
as_hundredths Tenths x = tenfold x
as_hundredths Hundredths x = x

-- A record's temperature from a command's: tested in the command's own unit, and only then in hundredths; or 12.
unfoldable pub made : Scale → ℤ → Result ℤ Refusal
made s x = unless (in_scale s x) (Err TemperatureOutOfRange) (Ok (as_hundredths s x))

-- the two ranges are one: a command's temperature is taken exactly where a record may have it
abbrev pub OneRange : Type 0
OneRange = (s : Scale) (x : ℤ) → in_scale s x ≡ in_range (as_hundredths s x)

-- ---- records
-- the record of a command's fields, with this temperature in hundredths, and with the command's own
abbrev pub record_with : Fields → ℤ → BatchRecord
record_with f x = record {
  batch = f.batch;
  vessel = f.vessel;
  temperature = x;
  name_length = f.name_length;
  name = f.name;
}

abbrev pub record_from : Scale → Fields → BatchRecord
record_from s f = record_with f (as_hundredths s f.temperature)

-- the record of the same numbers, and the fields of one
abbrev pub same_numbers : Fields → BatchRecord
same_numbers f = record_with f f.temperature

abbrev pub fields_of : BatchRecord → Fields
fields_of x = record {
  batch = x.batch;
  vessel = x.vessel;
  temperature = x.temperature;
  name_length = x.name_length;
  name = x.name;
}

-- what stands beside a command that has no fields
unfoldable pub no_fields : Fields
no_fields = fields_of no_record

-- what send makes of a record with this verdict, and of a command's fields: the record, or the refusal
abbrev pub sent_as : BatchRecord → Verdict → Result BatchRecord Refusal
sent_as x (Ok u) = Ok x
sent_as x (Err r) = Err r

unfoldable pub sent_from : Scale → Fields → Result BatchRecord Refusal
sent_from s f = sent_as (record_from s f) (send_verdict (record_from s f))

-- send says 12 of exactly the fields with a batch number whose temperature is out of its own unit's range
abbrev pub Means12 : Type 0
Means12 =
    (s : Scale) (f : Fields) →
    (send_verdict (record_from s f) ≡ Err TemperatureOutOfRange) ↔ ((f.batch.0 ≢ 0) × (in_scale s f.temperature ≡ false))

-- ---- worked: what is made of a temperature in tenths, and of one in hundredths
abbrev pub too_far : Result ℤ Refusal
too_far = Err TemperatureOutOfRange

abbrev pub MadeOfTenths : Type 0
MadeOfTenths =
    map (made Tenths)
    (pos 1200 ∷ neg_ℤ (pos 400) ∷ pos 0 ∷ pos 612 ∷ pos 1201 ∷ neg_ℤ (pos 401) ∷ pos 3277 ∷ pos 6554 ∷ pos 32767 ∷ neg_ℤ (pos 32768) ∷ [])
    ≡ Ok (pos 12000) ∷ Ok (neg_ℤ (pos 4000)) ∷ Ok (pos 0) ∷ Ok (pos 6120)
    ∷ too_far ∷ too_far ∷ too_far ∷ too_far ∷ too_far ∷ too_far ∷ []

abbrev pub MadeOfHundredths : Type 0
MadeOfHundredths =
    map (made Hundredths)
    (pos 12000 ∷ neg_ℤ (pos 4000) ∷ pos 612 ∷ pos 1201 ∷ neg_ℤ (pos 401) ∷ pos 12001 ∷ neg_ℤ (pos 4001) ∷ pos 32767 ∷ neg_ℤ (pos 32768) ∷ [])
    ≡ Ok (pos 12000) ∷ Ok (neg_ℤ (pos 4000)) ∷ Ok (pos 612) ∷ Ok (pos 1201) ∷ Ok (neg_ℤ (pos 401))
    ∷ too_far ∷ too_far ∷ too_far ∷ too_far ∷ []
