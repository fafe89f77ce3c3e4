-- What makes a batch record good, clause by clause as document 01 has it, the first refusal that applies to a record, and what send asks
-- of one besides (document 02).
use Rattle.std.specs.Prelude.{◌≡◌, ◌↔◌, Bool, true, false, not, ◌&&◌, ◌||◌, List, [], ◌∷◌, ℕ, ◌^◌, ◌-◌, eqb, leb, ltb, ℤ, pos, neg_ℤ, length, get_or, take, drop, Ok, Err}
use Rattle.std.specs.Int.Signed.{le_z}
use Rattle.refusal.specs.declared.Refusal.TheVariants.{BatchNumberZero, TemperatureOutOfRange, NameTooLong, BadName, BlankEnd}
use Rattle.refusal.specs.Number.{Verdict, verdict_number}
use Rattle.batch.specs.declared.BatchRecord.{BatchRecord}

-- the limits: temperatures in hundredths of a degree Celsius, a name's length, and the bytes that a name is made of
abbrev pub coldest : ℤ
coldest = neg_ℤ (pos 4000)

abbrev pub hottest : ℤ
hottest = pos 12000

abbrev pub name_limit : ℕ
name_limit = 32

abbrev pub first_character : ℕ
first_character = 0x20

abbrev pub blank : ℕ
blank = 0x20

abbrev pub last_character : ℕ
last_character = 0x7E

-- the test f passes at every element
abbrev pub every : {A : Type 0} → (A → Bool) → List A → Bool
every f [] = true
every f (x ∷ xs) = f x && every f xs

-- the first n elements pass the test f, the rest the test g
abbrev pub first_then : {A : Type 0} → (A → Bool) → (A → Bool) → ℕ → List A → Bool
first_then f g n xs = every f (take n xs) && every g (drop n xs)

abbrev pub is_zero : ℕ → Bool
is_zero n = eqb n 0

abbrev pub is_character : ℕ → Bool
is_character b = leb first_character b && leb b last_character

abbrev pub is_blank : ℕ → Bool
is_blank b = eqb b blank

-- neither below the one nor above the other
abbrev pub between : ℤ → ℤ → ℤ → Bool
between low high x = le_z low x && le_z x high

-- a temperature that a record may have
abbrev pub in_range : ℤ → Bool
in_range x = between coldest hottest x

-- the first `n` cells are characters, the rest are 0
unfoldable pub name_cells_good : ℕ → List ℕ → Bool
name_cells_good n cells = first_then is_character is_zero n cells

-- the clauses of a good record
unfoldable pub batch_good : BatchRecord → Bool
batch_good r = not (is_zero r.batch.0)

unfoldable pub temp_good : BatchRecord → Bool
temp_good r = in_range r.temperature

unfoldable pub name_length_good : BatchRecord → Bool
name_length_good r = leb r.name_length name_limit

unfoldable pub name_good : BatchRecord → Bool
name_good r = name_cells_good r.name_length r.name

-- the widths of the fields: a batch number of 32 bits, a vessel from 0 to 255, a name of 32 cells. Every record in memory has them
-- by its types, so no record that the code can hold is judged differently; in a definition a number has no bound of its own
unfoldable pub widths_good : BatchRecord → Bool
widths_good r = ltb r.batch.0 (2 ^ 32) && ltb r.vessel 256 && eqb (length r.name) name_limit

unfoldable pub good_record : BatchRecord → Bool
good_record r = batch_good r && temp_good r && name_length_good r && name_good r && widths_good r

-- the record of these fields
abbrev pub record_of : ℕ → ℕ → ℤ → ℕ → List ℕ → BatchRecord
record_of number vessel temperature length name =
    record {
      batch = record { 0 = number };
      vessel = vessel;
      temperature = temperature;
      name_length = length;
      name = name;
    }

-- what comes later where the test passes, else the refusal
abbrev pub unless {ℓ} : {A : Type ℓ} → Bool → A → A → A
unless true refusal later = later
unless false refusal later = refusal

-- the first refusal that applies: 11, 12, 13, 14. The widths are judged with the last
unfoldable pub verdict_of : BatchRecord → Verdict
verdict_of r =
    unless (batch_good r) (Err BatchNumberZero)
    (unless (temp_good r) (Err TemperatureOutOfRange)
    (unless (name_length_good r) (Err NameTooLong)
    (unless (name_good r && widths_good r) (Err BadName)
    (Ok tt))))

-- A name of n bytes begins or ends with a blank: its first byte is one, or its last, the one at n - 1. An empty name has neither.
unfoldable pub blank_at_end : ℕ → List ℕ → Bool
blank_at_end n cells = not (is_zero n) && (is_blank (get_or cells 0 0) || is_blank (get_or cells (n - 1) 0))

unfoldable pub blank_ends : BatchRecord → Bool
blank_ends r = blank_at_end r.name_length r.name

-- one verdict, then another: the first refusal of the two
abbrev pub and_then : Verdict → Verdict → Verdict
and_then (Ok u) later = later
and_then (Err r) later = Err r

-- What send asks of a record: that it is good, and then that its name has no blank at an end: 11, 12, 13, 14, 30. A good record with a
-- blank there stays good where it is offered or carried, so in a sound ring, and in the history.
unfoldable pub send_verdict : BatchRecord → Verdict
send_verdict r = and_then (verdict_of r) (unless (not (blank_ends r)) (Err BlankEnd) (Ok tt))

-- a record is good exactly when no refusal applies
abbrev pub GoodExactly : Type 0
GoodExactly = (r : BatchRecord) → (good_record r ≡ true) ↔ (verdict_of r ≡ Ok tt)

-- and exactly when its number is 0
abbrev pub GoodIsZero : Type 0
GoodIsZero = (r : BatchRecord) → (good_record r ≡ true) ↔ (verdict_number (verdict_of r) ≡ 0)

-- send takes exactly the good records without a blank at an end of their name, and refuses exactly the other good ones with 30
abbrev pub SentExactly : Type 0
SentExactly = (r : BatchRecord) → (send_verdict r ≡ Ok tt) ↔ ((good_record r ≡ true) × (blank_ends r ≡ false))

abbrev pub Means30 : Type 0
Means30 = (r : BatchRecord) → (send_verdict r ≡ Err BlankEnd) ↔ ((good_record r ≡ true) × (blank_ends r ≡ true))

-- a good record has a batch number
abbrev pub GoodNumber : Type 0
GoodNumber = (r : BatchRecord) → good_record r ≡ true → r.batch.0 ≡ 0 → ⊥
