-- The history, pinned down by worked lists of calls: what they answer, by number and 0 where it is done; the rows that they leave; and the
-- figures told then.
use Rattle.std.specs.Prelude.{ℕ, zero, suc, ◌≤◌, ◌≡◌, List, [], ◌∷◌, ◌++◌, map, ℤ, pos, neg_ℤ, get_or, set, replicate, Some, None, Ok, Err}
use Rattle.refusal.specs.declared.Refusal.TheVariants.{UnsoundRing}
use Rattle.refusal.specs.Number.{verdict_number}
use Rattle.batch.specs.Good.{record_of}
use Rattle.history.specs.declared.Row.{Row}
use Rattle.history.specs.Table.{empty_row, empty_table}
use Rattle.history.specs.History.{refused, Figures, figures, batch_in}
use Rattle.history.specs.Runs.{Call, noting, closing, made, table_after}

-- ---- what the lists are made of
-- a record of batch b with this temperature and a good name is noted
abbrev pub reading : ℕ → ℤ → Call
reading b x = noting (record_of b 3 x 2 (0x41 ∷ 0x31 ∷ replicate 30 0))

-- the table that calls make of the empty one, and the row of number i in a table
abbrev pub after : List Call → List Row
after calls = table_after calls empty_table

abbrev pub row_at : ℕ → List Row → Row
row_at i t = get_or t i empty_row

-- what calls answer, one after another
abbrev pub verdicts : List Call → List Row → List ℕ
verdicts [] t = []
verdicts (a ∷ rest) t = verdict_number (made a t).verdict ∷ verdicts rest (made a t).table

-- a row by its fields: the batch, the count, the 24 cells
abbrev pub row : ℕ → ℕ → List ℤ → Row
row b n cells = record { batch = record { 0 = b }; count = n; readings = cells }

abbrev pub zeros : ℕ → List ℤ
zeros n = replicate n (pos 0)

-- figures by lowest, highest and sum
abbrev pub tells : ℤ → ℤ → ℤ → Figures
tells low high all = Ok (Some (record { lowest = low; highest = high; sum = all }))

-- n numbers from k on
abbrev pub from : ℕ → ℕ → List ℕ
from k zero = []
from k (suc n) = k ∷ from (suc k) n

-- ---- one batch
abbrev pub first_reading : List Call
first_reading = reading 7 (pos 612) ∷ []

pub record OneReading : Type 0 where
  pub none_before : figures 7 empty_table ≡ Ok None
  pub answered : verdicts first_reading empty_table ≡ 0 ∷ []
  pub taken : after first_reading ≡ row 7 1 (pos 612 ∷ zeros 23) ∷ replicate 127 (row 0 0 (zeros 24))
  pub told : figures 7 (after first_reading) ≡ tells (pos 612) (pos 612) (pos 612)
  pub none-of-another : figures 8 (after first_reading) ≡ Ok None

-- the readings 1 to n
abbrev pub rising : ℕ → List Call
rising n = map (λ x. reading 7 (pos x)) (from 1 n)

-- all of 24 stay, and the oldest makes way for the 25th
pub record OldestGoes : Type 0 where
  pub answered : verdicts (rising 25) empty_table ≡ replicate 25 0
  pub row-of-23 : row_at 0 (after (rising 23)) ≡ row 7 23 (map pos (from 1 23) ++ zeros 1)
  pub row-of-24 : row_at 0 (after (rising 24)) ≡ row 7 24 (map pos (from 1 24))
  pub told-of-24 : figures 7 (after (rising 24)) ≡ tells (pos 1) (pos 24) (pos 300)
  pub row-of-25 : row_at 0 (after (rising 25)) ≡ row 7 24 (map pos (from 2 24))
  pub told-of-25 : figures 7 (after (rising 25)) ≡ tells (pos 2) (pos 25) (pos 324)

-- 24 readings whose first is the lowest; and 24 whose first is neither the lowest nor the highest
abbrev pub cold_first : List Call
cold_first = reading 7 (neg_ℤ (pos 4000)) ∷ replicate 23 (reading 7 (pos 0))

abbrev pub mixed : List Call
mixed = reading 7 (pos 3) ∷ reading 7 (pos 9) ∷ reading 7 (neg_ℤ (pos 4)) ∷ replicate 21 (reading 7 (pos 0))

pub record FiguresFollow : Type 0 where
  -- the lowest reading is forgotten when it goes
  pub with-lowest : figures 7 (after cold_first) ≡ tells (neg_ℤ (pos 4000)) (pos 0) (neg_ℤ (pos 4000))
  pub without : figures 7 (after (cold_first ++ reading 7 (pos 5) ∷ [])) ≡ tells (pos 0) (pos 5) (pos 5)
  -- the readings stand as they came, and the oldest goes whatever it is
  pub as-they-came : row_at 0 (after mixed) ≡ row 7 24 (pos 3 ∷ pos 9 ∷ neg_ℤ (pos 4) ∷ zeros 21)
  pub mixed-told : figures 7 (after mixed) ≡ tells (neg_ℤ (pos 4)) (pos 9) (pos 8)
  pub one_more : figures 7 (after (mixed ++ reading 7 (pos 5) ∷ [])) ≡ tells (neg_ℤ (pos 4)) (pos 9) (pos 10)
  -- figures are of the readings alone: of readings below 0 the highest is below 0
  pub below-zero :
      figures 7 (after (reading 7 (neg_ℤ (pos 2)) ∷ reading 7 (neg_ℤ (pos 6)) ∷ [])) ≡ tells (neg_ℤ (pos 6)) (neg_ℤ (pos 2)) (neg_ℤ (pos 8))

-- a reading of zero counts as one
abbrev pub two_zeros : List Call
two_zeros = reading 7 (pos 0) ∷ reading 7 (pos 0) ∷ []

pub record ZerosCount : Type 0 where
  pub taken : row_at 0 (after two_zeros) ≡ row 7 2 (zeros 24)
  pub told : figures 7 (after two_zeros) ≡ tells (pos 0) (pos 0) (pos 0)

-- thousands of readings: the same figures after any number of them, from 24 on
abbrev pub hot : ℕ → List Call
hot n = replicate n (reading 7 (pos 12000))

pub record ThousandsNoted : Type 0 where
  pub from-24-on : (n : ℕ) → 24 ≤ n → figures 7 (after (hot n)) ≡ tells (pos 12000) (pos 12000) (pos 288000)
  pub five-thousand : figures 7 (after (hot 5000)) ≡ tells (pos 12000) (pos 12000) (pos 288000)
  pub all-taken : verdicts (hot 5000) empty_table ≡ replicate 5000 0

-- the edges of the range, and just beyond
abbrev pub at_edges : List Call
at_edges = reading 7 (neg_ℤ (pos 4000)) ∷ reading 7 (pos 12000) ∷ reading 7 (neg_ℤ (pos 4001)) ∷ reading 7 (pos 12001) ∷ []

pub record RangeEdges : Type 0 where
  pub answered : verdicts at_edges empty_table ≡ 0 ∷ 0 ∷ 12 ∷ 12 ∷ []
  pub taken : row_at 0 (after at_edges) ≡ row 7 2 (neg_ℤ (pos 4000) ∷ pos 12000 ∷ zeros 22)

-- ---- several batches
-- two batches, and the first is closed: row 0 is empty, row 1 is not
abbrev pub first_closed : List Call
first_closed = reading 7 (pos 1) ∷ reading 8 (pos 2) ∷ closing 7 ∷ []

abbrev pub first_replaced : List Call
first_replaced = first_closed ++ reading 9 (pos 3) ∷ []

pub record Closed : Type 0 where
  pub answered : verdicts first_replaced empty_table ≡ 0 ∷ 0 ∷ 0 ∷ 0 ∷ []
  pub all-zero : after (rising 24 ++ closing 7 ∷ []) ≡ empty_table
  pub emptied : row_at 0 (after first_closed) ≡ row 0 0 (zeros 24)
  pub none_then : figures 7 (after first_closed) ≡ Ok None
  -- the lowest empty row is taken, and the other batch keeps its row
  pub replaced : row_at 0 (after first_replaced) ≡ row 9 1 (pos 3 ∷ zeros 23)
  pub other_row : row_at 1 (after first_replaced) ≡ row 8 1 (pos 2 ∷ zeros 23)
  pub other-told : figures 8 (after first_replaced) ≡ tells (pos 2) (pos 2) (pos 2)
  -- a batch whose row stands behind an empty one stays there
  pub behind : row_at 1 (after (first_closed ++ reading 8 (pos 5) ∷ [])) ≡ row 8 2 (pos 2 ∷ pos 5 ∷ zeros 22)
  pub still-empty : row_at 0 (after (first_closed ++ reading 8 (pos 5) ∷ [])) ≡ row 0 0 (zeros 24)
  -- a batch that was closed starts anew
  pub anew : row_at 0 (after (first_closed ++ reading 7 (pos 6) ∷ [])) ≡ row 7 1 (pos 6 ∷ zeros 23)
  pub anew-told : figures 7 (after (first_closed ++ reading 7 (pos 6) ∷ [])) ≡ tells (pos 6) (pos 6) (pos 6)

-- closing and asking where there is no row
pub record NoRow : Type 0 where
  pub answered : verdicts (closing 7 ∷ closing 0 ∷ []) empty_table ≡ 0 ∷ 0 ∷ []
  pub as_before : after (closing 7 ∷ closing 0 ∷ []) ≡ empty_table
  pub zero-told : figures 0 empty_table ≡ Ok None
  pub in_use : after (first_reading ++ closing 8 ∷ closing 0 ∷ []) ≡ after first_reading

-- ---- the full table: batches 1 to 128 in rows 0 to 127
abbrev pub full : List Row
full = map (λ b. row b 1 (pos b ∷ zeros 23)) (from 1 128)

abbrev pub on_full : List Call
on_full = reading 129 (pos 0) ∷ reading 128 (pos 4) ∷ closing 5 ∷ reading 129 (pos 9) ∷ []

pub record FullTable : Type 0 where
  pub filled : after (map (λ b. reading b (pos b)) (from 1 128)) ≡ full
  pub told : figures 64 full ≡ tells (pos 64) (pos 64) (pos 64)
  -- 29 only where the batch has no row and none is empty
  pub answered : verdicts on_full full ≡ 29 ∷ 0 ∷ 0 ∷ 0 ∷ []
  pub own_row : row_at 127 (table_after on_full full) ≡ row 128 2 (pos 128 ∷ pos 4 ∷ zeros 22)
  pub freed-row : row_at 4 (table_after on_full full) ≡ row 129 1 (pos 9 ∷ zeros 23)

-- a name of length 33; and one with a byte after its end
abbrev pub long_name : Call
long_name = noting (record_of 129 3 (pos 0) 33 (replicate 32 0x41))

abbrev pub bad_name : Call
bad_name = noting (record_of 129 3 (pos 0) 1 (replicate 32 0x41))

abbrev pub bad_records : List Call
bad_records = reading 0 (pos 0) ∷ reading 129 (pos 12001) ∷ long_name ∷ bad_name ∷ reading 129 (pos 0) ∷ []

-- 11 to 14 before 29
pub record RecordFirst : Type 0 where
  pub answered : verdicts bad_records full ≡ 11 ∷ 12 ∷ 13 ∷ 14 ∷ 29 ∷ []
  pub as_before : table_after bad_records full ≡ full

-- the names `A` with a blank behind it, and one blank: good records, though no send takes them
abbrev pub blank_ended : List Call
blank_ended =
    noting (record_of 7 3 (pos 612) 2 (0x41 ∷ 0x20 ∷ replicate 30 0)) ∷ noting (record_of 7 3 (pos 613) 1 (0x20 ∷ replicate 31 0)) ∷ []

pub record BlankEndsNoted : Type 0 where
  pub answered : verdicts blank_ended empty_table ≡ 0 ∷ 0 ∷ []
  pub taken : row_at 0 (after blank_ended) ≡ row 7 2 (pos 612 ∷ pos 613 ∷ zeros 22)

-- the batch of each row, and none of a row that is empty or that no table has
pub record RowsTold : Type 0 where
  pub emptied : batch_in 0 (after first_closed) ≡ Ok None
  pub in_use : batch_in 1 (after first_closed) ≡ Ok (Some (record { 0 = 8 }))
  pub last : batch_in 127 full ≡ Ok (Some (record { 0 = 128 }))
  pub past-the-last : batch_in 128 full ≡ Ok None

-- ---- unsound tables: every call is refused with 25 and changes nothing, also where the record is bad or the batch has no row
pub record Says25 (t : List Row) : Type 0 where
  pub called : (a : Call) → made a t ≡ refused UnsoundRing t
  pub asked : (b : ℕ) → figures b t ≡ Err UnsoundRing

-- and a sound one, for comparison: a batch that has no row there is closed
abbrev pub Accepted : List Row → Type 0
Accepted t = verdicts (closing 200 ∷ []) t ≡ 0 ∷ []

-- the empty table with another row 3
abbrev pub with3 : Row → List Row
with3 r = set empty_table 3 r

abbrev pub one : Row
one = row 7 1 (pos 1 ∷ zeros 23)

pub record UnsoundTables : Type 0 where
  pub no-readings : Says25 (with3 (row 7 0 (zeros 24)))
  pub reading-of-none : Says25 (with3 (row 0 0 (pos 5 ∷ zeros 23)))
  pub count-of-none : Says25 (with3 (row 0 1 (zeros 24)))
  pub row-of-zero : Says25 (with3 (row 0 1 (pos 5 ∷ zeros 23)))
  pub too_many : Says25 (with3 (row 7 25 (map pos (from 1 24))))
  pub not-too-many : Accepted (with3 (row 7 24 (map pos (from 1 24))))
  pub after-the-last : Says25 (with3 (row 7 1 (pos 1 ∷ pos 1 ∷ zeros 22)))
  pub in-the-last-cell : Says25 (with3 (row 7 1 (zeros 23 ++ pos 1 ∷ [])))
  pub too-hot : Says25 (with3 (row 7 1 (pos 12001 ∷ zeros 23)))
  pub not-too-hot : Accepted (with3 (row 7 1 (pos 12000 ∷ zeros 23)))
  pub last-too-hot : Says25 (with3 (row 7 24 (map pos (from 1 23) ++ pos 12001 ∷ [])))
  pub too-cold : Says25 (with3 (row 7 1 (neg_ℤ (pos 4001) ∷ zeros 23)))
  pub not-too-cold : Accepted (with3 (row 7 1 (neg_ℤ (pos 4000) ∷ zeros 23)))
  pub two-rows : Says25 (set (with3 one) 90 one)
  pub not-two : Accepted (set (with3 one) 90 (row 8 1 (pos 1 ∷ zeros 23)))
  pub first-and-last : Says25 (set (set empty_table 0 one) 127 one)
  pub first-bad : Says25 (set full 0 (row 1 0 (zeros 24)))
  pub last-bad : Says25 (set full 127 (row 128 0 (zeros 24)))
  pub rows-127 : Says25 (replicate 127 empty_row)
  pub rows-129 : Says25 (replicate 129 empty_row)
  pub rows_none : Says25 []

-- and no batch of a row is told in them, whichever row is asked for
pub record LookedUp25 (t : List Row) : Type 0 where
  pub told : (i : ℕ) → batch_in i t ≡ Err UnsoundRing

pub record UnsoundLookedUp : Type 0 where
  pub no-readings : LookedUp25 (with3 (row 7 0 (zeros 24)))
  pub reading-of-none : LookedUp25 (with3 (row 0 0 (pos 5 ∷ zeros 23)))
  pub count-of-none : LookedUp25 (with3 (row 0 1 (zeros 24)))
  pub row-of-zero : LookedUp25 (with3 (row 0 1 (pos 5 ∷ zeros 23)))
  pub too_many : LookedUp25 (with3 (row 7 25 (map pos (from 1 24))))
  pub after-the-last : LookedUp25 (with3 (row 7 1 (pos 1 ∷ pos 1 ∷ zeros 22)))
  pub in-the-last-cell : LookedUp25 (with3 (row 7 1 (zeros 23 ++ pos 1 ∷ [])))
  pub too-hot : LookedUp25 (with3 (row 7 1 (pos 12001 ∷ zeros 23)))
  pub last-too-hot : LookedUp25 (with3 (row 7 24 (map pos (from 1 23) ++ pos 12001 ∷ [])))
  pub too-cold : LookedUp25 (with3 (row 7 1 (neg_ℤ (pos 4001) ∷ zeros 23)))
  pub two-rows : LookedUp25 (set (with3 one) 90 one)
  pub first-and-last : LookedUp25 (set (set empty_table 0 one) 127 one)
  pub first-bad : LookedUp25 (set full 0 (row 1 0 (zeros 24)))
  pub last-bad : LookedUp25 (set full 127 (row 128 0 (zeros 24)))
  pub rows-127 : LookedUp25 (replicate 127 empty_row)
  pub rows-129 : LookedUp25 (replicate 129 empty_row)
  pub rows_none : LookedUp25 []
