-- The history table of document 02: rows of readings, one for each batch, and which rows and tables are sound. A reading is a record's
-- temperature.
use Rattle.std.specs.Prelude.{ℕ, suc, ◌-◌, Bool, true, false, cond, not, ◌&&◌, ◌||◌, List, [], ◌∷◌, ◌++◌, map, eqb, leb, ltb, ℤ, pos, negsuc, length, get_or, take, replicate}
use Rattle.batch.specs.Good.{every, first_then, is_zero, in_range}
use Rattle.history.specs.declared.Row.{Row}

-- how many rows a table has, and how many readings a row has room for
abbrev pub row_limit : ℕ
row_limit = 128

abbrev pub reading_limit : ℕ
reading_limit = 24

-- the row of a batch with these readings, oldest first, and zeros after the last; the empty row is all zero
abbrev pub row_with : ℕ → List ℤ → Row
row_with b xs = record {
  batch = record { 0 = b };
  count = length xs;
  readings = xs ++ replicate (reading_limit - length xs) (pos 0);
}

abbrev pub empty_row : Row
empty_row = row_with 0 []

-- the table that a history begins with
abbrev pub empty_table : List Row
empty_table = replicate row_limit empty_row

-- the readings that a row holds
abbrev pub readings_of : Row → List ℤ
readings_of r = take r.count r.readings

-- ---- sound rows and tables
abbrev pub is_nought : ℤ → Bool
is_nought (pos n) = is_zero n
is_nought (negsuc n) = false

-- a row in use holds 1 to 24 readings, an empty one none
abbrev pub count_good : ℕ → ℕ → Bool
count_good b n = cond (is_zero b) (is_zero n) (leb 1 n && leb n reading_limit)

-- the first n cells are readings in range, the rest are zeros
abbrev pub cells_good : ℕ → List ℤ → Bool
cells_good n cells = first_then in_range is_nought n cells

-- a row as document 02 says; that it has 24 cells is by its type in memory
unfoldable pub sound_row : Row → Bool
sound_row r = count_good r.batch.0 r.count && cells_good r.count r.readings

-- the batch numbers of the rows, in the order of the rows; 0 is an empty row's
abbrev pub batches_in : List Row → List ℕ
batches_in t = map (λ (r : Row). r.batch.0) t

-- where a number stands first in a list, or the length of the list where it is not in it
abbrev pub place_of : ℕ → List ℕ → ℕ
place_of b [] = 0
place_of b (x ∷ xs) = cond (eqb x b) 0 (suc (place_of b xs))

abbrev pub holds : ℕ → List ℕ → Bool
holds b xs = ltb (place_of b xs) (length xs)

-- no batch has two rows
abbrev pub none_twice : List ℕ → Bool
none_twice [] = true
none_twice (b ∷ bs) = (is_zero b || not (holds b bs)) && none_twice bs

-- exactly 128 rows, each sound, no two of one batch
unfoldable pub sound_table : List Row → Bool
sound_table t = eqb (length t) row_limit && every sound_row t && none_twice (batches_in t)

-- ---- the row of a batch. Batch number 0 never has one
abbrev pub has_row : ℕ → List Row → Bool
has_row b t = not (is_zero b) && holds b (batches_in t)

abbrev pub row_of : ℕ → List Row → ℕ
row_of b t = place_of b (batches_in t)

-- the lowest empty row
abbrev pub has_empty : List Row → Bool
has_empty t = holds 0 (batches_in t)

abbrev pub lowest_empty : List Row → ℕ
lowest_empty t = place_of 0 (batches_in t)

-- the readings of a batch: none where it has no row
abbrev pub readings_in : ℕ → List Row → List ℤ
readings_in b t = cond (has_row b t) (readings_of (get_or t (row_of b t) empty_row)) []
