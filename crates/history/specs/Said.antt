-- What documents 01 and 02 have the questions and calls on a history answer, in their numbers and values: each refusal by its own number and
-- its own test, in their order, and 0 for a call that is done. What the code answers says just that.
use Rattle.std.specs.Prelude.{ℕ, ◌≡◌, Bool, true, false, ◌&&◌, ◌||◌, List, [], ◌∷◌, ℤ, pos, get_or, Some, None, Ok, Err}
use Rattle.refusal.specs.Number.{number_of, verdict_number}
use Rattle.batch.specs.declared.BatchRecord.{BatchRecord}
use Rattle.batch.specs.Good.{unless, batch_good, temp_good, name_length_good, name_good, widths_good}
use Rattle.history.specs.declared.Row.{Row}
use Rattle.history.specs.Table.{sound_table, batches_in, has_row, has_empty, readings_in}
use Rattle.history.specs.History.{note, close, Figures, figures, lowest, highest, sum, InRow, batch_in}

-- ---- note and close: a number alone
-- of a record: 11 batch number 0; 12 temperature out of range; 13 name length over 32; 14 a name byte or the fill is wrong; else what comes
-- later
abbrev pub record_or : BatchRecord → ℕ → ℕ
record_or x later =
    unless (batch_good x) 11
    (unless (temp_good x) 12
    (unless (name_length_good x) 13
    (unless (name_good x && widths_good x) 14
    later)))

abbrev pub note_said : BatchRecord → List Row → ℕ
note_said x t =
    unless (sound_table t) 25
    (record_or x
    (unless (has_row x.batch.0 t || has_empty t) 29
    0))

abbrev pub NoteSaid : Type 0
NoteSaid = (x : BatchRecord) (t : List Row) → verdict_number (note x t).verdict ≡ note_said x t

abbrev pub close_said : List Row → ℕ
close_said t = unless (sound_table t) 25 0

abbrev pub CloseSaid : Type 0
CloseSaid = (b : ℕ) (t : List Row) → verdict_number (close b t).verdict ≡ close_said t

-- ---- figures: a number, whether there are readings, and the three of them
pub record FiguresTold : Type 0 where
  pub number : ℕ
  pub any : Bool
  pub lowest : ℤ
  pub highest : ℤ
  pub sum : ℤ

-- no readings, and nothing of them; a refusal answers its number alone
abbrev pub none_told : ℕ → FiguresTold
none_told n = record { number = n; any = false; lowest = pos 0; highest = pos 0; sum = pos 0 }

abbrev pub told_in : Figures → FiguresTold
told_in (Ok None) = none_told 0
told_in (Ok (Some s)) = record { number = 0; any = true; lowest = s.lowest; highest = s.highest; sum = s.sum }
told_in (Err r) = none_told (number_of r)

-- of readings, oldest first
abbrev pub told_of : List ℤ → FiguresTold
told_of [] = none_told 0
told_of (x ∷ xs) = record { number = 0; any = true; lowest = lowest x xs; highest = highest x xs; sum = sum x xs }

-- 25, or none where the batch has no row, or those of its readings
abbrev pub figures_said : ℕ → List Row → FiguresTold
figures_said b t = unless (sound_table t) (none_told 25) (unless (has_row b t) (none_told 0) (told_of (readings_in b t)))

abbrev pub FiguresSaid : Type 0
FiguresSaid = (b : ℕ) (t : List Row) → told_in (figures b t) ≡ figures_said b t

-- ---- the batch of a row: a number and the batch; batch number 0, which never has a row, where there is none
pub record BatchTold : Type 0 where
  pub number : ℕ
  pub batch : ℕ

abbrev pub tells_batch : ℕ → ℕ → BatchTold
tells_batch n b = record { number = n; batch = b }

abbrev pub batch_told_in : InRow → BatchTold
batch_told_in (Ok None) = tells_batch 0 0
batch_told_in (Ok (Some b)) = tells_batch 0 b.0
batch_told_in (Err r) = tells_batch (number_of r) 0

abbrev pub batch_said : ℕ → List Row → BatchTold
batch_said i t = unless (sound_table t) (tells_batch 25 0) (tells_batch 0 (get_or (batches_in t) i 0))

abbrev pub BatchSaid : Type 0
BatchSaid = (i : ℕ) (t : List Row) → batch_told_in (batch_in i t) ≡ batch_said i t
