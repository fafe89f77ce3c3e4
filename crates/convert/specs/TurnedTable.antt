-- A history table in tenths of a degree turned into hundredths, as document 02 has it: each temperature ten times as many, all else the same,
-- 25 where it is not sound in tenths; and what is promised of it.
use Rattle.std.specs.Prelude.{◌≡◌, Bool, true, ◌&&◌, List, map, ℕ, ℤ, length, get_or, Some, None, Ok, Err}
use Rattle.refusal.specs.declared.Refusal.TheVariants.{UnsoundRing}
use Rattle.batch.specs.Good.{every, unless}
use Rattle.batch.specs.Sending.{in_tenths, tenfold}
use Rattle.history.specs.declared.Row.{Row}
use Rattle.history.specs.Table.{empty_row, sound_table, readings_in}
use Rattle.history.specs.History.{Outcome, refused, done, Figures, figures_of, figures}

-- the row with these cells
abbrev pub with_cells : List ℤ → Row → Row
with_cells cells r = record { batch = r.batch; count = r.count; readings = cells }

-- each temperature ten times as many
abbrev pub tenfold_row : Row → Row
tenfold_row r = with_cells (map tenfold r.readings) r

abbrev pub tenfold_table : List Row → List Row
tenfold_table t = map tenfold_row t

-- every cell is a temperature in tenths
abbrev pub row_in_tenths : Row → Bool
row_in_tenths r = every in_tenths r.readings

-- sound in tenths: every temperature is one in tenths, and the table with each ten times as many is sound
unfoldable pub sound_in_tenths : List Row → Bool
sound_in_tenths t = every row_in_tenths t && sound_table (tenfold_table t)

unfoldable pub turn_table : List Row → Outcome
turn_table t = unless (sound_in_tenths t) (refused UnsoundRing t) (done (tenfold_table t))

-- ---- what is promised of every table
-- a table that was turned is sound
abbrev pub TurnedSound : Type 0
TurnedSound = (t : List Row) → (turn_table t).verdict ≡ Ok tt → sound_table (turn_table t).table ≡ true

-- each figure of every batch that is told then is ten times as many as that of the readings before, and a batch that had none has none
abbrev pub tenfold_figures : Figures → Figures
tenfold_figures (Ok None) = Ok None
tenfold_figures (Ok (Some f)) = Ok (Some (record { lowest = tenfold f.lowest; highest = tenfold f.highest; sum = tenfold f.sum }))
tenfold_figures (Err r) = Err r

abbrev pub FiguresTenfold : Type 0
FiguresTenfold =
    (t : List Row) (b : ℕ) → (turn_table t).verdict ≡ Ok tt →
    figures b (turn_table t).table ≡ tenfold_figures (Ok (figures_of (readings_in b t)))

-- all else is the same: how many rows there are, and the batch and the count of each
pub record AllElse (before after : List Row) : Type 0 where
  pub as_many : length after ≡ length before
  pub batches : (i : ℕ) → (get_or after i empty_row).batch ≡ (get_or before i empty_row).batch
  pub counts : (i : ℕ) → (get_or after i empty_row).count ≡ (get_or before i empty_row).count

abbrev pub AllElseSame : Type 0
AllElseSame = (t : List Row) → AllElse t (turn_table t).table
