-- How a table is judged and what a row then becomes: the definitions that the functions of the code meet.
use Rattle.std.specs.Prelude.{cond, ◌&&◌, map, List, ℕ, ℤ, Ok, Err}
use Rattle.refusal.specs.declared.Refusal.TheVariants.{UnsoundRing}
use Rattle.refusal.specs.Number.{Verdict}
use Rattle.batch.specs.Good.{every, unless}
use Rattle.batch.specs.Sending.{in_tenths, tenfold}
use Rattle.lent.specs.Slices.{fold_rows}
use Rattle.history.specs.declared.Row.{Row}
use Rattle.history.specs.declared.Search.{Search}
use Rattle.history.specs.Search.{begin_at, seen_at, sound_search}
use Rattle.convert.specs.TurnedTable.{with_cells, row_in_tenths}

-- a cell that is no temperature in tenths stays as it is, since the table is refused then
abbrev pub turned_cell : ℤ → ℤ
turned_cell x = cond (in_tenths x) (tenfold x) x

abbrev pub turned_row : Row → Row
turned_row r = with_cells (map turned_cell r.readings) r

-- what a pass over the rows keeps, as they are turned
abbrev pub turned_at : Search → Row → ℕ → Search
turned_at s r i = seen_at s (turned_row r) i

abbrev pub turned_pass : List Row → Search
turned_pass t = fold_rows turned_at 0 (begin_at (record { 0 = 0 })) t

abbrev pub judged : List Row → Verdict
judged t = unless (every row_in_tenths t && sound_search (turned_pass t)) (Err UnsoundRing) (Ok tt)
