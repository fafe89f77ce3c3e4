-- What the calls on a history table take and answer, in plain numbers.
use Rattle.std.specs.Prelude.{ℕ, List, pos, Some, None, Ok, Err}
use Rattle.refusal.specs.Number.{number_of}
use Rattle.batch.specs.declared.BatchNo.{BatchNo}
use Rattle.history.specs.declared.Row.{Row}
use Rattle.history.specs.History.{Figures, InRow}
use Rattle.history.specs.Said.{FiguresTold, figures_said, BatchTold, batch_told_in, batch_said}
use Rattle.network.specs.Counting.{one}
use Rattle.c_structs.specs.declared.BatchFigures.{BatchFigures}
use Rattle.c_structs.specs.declared.RowBatch.{RowBatch}

abbrev pub batch_no : ℕ → BatchNo
batch_no n = record { 0 = n }

-- where there are none, the three figures are 0
abbrev pub no_figures : ℕ → BatchFigures
no_figures n = record { sum = pos 0; lowest = pos 0; highest = pos 0; refusal = n; held = 0 }

abbrev pub figures_in : Figures → BatchFigures
figures_in (Ok None) = no_figures 0
figures_in (Ok (Some s)) = record { sum = s.sum; lowest = s.lowest; highest = s.highest; refusal = 0; held = 1 }
figures_in (Err r) = no_figures (number_of r)

-- the same from what the history's own definitions have the figures say
abbrev pub figures_struct : FiguresTold → BatchFigures
figures_struct f = record { sum = f.sum; lowest = f.lowest; highest = f.highest; refusal = f.number; held = one f.any }

abbrev pub figures_to : ℕ → List Row → BatchFigures
figures_to batch table = figures_struct (figures_said batch table)

abbrev pub batch_struct : BatchTold → RowBatch
batch_struct b = record { batch = b.batch; refusal = b.number }

abbrev pub batch_in : InRow → RowBatch
batch_in in_row = batch_struct (batch_told_in in_row)

abbrev pub batch_to : ℕ → List Row → RowBatch
batch_to row table = batch_struct (batch_said row table)
