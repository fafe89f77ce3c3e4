-- Names with a blank at an end are noted: the worked notes, computed, and that it is so of every such record. They stand before all else that is
-- shown of a note, so that a history which asks what send asks is told by them.
use mathlib.Core.Path.{refl}
use Rattle.batch.specs.Good.{blank_at_end, blank_ends, send_verdict, verdict_of, batch_good, temp_good, name_length_good, name_good, widths_good, name_cells_good}
use Rattle.batch.proofs.Good.{good-exactly, means-30}
use Rattle.history.specs.Table.{sound_table, sound_row}
use Rattle.history.specs.History.{note}
use Rattle.history.specs.Runs.{TakesBlankEnds}
use Rattle.history.specs.Examples.{BlankEndsNoted}

-- what send asks is unfolded too: a history that asked it would come to another number here
pub blank-ends-noted : BlankEndsNoted
unfolding sound_table sound_row note send_verdict blank_ends blank_at_end verdict_of batch_good temp_good name_length_good name_good widths_good name_cells_good
blank-ends-noted = record { answered = refl; taken = refl }

pub takes-blank-ends : TakesBlankEnds
unfolding note
takes-blank-ends x t ends sound room = rw (sound, (good-exactly x).0 ((means-30 x).0 ends).0, room)
