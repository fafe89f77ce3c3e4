-- The worked tables (TableExamples.antt), computed.
use mathlib.Core.Path.{refl}
use Rattle.history.specs.Table.{sound_table, sound_row}
use Rattle.history.specs.History.{figures}
use Rattle.convert.specs.TurnedTable.{sound_in_tenths, turn_table}
use Rattle.convert.specs.TableExamples.{Turned, NotSound}

pub turned : Turned
unfolding turn_table sound_in_tenths sound_table sound_row figures
turned = record { cold-row = refl; cold-told = refl; hottest = refl; to-the-last = refl; every-row = refl; empty-table = refl }

pub not_sound : NotSound
unfolding turn_table sound_in_tenths sound_table sound_row
not_sound =
    record {
      too-hot = refl;
      last-too-hot = refl;
      too-cold = refl;
      comes-round = refl;
      in-hundredths = refl;
      last_row = refl;
      after-the-last = refl;
      reading-of-none = refl;
      no-readings = refl;
      two-rows = refl;
      rows-127 = refl;
      rows-129 = refl;
      rows_none = refl;
    }
