-- The worked lists of calls (Examples.antt), computed. Thousands of readings are not: 24 of them make a table that one more leaves as it is.
use Prim.Native.Nat.{ℕ, zero, suc, ◌+◌, ◌-◌}
use mathlib.Core.Path.{◌≡◌, refl, sym, ap, ◌∙◌}
use mathlib.Core.Bool.{false}
use mathlib.Core.List.{List, [], ◌∷◌, ◌++◌}
use native.Mathlib.Omega.{arith}
use lib.IntN.{pos}
use lib.ListN.{replicate, replicate-append-replicate}
use Rattle.refusal.specs.declared.Refusal.TheVariants.{UnsoundRing}
use Rattle.refusal.specs.Number.{verdict_number}
use Rattle.batch.specs.Good.{verdict_of, batch_good, temp_good, name_length_good, name_good, widths_good, name_cells_good}
use Rattle.history.specs.declared.Row.{Row}
use Rattle.history.specs.Table.{empty_row, empty_table, sound_table, sound_row}
use Rattle.history.specs.History.{Outcome, refused, note, close, figures, done, batch_in}
use Rattle.history.specs.Runs.{Call, noting, closing, made, table_after}
use Rattle.history.specs.Examples.{reading, after, verdicts, row, tells, hot, OneReading, OldestGoes, FiguresFollow, ZerosCount, ThousandsNoted, RangeEdges, Closed, NoRow, FullTable, RecordFirst, RowsTold, Says25, UnsoundTables, LookedUp25, UnsoundLookedUp}

pub one-reading : OneReading
unfolding sound_table sound_row note close figures verdict_of batch_good temp_good name_length_good name_good widths_good name_cells_good
one-reading = record { none_before = refl; answered = refl; taken = refl; told = refl; none-of-another = refl }

pub oldest-goes : OldestGoes
unfolding sound_table sound_row note close figures verdict_of batch_good temp_good name_length_good name_good widths_good name_cells_good
oldest-goes = record { answered = refl; row-of-23 = refl; row-of-24 = refl; told-of-24 = refl; row-of-25 = refl; told-of-25 = refl }

pub figures-follow : FiguresFollow
unfolding sound_table sound_row note close figures verdict_of batch_good temp_good name_length_good name_good widths_good name_cells_good
figures-follow = record { with-lowest = refl; without = refl; as-they-came = refl; mixed-told = refl; one_more = refl; below-zero = refl }

pub zeros-count : ZerosCount
unfolding sound_table sound_row note close figures verdict_of batch_good temp_good name_length_good name_good widths_good name_cells_good
zeros-count = record { taken = refl; told = refl }

pub range-edges : RangeEdges
unfolding sound_table sound_row note close figures verdict_of batch_good temp_good name_length_good name_good widths_good name_cells_good
range-edges = record { answered = refl; taken = refl }

pub closed : Closed
unfolding sound_table sound_row note close figures verdict_of batch_good temp_good name_length_good name_good widths_good name_cells_good
closed =
    record {
      answered = refl;
      all-zero = refl;
      emptied = refl;
      none_then = refl;
      replaced = refl;
      other_row = refl;
      other-told = refl;
      behind = refl;
      still-empty = refl;
      anew = refl;
      anew-told = refl;
    }

pub no_row : NoRow
unfolding sound_table sound_row note close figures verdict_of batch_good temp_good name_length_good name_good widths_good name_cells_good
no_row = record { answered = refl; as_before = refl; zero-told = refl; in_use = refl }

pub full-table : FullTable
unfolding sound_table sound_row note close figures verdict_of batch_good temp_good name_length_good name_good widths_good name_cells_good
full-table = record { filled = refl; told = refl; answered = refl; own_row = refl; freed-row = refl }

pub record-first : RecordFirst
unfolding sound_table sound_row note close figures verdict_of batch_good temp_good name_length_good name_good widths_good name_cells_good
record-first = record { answered = refl; as_before = refl }

pub rows_told : RowsTold
unfolding sound_table sound_row note close batch_in verdict_of batch_good temp_good name_length_good name_good widths_good name_cells_good
rows_told = record { emptied = refl; in_use = refl; last = refl; past-the-last = refl }

-- a table that is not sound
module _ {t : List Row} (bad : sound_table t ≡ false) where
  called-25 : (a : Call) → made a t ≡ refused UnsoundRing t
  unfolding note close
  called-25 (noting x) = rw bad refl
  called-25 (closing b) = rw bad refl

  says-25 : Says25 t
  unfolding figures
  says-25 = record { called = called-25; asked = λ b. rw bad refl }

  looked-up-25 : LookedUp25 t
  unfolding batch_in
  looked-up-25 = record { told = λ i. rw bad refl }

pub unsound-tables : UnsoundTables
unfolding sound_table sound_row note close figures verdict_of batch_good temp_good name_length_good name_good widths_good name_cells_good
unsound-tables =
    record {
      no-readings = says-25 refl;
      reading-of-none = says-25 refl;
      count-of-none = says-25 refl;
      row-of-zero = says-25 refl;
      too_many = says-25 refl;
      not-too-many = refl;
      after-the-last = says-25 refl;
      in-the-last-cell = says-25 refl;
      too-hot = says-25 refl;
      not-too-hot = refl;
      last-too-hot = says-25 refl;
      too-cold = says-25 refl;
      not-too-cold = refl;
      two-rows = says-25 refl;
      not-two = refl;
      first-and-last = says-25 refl;
      first-bad = says-25 refl;
      last-bad = says-25 refl;
      rows-127 = says-25 refl;
      rows-129 = says-25 refl;
      rows_none = says-25 refl;
    }

pub unsound-looked-up : UnsoundLookedUp
unfolding sound_table sound_row
unsound-looked-up =
    record {
      no-readings = looked-up-25 refl;
      reading-of-none = looked-up-25 refl;
      count-of-none = looked-up-25 refl;
      row-of-zero = looked-up-25 refl;
      too_many = looked-up-25 refl;
      after-the-last = looked-up-25 refl;
      in-the-last-cell = looked-up-25 refl;
      too-hot = looked-up-25 refl;
      last-too-hot = looked-up-25 refl;
      too-cold = looked-up-25 refl;
      two-rows = looked-up-25 refl;
      first-and-last = looked-up-25 refl;
      first-bad = looked-up-25 refl;
      last-bad = looked-up-25 refl;
      rows-127 = looked-up-25 refl;
      rows-129 = looked-up-25 refl;
      rows_none = looked-up-25 refl;
    }

-- ---- thousands of readings
-- a list of calls and then another
table-then : (before calls : List Call) (t : List Row) → table_after (before ++ calls) t ≡ table_after calls (table_after before t)
table-then [] calls t = refl
table-then (a ∷ before) calls t = table-then before calls (made a t).table

verdicts-then :
    (before calls : List Call) (t : List Row) → verdicts (before ++ calls) t ≡ verdicts before t ++ verdicts calls (table_after before t)
verdicts-then [] calls t = refl
verdicts-then (a ∷ before) calls t = ap (λ ns. verdict_number (made a t).verdict ∷ ns) (verdicts-then before calls (made a t).table)

-- a call that is done and leaves the table as it is, made n times
module _ (a : Call) (t : List Row) (stays : made a t ≡ done t) where
  table_stays : (n : ℕ) → table_after (replicate n a) t ≡ t
  table_stays zero = refl
  table_stays (suc n) = ap (λ (m : Outcome). table_after (replicate n a) m.table) stays ∙ table_stays n

  all_done : (n : ℕ) → verdicts (replicate n a) t ≡ replicate n 0
  all_done zero = refl
  all_done (suc n) =
      ap (λ (m : Outcome). verdict_number m.verdict ∷ verdicts (replicate n a) m.table) stays
      ∙ ap (λ ns. 0 ∷ ns) (all_done n)

-- such a call is a note of 12000 on the table with 24 readings of 12000
hot_table : List Row
hot_table = row 7 24 (replicate 24 (pos 12000)) ∷ replicate 127 empty_row

hot-24 : after (hot 24) ≡ hot_table
unfolding hot_table sound_table sound_row note verdict_of batch_good temp_good name_length_good name_good widths_good name_cells_good
hot-24 = refl

done-24 : verdicts (hot 24) empty_table ≡ replicate 24 0
unfolding sound_table sound_row note verdict_of batch_good temp_good name_length_good name_good widths_good name_cells_good
done-24 = refl

hot-stays : made (reading 7 (pos 12000)) hot_table ≡ done hot_table
unfolding hot_table sound_table sound_row note verdict_of batch_good temp_good name_length_good name_good widths_good name_cells_good
hot-stays = refl

hot-told : figures 7 hot_table ≡ tells (pos 12000) (pos 12000) (pos 288000)
unfolding hot_table sound_table sound_row figures
hot-told = refl

module _ (n : ℕ) where
  in_two : hot (24 + n) ≡ hot 24 ++ hot n
  in_two = sym (replicate-append-replicate 24 n (reading 7 (pos 12000)))

  told-on : figures 7 (after (hot (24 + n))) ≡ tells (pos 12000) (pos 12000) (pos 288000)
  told-on =
      ap (λ calls. figures 7 (after calls)) in_two
      ∙ ap (figures 7) (table-then (hot 24) (hot n) empty_table ∙ ap (table_after (hot n)) hot-24 ∙ table_stays _ hot_table hot-stays n)
      ∙ hot-told

  done_on : verdicts (hot (24 + n)) empty_table ≡ replicate (24 + n) 0
  done_on =
      ap (λ calls. verdicts calls empty_table) in_two
      ∙ verdicts-then (hot 24) (hot n) empty_table
      ∙ ap (λ ns. ns ++ verdicts (hot n) (after (hot 24))) done-24
      ∙ ap (λ ns. replicate 24 0 ++ ns) (ap (verdicts (hot n)) hot-24 ∙ all_done _ hot_table hot-stays n)
      ∙ replicate-append-replicate 24 n 0

pub thousands-noted : ThousandsNoted
thousands-noted =
    record {
      from-24-on = λ n enough.
          let split : 24 + (n - 24) ≡ n = omega arith in
          ap (λ k. figures 7 (after (hot k))) (sym split) ∙ told-on (n - 24);
      five-thousand = told-on 4976;
      all-taken = done_on 4976;
    }
