-- What one pass over a table keeps, and what each call makes of it: the definitions that the functions by value meet. A call tests the whole
-- table and finds its row in the same pass.
use Rattle.std.specs.Prelude.{ℕ, suc, min, Bool, true, cond, ◌&&◌, List, eqb, get_or, set, replicate, Option, Some, None, Result, Ok, Err}
use Rattle.std.specs.List.{position}
use Rattle.std.specs.Option.{option_or}
use Rattle.refusal.specs.declared.Refusal.{Refusal}
use Rattle.refusal.specs.declared.Refusal.TheVariants.{UnsoundRing, NoEmptyRow}
use Rattle.batch.specs.declared.BatchNo.{BatchNo}
use Rattle.batch.specs.declared.BatchRecord.{BatchRecord}
use Rattle.refusal.specs.Number.{Verdict}
use Rattle.batch.specs.Good.{is_zero, unless, verdict_of}
use Rattle.lent.specs.Slices.{fold_rows}
use Rattle.history.specs.declared.Row.{Row}
use Rattle.history.specs.declared.Search.{Search}
use Rattle.history.specs.Table.{row_limit, row_with, empty_row, sound_row, none_twice, readings_of}
use Rattle.history.specs.History.{judged, joined, Figures, figures_of, InRow, batch_or_none}

abbrev pub begin_at : BatchNo → Search
begin_at b = record { wanted = b; found = empty_row; fine = true; rows = 0; batches = replicate row_limit 0 }

-- of rows, as many are counted as there are up to the one of number i; one more than the limit stands for any number over it
abbrev pub seen_at : Search → Row → ℕ → Search
seen_at s r i = record {
  wanted = s.wanted;
  found = cond (eqb r.batch.0 s.wanted.0) r s.found;
  fine = s.fine && sound_row r;
  rows = suc (min i row_limit);
  batches = set s.batches i r.batch.0;
}

-- the pass over a whole table
abbrev pub pass : BatchNo → List Row → Search
pass b t = fold_rows seen_at 0 (begin_at b) t

-- the rows passed are a sound table
abbrev pub sound_search : Search → Bool
sound_search s = eqb s.rows row_limit && s.fine && none_twice s.batches

-- a call on a table that is not sound is refused before all else
abbrev pub verdict_on : Search → Verdict
verdict_on s = unless (sound_search s) (Err UnsoundRing) (Ok tt)

-- where a batch number stands first, if it does
abbrev pub place_in : ℕ → List ℕ → Option ℕ
place_in b bs = position (λ x. eqb x b) bs

-- where a batch's next reading goes: to its row, else to the lowest empty one, if there is one
abbrev pub home_in : ℕ → List ℕ → Option ℕ
home_in b bs = option_or (place_in b bs) (place_in 0 bs)

-- the row that a reading goes to, and what it becomes
abbrev pub goes_to : Option ℕ → Row → Result (ℕ × Row) Refusal
goes_to None r = Err NoEmptyRow
goes_to (Some i) r = Ok (i, r)

abbrev pub to_note : Search → BatchRecord → Result (ℕ × Row) Refusal
to_note s x =
    unless (sound_search s) (Err UnsoundRing)
    (judged (verdict_of x) Err
    (goes_to (home_in x.batch.0 s.batches) (row_with x.batch.0 (joined (readings_of s.found) x.temperature))))

-- the row that a close empties, if there is one
abbrev pub row_in : ℕ → List ℕ → Option ℕ
row_in b bs = cond (is_zero b) None (place_in b bs)

abbrev pub to_close : Search → BatchNo → Result (Option ℕ) Refusal
to_close s b = unless (sound_search s) (Err UnsoundRing) (Ok (row_in b.0 s.batches))

abbrev pub to_tell : Search → Figures
to_tell s = unless (sound_search s) (Err UnsoundRing) (Ok (figures_of (readings_of s.found)))

abbrev pub to_list : Search → ℕ → InRow
to_list s i = unless (sound_search s) (Err UnsoundRing) (Ok (batch_or_none (get_or s.batches i 0)))
