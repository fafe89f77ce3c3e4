-- The calls on a history table, as document 02 has them: a record is noted, a batch is closed, the figures of a batch are asked for; and which
-- batch a row is of. Each judges the table first (25); a record is then judged as a ring judges those that it holds (11 to 14, and not 30,
-- which is send's alone), and 29 comes last.
use Rattle.std.specs.Prelude.{ℕ, ◌-◌, cond, ◌||◌, List, [], ◌∷◌, ◌++◌, eqb, ℤ, ◌+ℤ◌, length, get_or, drop, set, Option, Some, None, Result, Ok, Err}
use Rattle.std.specs.Int.Signed.{lt_z}
use Rattle.refusal.specs.declared.Refusal.{Refusal}
use Rattle.refusal.specs.declared.Refusal.TheVariants.{UnsoundRing, NoEmptyRow}
use Rattle.refusal.specs.Number.{Verdict}
use Rattle.batch.specs.declared.BatchNo.{BatchNo}
use Rattle.batch.specs.declared.BatchRecord.{BatchRecord}
use Rattle.batch.specs.Good.{unless, verdict_of}
use Rattle.history.specs.declared.Row.{Row}
use Rattle.history.specs.declared.Summary.{Summary}
use Rattle.history.specs.Table.{reading_limit, row_with, empty_row, batches_in, sound_table, has_row, row_of, has_empty, lowest_empty, readings_in}

-- the table after a call, and what the call answered
pub record Outcome : Type 0 where
  pub table : List Row
  pub verdict : Verdict

-- a refused call leaves the table as it was
abbrev pub refused : Refusal → List Row → Outcome
refused r t = record { table = t; verdict = Err r }

abbrev pub done : List Row → Outcome
done t = record { table = t; verdict = Ok tt }

-- what a good record leads to, or the refusal of a bad one
abbrev pub judged {ℓ} : {A : Type ℓ} → Verdict → (Refusal → A) → A → A
judged (Ok u) refusal later = later
judged (Err r) refusal later = refusal r

-- ---- note
-- the last n of a list
abbrev pub last_of : {A : Type 0} → ℕ → List A → List A
last_of n xs = drop (length xs - n) xs

-- a reading comes last, and the oldest of 24 makes way
abbrev pub joined : List ℤ → ℤ → List ℤ
joined xs x = last_of reading_limit (xs ++ x ∷ [])

-- where a batch's next reading goes: to its row, else to the lowest empty row
abbrev pub home : ℕ → List Row → ℕ
home b t = cond (has_row b t) (row_of b t) (lowest_empty t)

-- batch b has one reading more
abbrev pub with_reading : ℕ → ℤ → List Row → List Row
with_reading b x t = set t (home b t) (row_with b (joined (readings_in b t) x))

unfoldable pub note : BatchRecord → List Row → Outcome
note x t =
    let b = x.batch.0 in
    unless (sound_table t) (refused UnsoundRing t)
    (judged (verdict_of x) (λ r. refused r t)
    (unless (has_row b t || has_empty t) (refused NoEmptyRow t)
    (done (with_reading b x.temperature t))))

-- ---- close: the whole row becomes zero
abbrev pub without_row : ℕ → List Row → List Row
without_row b t = cond (has_row b t) (set t (row_of b t) empty_row) t

unfoldable pub close : ℕ → List Row → Outcome
close b t = unless (sound_table t) (refused UnsoundRing t) (done (without_row b t))

-- ---- figures: the lowest, the highest and the sum of a reading x and those after it
abbrev pub lowest : ℤ → List ℤ → ℤ
lowest x [] = x
lowest x (y ∷ ys) = lowest (cond (lt_z y x) y x) ys

abbrev pub highest : ℤ → List ℤ → ℤ
highest x [] = x
highest x (y ∷ ys) = highest (cond (lt_z x y) y x) ys

abbrev pub sum : ℤ → List ℤ → ℤ
sum x [] = x
sum x (y ∷ ys) = sum (x +ℤ y) ys

-- those of readings, oldest first; none of none
abbrev pub figures_of : List ℤ → Option Summary
figures_of [] = None
figures_of (x ∷ xs) = Some (record { lowest = lowest x xs; highest = highest x xs; sum = sum x xs })

-- what is answered where the figures of a batch are asked for: they, none where it has no row, or the refusal
abbrev pub Figures : Type 0
Figures = Result (Option Summary) Refusal

unfoldable pub figures : ℕ → List Row → Figures
figures b t = unless (sound_table t) (Err UnsoundRing) (Ok (figures_of (readings_in b t)))

-- ---- the batch of row i: none where the row is empty, or the table has no such row
abbrev pub batch_or_none : ℕ → Option BatchNo
batch_or_none b = cond (eqb b 0) None (Some (record { 0 = b }))

abbrev pub InRow : Type 0
InRow = Result (Option BatchNo) Refusal

unfoldable pub batch_in : ℕ → List Row → InRow
batch_in i t = unless (sound_table t) (Err UnsoundRing) (Ok (batch_or_none (get_or (batches_in t) i 0)))
