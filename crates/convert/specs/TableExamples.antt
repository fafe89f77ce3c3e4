-- The turning of a table, pinned down by worked ones: what they become, and which are refused and stay as they were.
use Rattle.std.specs.Prelude.{ℕ, ◌*◌, ◌≡◌, List, [], ◌∷◌, ◌++◌, map, pos, neg_ℤ, set, replicate}
use Rattle.refusal.specs.declared.Refusal.TheVariants.{UnsoundRing}
use Rattle.history.specs.declared.Row.{Row}
use Rattle.history.specs.Table.{empty_row, empty_table}
use Rattle.history.specs.History.{refused, done, figures}
use Rattle.history.specs.Examples.{row, zeros, tells, from, with3}
use Rattle.convert.specs.TurnedTable.{turn_table}

-- 128 rows of one reading each, which is k times the batch number
abbrev pub one_each : ℕ → List Row
one_each k = map (λ b. row b 1 (pos (b * k) ∷ zeros 23)) (from 1 128)

-- a row of 24 readings
abbrev pub rising : ℕ → Row
rising k = row 7 24 (map (λ x. pos (x * k)) (from 1 24))

-- −40.0 and 0.5 degrees
abbrev pub cold_row : Row
cold_row = row 7 2 (neg_ℤ (pos 400) ∷ pos 5 ∷ zeros 22)

pub record Turned : Type 0 where
  pub cold-row : turn_table (with3 cold_row) ≡ done (with3 (row 7 2 (neg_ℤ (pos 4000) ∷ pos 50 ∷ zeros 22)))
  pub cold-told : figures 7 (turn_table (with3 cold_row)).table ≡ tells (neg_ℤ (pos 4000)) (pos 50) (neg_ℤ (pos 3950))
  pub hottest : turn_table (with3 (row 7 1 (pos 1200 ∷ zeros 23))) ≡ done (with3 (row 7 1 (pos 12000 ∷ zeros 23)))
  pub to-the-last : turn_table (with3 (rising 1)) ≡ done (with3 (rising 10))
  pub every-row : turn_table (one_each 1) ≡ done (one_each 10)
  pub empty-table : turn_table empty_table ≡ done empty_table

-- 25, and the table is as it was
abbrev pub Says25 : List Row → Type 0
Says25 t = turn_table t ≡ refused UnsoundRing t

pub record NotSound : Type 0 where
  -- out of the range of tenths; ten times 6554 would come round to 4 in 16 bits
  pub too-hot : Says25 (with3 (row 7 1 (pos 1201 ∷ zeros 23)))
  pub last-too-hot : Says25 (with3 (row 7 24 (map pos (from 1 23) ++ pos 1201 ∷ [])))
  pub too-cold : Says25 (with3 (row 7 1 (neg_ℤ (pos 401) ∷ zeros 23)))
  pub comes-round : Says25 (with3 (row 7 1 (pos 6554 ∷ zeros 23)))
  pub in-hundredths : Says25 (with3 (row 7 2 (pos 6120 ∷ pos 6120 ∷ zeros 22)))
  pub last_row : Says25 (set (one_each 1) 127 (row 128 1 (pos 1201 ∷ zeros 23)))
  -- not a table, whatever the unit
  pub after-the-last : Says25 (with3 (row 7 1 (pos 1 ∷ pos 1 ∷ zeros 22)))
  pub reading-of-none : Says25 (with3 (row 0 0 (pos 5 ∷ zeros 23)))
  pub no-readings : Says25 (with3 (row 7 0 (zeros 24)))
  pub two-rows : Says25 (set (with3 cold_row) 90 cold_row)
  pub rows-127 : Says25 (replicate 127 empty_row)
  pub rows-129 : Says25 (replicate 129 empty_row)
  pub rows_none : Says25 []
