-- What a history promises over a run: for every list of notes and closes from the empty table, the readings of every batch are the last 24 of
-- the temperatures accepted for it since its last close, oldest first; and its figures are those of these readings. A record that send
-- refuses for the ends of its name is taken as any good one. From any other sound table they are the last 24 of those that it held there and
-- of those accepted.
use Rattle.std.specs.Prelude.{ℕ, ◌≡◌, ◌≢◌, true, cond, ◌||◌, List, [], ◌∷◌, ◌++◌, eqb, ℤ, length, get_or, Ok, Err}
use Rattle.refusal.specs.declared.Refusal.TheVariants.{BlankEnd}
use Rattle.refusal.specs.Number.{Verdict}
use Rattle.batch.specs.declared.BatchRecord.{BatchRecord}
use Rattle.batch.specs.Good.{send_verdict}
use Rattle.history.specs.declared.Row.{Row}
use Rattle.history.specs.Table.{reading_limit, empty_row, empty_table, sound_table, has_row, row_of, has_empty, readings_in}
use Rattle.history.specs.History.{Outcome, done, home, note, with_reading, close, figures, figures_of, last_of}

-- a call that may change the table
pub data Call : Type 0 where
  noting : BatchRecord → Call
  closing : ℕ → Call

abbrev pub made : Call → List Row → Outcome
made (noting x) t = note x t
made (closing b) t = close b t

abbrev pub table_after : List Call → List Row → List Row
table_after [] t = t
table_after (a ∷ rest) t = table_after rest (made a t).table

-- the temperatures accepted for batch b since its last close, oldest first: xs before a call, and after it
abbrev pub accepts : ℕ → Call → Verdict → List ℤ → List ℤ
accepts b a (Err r) xs = xs
accepts b (noting x) (Ok u) xs = cond (eqb x.batch.0 b) (xs ++ x.temperature ∷ []) xs
accepts b (closing c) (Ok u) xs = cond (eqb c b) [] xs

-- and after a list of calls on the table t
abbrev pub accepted : ℕ → List Call → List Row → List ℤ → List ℤ
accepted b [] t xs = xs
accepted b (a ∷ rest) t xs = accepted b rest (made a t).table (accepts b a (made a t).verdict xs)

-- the table stays sound
abbrev pub StaysSound : Type 0
StaysSound = (calls : List Call) → sound_table (table_after calls empty_table) ≡ true

abbrev pub LastReadings : Type 0
LastReadings =
    (calls : List Call) (b : ℕ) → readings_in b (table_after calls empty_table) ≡ last_of reading_limit (accepted b calls empty_table [])

abbrev pub FiguresAfresh : Type 0
FiguresAfresh =
    (calls : List Call) (b : ℕ) → figures b (table_after calls empty_table) ≡ Ok (figures_of (last_of reading_limit (accepted b calls empty_table [])))

-- ---- from any sound table: of batch b, its readings in the table t, and those accepted for it by the calls
abbrev pub last_readings : ℕ → List Call → List Row → List ℤ
last_readings b calls t = last_of reading_limit (accepted b calls t (readings_in b t))

pub record FromSound : Type 0 where
  pub stays-sound : (t : List Row) → sound_table t ≡ true → (calls : List Call) → sound_table (table_after calls t) ≡ true
  pub last-readings :
      (t : List Row) → sound_table t ≡ true → (calls : List Call) (b : ℕ) → readings_in b (table_after calls t) ≡ last_readings b calls t
  pub figures-afresh :
      (t : List Row) → sound_table t ≡ true → (calls : List Call) (b : ℕ) → figures b (table_after calls t) ≡ Ok (figures_of (last_readings b calls t))

-- The empty table is such a table, and no batch has readings in it: from there they are the last of those accepted, and of no others.
pub record FromEmpty : Type 0 where
  pub is-sound : sound_table empty_table ≡ true
  pub no-readings : (b : ℕ) → readings_in b empty_table ≡ []
  pub accepted-alone : (calls : List Call) (b : ℕ) → last_readings b calls empty_table ≡ last_of reading_limit (accepted b calls empty_table [])

-- ---- a call changes one row at most
abbrev pub OneRow : Type 0
OneRow = (a : Call) (t : List Row) → (i : ℕ) × ((j : ℕ) → j ≢ i → get_or (made a t).table j empty_row ≡ get_or t j empty_row)

-- The row that it may change: a reading goes to the row of its batch, else to the lowest empty one; a batch that is closed has its row
-- emptied.
abbrev pub row_for : Call → List Row → ℕ
row_for (noting x) t = home x.batch.0 t
row_for (closing b) t = row_of b t

-- it changes no other row, and not how many there are
pub record ItsRow : Type 0 where
  pub as_many : (a : Call) (t : List Row) → length (made a t).table ≡ length t
  pub other-rows : (a : Call) (t : List Row) (j : ℕ) → j ≢ row_for a t → get_or (made a t).table j empty_row ≡ get_or t j empty_row

-- and no reading of another batch
abbrev pub batch_of : Call → ℕ
batch_of (noting x) = x.batch.0
batch_of (closing b) = b

abbrev pub OthersUntouched : Type 0
OthersUntouched = (a : Call) (t : List Row) (b : ℕ) → batch_of a ≢ b → readings_in b (made a t).table ≡ readings_in b t

-- The history takes what send refuses with 30: on a sound table where its batch has a row, or a row is empty, the batch has one reading more.
abbrev pub TakesBlankEnds : Type 0
TakesBlankEnds =
    (x : BatchRecord) (t : List Row) →
    send_verdict x ≡ Err BlankEnd → sound_table t ≡ true → (has_row x.batch.0 t || has_empty t) ≡ true →
    note x t ≡ done (with_reading x.batch.0 x.temperature t)
