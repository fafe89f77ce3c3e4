-- What a table is judged by is what the definition asks, and the rows then become what it says.
use mathlib.Core.Path.{◌≡◌, refl, ap, ◌∙◌}
use mathlib.Core.Bool.{Bool, true, and-eq-true_iff}
use mathlib.Core.List.{List, [], ◌∷◌, map}
use Prim.Native.Nat.{ℕ, suc}
use Rattle.std.specs.Prelude.{Ok, Err}
use Rattle.refusal.specs.declared.Refusal.{Refusal}
use Rattle.refusal.specs.declared.Refusal.TheVariants.{UnsoundRing}
use Rattle.refusal.specs.Number.{Verdict}
use Rattle.batch.specs.Good.{every, unless}
use Rattle.batch.specs.Sending.{in_tenths, tenfold}
use Rattle.numbers.proofs.Splits.{by-test}
use Rattle.lent.specs.Slices.{fold_rows}
use Rattle.history.specs.declared.Row.{Row}
use Rattle.history.specs.declared.Search.{Search}
use Rattle.history.specs.Table.{sound_table}
use Rattle.history.specs.Search.{seen_at, sound_search}
use Rattle.history.proofs.Passing.{sound-pass}
use Rattle.convert.specs.TurnedTable.{with_cells, tenfold_row, tenfold_table, row_in_tenths, sound_in_tenths, turn_table}
use Rattle.convert.specs.TablePass.{turned_cell, turned_row, turned_at, turned_pass, judged}

-- ---- lists: where the test f passes everywhere, and g and h agree where it does
map_same :
    {A B : Type 0} (f : A → Bool) (g h : A → B) → ((x : A) → f x ≡ true → g x ≡ h x) → (xs : List A) → every f xs ≡ true → map g xs ≡ map h xs
map_same f g h same [] e = refl
map_same f g h same (x ∷ xs) e =
    let both = (and-eq-true_iff (f x) (every f xs)).0 e in
    ap (λ y. y ∷ map g xs) (same x both.0) ∙ ap (λ ys. h x ∷ ys) (map_same f g h same xs both.1)

-- ---- a table in tenths is turned as the definition says
row-turned : (r : Row) → row_in_tenths r ≡ true → turned_row r ≡ tenfold_row r
row-turned r e = ap (λ cells. with_cells cells r) (map_same in_tenths turned_cell tenfold (λ x f. rw f) r.readings e)

table-turned : (t : List Row) → every row_in_tenths t ≡ true → map turned_row t ≡ tenfold_table t
table-turned = map_same row_in_tenths turned_row tenfold_row row-turned

-- a pass over the rows as they are turned is one over the turned rows
turned-passed : (t : List Row) (i : ℕ) (s : Search) → fold_rows turned_at i s t ≡ fold_rows seen_at i s (map turned_row t)
turned-passed [] i s = refl
turned-passed (r ∷ t) i s = turned-passed t (suc i) (turned_at s r i)

module _ (t : List Row) where
  sound-turned : sound_search (turned_pass t) ≡ sound_table (map turned_row t)
  sound-turned = ap sound_search (turned-passed t 0 _) ∙ sound-pass (record { 0 = 0 }) (map turned_row t)

  judged-is : judged t ≡ unless (sound_in_tenths t) (Err UnsoundRing) (Ok tt)
  unfolding sound_in_tenths
  judged-is =
      by-test (every row_in_tenths t)
      (λ e. rw (e, sound-turned, table-turned t e))
      (λ e. rw e)

  -- a table that is refused stays, and any other is turned
  pub left : {r : Refusal} → Err r ≡ judged t → (t ≡ (turn_table t).table) × (Err r ≡ (turn_table t).verdict)
  unfolding turn_table
  left {r} told =
      by-test (sound_in_tenths t)
      (λ e. let both : ◌≡◌ {A = Verdict} (Err r) (Ok tt) = told ∙ judged-is ∙ rw e in cc)
      (λ e. rw e (refl, told ∙ judged-is ∙ rw e))

  pub turned : Ok tt ≡ judged t → (map turned_row t ≡ (turn_table t).table) × (Ok tt ≡ (turn_table t).verdict)
  unfolding turn_table sound_in_tenths
  turned told =
      by-test (sound_in_tenths t)
      (λ e.
      let all = (and-eq-true_iff (every row_in_tenths t) (sound_table (tenfold_table t))).0 e in
      rw e (table-turned t all.0, refl))
      (λ e. let both : ◌≡◌ {A = Verdict} (Ok tt) (Err UnsoundRing) = told ∙ judged-is ∙ rw e in cc)
