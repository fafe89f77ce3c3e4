-- What is promised of a table that is turned (TurnedTable.antt): it is sound, each figure is ten times as many, and all else is the same.
use mathlib.Core.Path.{◌≡◌, refl, sym, ap, ◌∙◌}
use mathlib.Core.Bool.{Bool, true, false, cond, false≢true, and-eq-true_iff}
use mathlib.Core.List.{List, [], ◌∷◌, map}
use Prim.Native.Nat.{ℕ, zero, suc, ◌+◌, ◌-◌, ◌*◌}
use native.Mathlib.Omega.{arith}
use lib.Dec.{ltb}
use lib.IntN.{ℤ, pos, negsuc, sub_ℕ, ◌+ℤ◌}
use lib.Signed.{lt_z}
use lib.ListN.{get_or, take, length-map, get_or-map}
use borrow.Author.Tests.{lt-ltb, le-ltb, ltb-true, ltb-false}
use Rattle.std.specs.Prelude.{Ok, is_ok}
use Rattle.batch.specs.Good.{every}
use Rattle.batch.specs.Sending.{tenfold}
use Rattle.numbers.proofs.Splits.{by-test}
use Rattle.batch.proofs.Temperatures.{below-zero}
use Rattle.history.specs.declared.Row.{Row}
use Rattle.history.specs.Table.{empty_row, sound_table, batches_in, place_of, has_row, readings_in}
use Rattle.history.specs.History.{lowest, highest, sum, Figures, figures_of, figures}
use Rattle.convert.specs.TurnedTable.{tenfold_row, tenfold_table, row_in_tenths, sound_in_tenths, turn_table, TurnedSound, tenfold_figures, FiguresTenfold, AllElseSame}

-- ---- numbers: ten times as many keep their order, and their sum is ten times as many
ltb-tenfold : (a b : ℕ) → ltb (a * 10) (b * 10) ≡ ltb a b
ltb-tenfold a b =
    by-test (ltb a b)
    (λ e. lt-ltb (a * 10) (b * 10) (omega (arith, ltb-true a b e)) ∙ sym e)
    (λ e. le-ltb (a * 10) (b * 10) (omega (arith, ltb-false a b e)) ∙ sym e)

ltb-below : (a b : ℕ) → ltb (a * 10 + 9) (b * 10 + 9) ≡ ltb a b
ltb-below a b =
    by-test (ltb a b)
    (λ e. lt-ltb (a * 10 + 9) (b * 10 + 9) (omega (arith, ltb-true a b e)) ∙ sym e)
    (λ e. le-ltb (a * 10 + 9) (b * 10 + 9) (omega (arith, ltb-false a b e)) ∙ sym e)

same-order : (x y : ℤ) → lt_z (tenfold x) (tenfold y) ≡ lt_z x y
same-order (pos a) (pos b) = ltb-tenfold a b
same-order (pos a) (negsuc b) = rw (below-zero b)
same-order (negsuc a) (pos b) = rw (below-zero a)
same-order (negsuc a) (negsuc b) = rw (below-zero a, below-zero b) (ltb-below b a)

tenfold-less : (a b : ℕ) → tenfold (sub_ℕ a b) ≡ sub_ℕ (a * 10) (b * 10)
tenfold-less a b =
    by-test (ltb a b)
    (λ e.
    let below : (b - suc a) * 10 + 9 ≡ b * 10 - suc (a * 10) = omega (arith, ltb-true a b e) in
    rw (e, ltb-tenfold a b ∙ e, below-zero (b - suc a)) (ap negsuc below))
    (λ e.
    let least : (a - b) * 10 ≡ a * 10 - b * 10 = omega (arith, ltb-false a b e) in
    rw (e, ltb-tenfold a b ∙ e) (ap pos least))

tenfold-sum : (x y : ℤ) → tenfold (x +ℤ y) ≡ tenfold x +ℤ tenfold y
tenfold-sum (pos a) (pos b) =
    let both : (a + b) * 10 ≡ a * 10 + b * 10 = omega arith in
    ap pos both
tenfold-sum (pos a) (negsuc b) =
    let ten : suc b * 10 ≡ suc (b * 10 + 9) = omega arith in
    rw (below-zero b) (tenfold-less a (suc b) ∙ ap (sub_ℕ (a * 10)) ten)
tenfold-sum (negsuc a) (pos b) =
    let ten : suc a * 10 ≡ suc (a * 10 + 9) = omega arith in
    rw (below-zero a) (tenfold-less b (suc a) ∙ ap (sub_ℕ (b * 10)) ten)
tenfold-sum (negsuc a) (negsuc b) =
    let both : suc (a + b) * 10 + 9 ≡ suc (a * 10 + 9 + (b * 10 + 9)) = omega arith in
    rw (below-zero (suc (a + b)), below-zero a, below-zero b) (ap negsuc both)

-- ---- figures
-- the one of two that a test takes
taken : (t : Bool) (x y : ℤ) → cond t (tenfold y) (tenfold x) ≡ tenfold (cond t y x)
taken t x y = by-test t (λ e. rw e) (λ e. rw e)

lowest-tenfold : (ys : List ℤ) (x : ℤ) → lowest (tenfold x) (map tenfold ys) ≡ tenfold (lowest x ys)
lowest-tenfold [] x = refl
lowest-tenfold (y ∷ ys) x =
    ap (λ t. lowest (cond t (tenfold y) (tenfold x)) (map tenfold ys)) (same-order y x)
    ∙ ap (λ z. lowest z (map tenfold ys)) (taken (lt_z y x) x y)
    ∙ lowest-tenfold ys (cond (lt_z y x) y x)

highest-tenfold : (ys : List ℤ) (x : ℤ) → highest (tenfold x) (map tenfold ys) ≡ tenfold (highest x ys)
highest-tenfold [] x = refl
highest-tenfold (y ∷ ys) x =
    ap (λ t. highest (cond t (tenfold y) (tenfold x)) (map tenfold ys)) (same-order x y)
    ∙ ap (λ z. highest z (map tenfold ys)) (taken (lt_z x y) x y)
    ∙ highest-tenfold ys (cond (lt_z x y) y x)

sum-tenfold : (ys : List ℤ) (x : ℤ) → sum (tenfold x) (map tenfold ys) ≡ tenfold (sum x ys)
sum-tenfold [] x = refl
sum-tenfold (y ∷ ys) x = ap (λ z. sum z (map tenfold ys)) (sym (tenfold-sum x y)) ∙ sum-tenfold ys (x +ℤ y)

abbrev tell : List ℤ → Figures
tell xs = Ok (figures_of xs)

figures-tenfold : (xs : List ℤ) → tell (map tenfold xs) ≡ tenfold_figures (tell xs)
figures-tenfold [] = refl
figures-tenfold (x ∷ xs) = rw (lowest-tenfold xs x, highest-tenfold xs x, sum-tenfold xs x)

-- ---- rows: batches and counts are the same, so each batch has its row where it had it
same-batches : (t : List Row) → batches_in (tenfold_table t) ≡ batches_in t
same-batches [] = refl
same-batches (r ∷ t) = ap (λ bs. r.batch.0 ∷ bs) (same-batches t)

row_at : (t : List Row) (i : ℕ) → get_or (tenfold_table t) i empty_row ≡ tenfold_row (get_or t i empty_row)
row_at t i = get_or-map tenfold_row t i empty_row

take-map : (n : ℕ) (xs : List ℤ) → take n (map tenfold xs) ≡ map tenfold (take n xs)
take-map zero xs = refl
take-map (suc n) [] = refl
take-map (suc n) (x ∷ xs) = ap (λ ys. tenfold x ∷ ys) (take-map n xs)

readings-tenfold : (b : ℕ) (t : List Row) → readings_in b (tenfold_table t) ≡ map tenfold (readings_in b t)
readings-tenfold b t =
    let place = place_of b (batches_in t) in
    let found = get_or t place empty_row in
    rw (same-batches t, row_at t place)
    (by-test (has_row b t) (λ e. rw e (take-map found.count found.readings)) (λ e. rw e))

-- ---- the promises
module _ (t : List Row) where
  done-turned : sound_in_tenths t ≡ true → (turn_table t).table ≡ tenfold_table t
  unfolding turn_table
  done-turned e = rw e

  stays : sound_in_tenths t ≡ false → (turn_table t).table ≡ t
  unfolding turn_table
  stays e = rw e

  done-sound : (turn_table t).verdict ≡ Ok tt → sound_in_tenths t ≡ true
  unfolding turn_table
  done-sound d = by-test (sound_in_tenths t) (λ e. e) (λ e. absurd (false≢true (rw e at (ap is_ok d))))

pub turned-sound : TurnedSound
unfolding sound_in_tenths
turned-sound t d =
    let sound = done-sound t d in
    ap sound_table (done-turned t sound) ∙ ((and-eq-true_iff (every row_in_tenths t) (sound_table (tenfold_table t))).0 sound).1

pub figures-turned : FiguresTenfold
unfolding figures
figures-turned t b d =
    rw (turned-sound t d)
    (ap (λ u. tell (readings_in b u)) (done-turned t (done-sound t d)) ∙ ap tell (readings-tenfold b t) ∙ figures-tenfold (readings_in b t))

pub all-else-same : AllElseSame
all-else-same t =
    by-test (sound_in_tenths t)
    (λ e. rw (done-turned t e) (record {
      as_many = length-map t tenfold_row;
      batches = λ i. ap (λ (r : Row). r.batch) (row_at t i);
      counts = λ i. ap (λ (r : Row). r.count) (row_at t i);
    }))
    (λ e. rw (stays t e) (record { as_many = refl; batches = λ i. refl; counts = λ i. refl }))
