-- The three figures of readings, found one reading after another; and how large a sum can be.
use mathlib.Core.Path.{◌≡◌, ap}
use mathlib.Core.Bool.{cond}
use mathlib.Core.List.{List}
use Prim.Native.Nat.{ℕ, suc, ◌+◌, ◌<◌, ◌≤◌}
use native.Mathlib.Numerals.{add-one}
use native.Mathlib.Omega.{arith}
use lib.Dec.{ltb}
use lib.IntN.{ℤ, pos, negsuc, sub_ℕ, ◌+ℤ◌}
use lib.ListN.{length, get_or, drop}
use lib.Signed.{mag, lt_z}
use lib.Seq.{drop-cons}
use Rattle.numbers.proofs.Splits.{by-test}
use Rattle.std.specs.Prelude.{Option, Some}
use Rattle.history.specs.declared.Summary.{Summary}
use Rattle.history.specs.History.{lowest, highest, sum}

-- the figures of readings of which some were found, and xs are to come
abbrev pub told_from : (l h s : ℤ) → List ℤ → Option Summary
told_from l h s xs = Some (record { lowest = lowest l xs; highest = highest h xs; sum = sum s xs })

pub told_more : (xs : List ℤ) (l h s : ℤ) (i : ℕ) → i < length xs →
    told_from l h s (drop i xs)
    ≡ (let x = get_or xs i (pos 0) in told_from (cond (lt_z x l) x l) (cond (lt_z h x) x h) (s +ℤ x) (drop (i + 1) xs))
told_more xs l h s i inside = rw (add-one i) (ap (told_from l h s) (drop-cons xs i (pos 0) inside))

-- ---- the size of a sum
mag-sub : (a b : ℕ) → mag (sub_ℕ a b) ≤ a + b
mag-sub a b = by-test (ltb a b) (λ e. rw e (omega arith)) (λ e. rw e (omega arith))

pub mag-add : (x y : ℤ) → mag (x +ℤ y) ≤ mag x + mag y + 1
mag-add (pos a) (pos b) = omega arith
mag-add (pos a) (negsuc b) = omega (arith, mag-sub a (suc b))
mag-add (negsuc a) (pos b) = omega (arith, mag-sub b (suc a))
mag-add (negsuc a) (negsuc b) = omega arith
