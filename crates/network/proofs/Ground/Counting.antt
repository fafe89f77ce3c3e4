-- Ground. Laws of sums and counts. `sum-but` is the one that steps use: two tables that agree but at one place have sums that
-- differ by what stands there. Everything is stated with `+`, never with `-`.
use Prim.Native.Nat.{ℕ, zero, suc, ◌+◌, ◌*◌, ◌≤◌, ◌<◌}
use mathlib.Core.Path.{◌≡◌, refl, sym, ap, ◌∙◌}
use mathlib.Core.Logic.{◌≢◌}
use mathlib.Core.Bool.{Bool, true, false}
use mathlib.Core.List.{List, [], ◌∷◌, ◌++◌}
use native.Mathlib.Nat.{not-suc-le-zero, zero-add}
use native.Mathlib.Omega.{arith}
use lib.Dec.{eqb}
use lib.ListN.{length, length-append}
use borrow.Author.Tests.{eq-eqb, ne_eqb}
use Rattle.network.specs.Counting.{one, sum, weigh, count, occupied}
use Rattle.network.proofs.Ground.Splits.{by-same, by_less}

-- sums below a bound

pub sum_same : (n : ℕ) (f g : ℕ → ℕ) → ((p : ℕ) → p < n → f p ≡ g p) → sum n f ≡ sum n g
unfolding sum
sum_same zero f g h = refl
sum_same (suc n) f g h =
    let rest : sum n f ≡ sum n g = sum_same n f g (λ p l. h p (omega arith)) in
    rw (rest, h n (omega arith))

pub sum-but : (n p : ℕ) (f g : ℕ → ℕ) → p < n → ((q : ℕ) → q < n → q ≢ p → f q ≡ g q) → sum n f + g p ≡ sum n g + f p
unfolding sum
sum-but zero p f g l h = absurd (not-suc-le-zero l)
sum-but (suc n) p f g l h =
    by-same n p
    (λ e.
    let rest : sum n f ≡ sum n g = sum_same n f g (λ q m. h q (omega arith) (omega arith)) in
    rw (← e) (omega arith))
    (λ d.
    let rest : sum n f + g p ≡ sum n g + f p = sum-but n p f g (omega arith) (λ q m. h q (omega arith)) in
    let last : f n ≡ g n = h n (omega arith) d in
    omega arith)

pub sum-le : (n : ℕ) (f g : ℕ → ℕ) → ((p : ℕ) → p < n → f p ≤ g p) → sum n f ≤ sum n g
unfolding sum
sum-le zero f g h = omega arith
sum-le (suc n) f g h = omega (arith, sum-le n f g (λ p l. h p (omega arith)), h n (omega arith))

pub sum-add : (n : ℕ) (f g : ℕ → ℕ) → sum n (λ p. f p + g p) ≡ sum n f + sum n g
unfolding sum
sum-add zero f g = refl
sum-add (suc n) f g = omega (arith, sum-add n f g)

pub sum-none : (n : ℕ) → sum n (λ p. 0) ≡ 0
unfolding sum
sum-none zero = refl
sum-none (suc n) = omega (arith, sum-none n)

-- one term is at most the sum
pub sum-term : (n p : ℕ) (f : ℕ → ℕ) → p < n → f p ≤ sum n f
unfolding sum
sum-term zero p f l = absurd (not-suc-le-zero l)
sum-term (suc n) p f l =
    by-same p n (λ e. rw e (omega arith)) (λ d. omega (arith, sum-term n p f (omega arith)))

-- the order of summing does not matter
pub sum-swap : (n m : ℕ) (f : ℕ → ℕ → ℕ) → sum n (λ p. sum m (f p)) ≡ sum m (λ k. sum n (λ p. f p k))
unfolding sum
sum-swap zero m f = sym (sum-none m)
sum-swap (suc n) m f = ap (λ x. x + sum m (f n)) (sum-swap n m f) ∙ sym (sum-add m (λ k. sum n (λ p. f p k)) (f n))

-- sums over lists

pub weigh-append : (f : ℕ → ℕ) (xs ys : List ℕ) → weigh f (xs ++ ys) ≡ weigh f xs + weigh f ys
unfolding weigh
weigh-append f [] ys = sym (zero-add _)
weigh-append f (x ∷ xs) ys = omega (arith, weigh-append f xs ys)

pub weigh-cons : (f : ℕ → ℕ) (x : ℕ) (xs : List ℕ) → weigh f (x ∷ xs) ≡ f x + weigh f xs
unfolding weigh
weigh-cons f x xs = refl

pub weigh-snoc : (f : ℕ → ℕ) (xs : List ℕ) (y : ℕ) → weigh f (xs ++ (y ∷ [])) ≡ weigh f xs + f y
unfolding weigh
weigh-snoc f xs y = omega (arith, weigh-append f xs (y ∷ []))

pub weigh-none : (f : ℕ → ℕ) → weigh f [] ≡ 0
unfolding weigh
weigh-none f = refl

-- counts

pub count_same : (k : ℕ) → one (eqb k k) ≡ 1
count_same k = rw (eq-eqb k k refl)

pub count-other : (j k : ℕ) → j ≢ k → one (eqb j k) ≡ 0
count-other j k d = rw (ne_eqb j k d)

-- a list whose elements are all below c is as long as its counts add up to
pub length-counts : (c : ℕ) (xs : List ℕ) → ((k : ℕ) → 0 < count k xs → k < c) → length xs ≡ sum c (λ k. count k xs)
unfolding weigh
length-counts c [] h = sym (sum-none c)
length-counts c (x ∷ xs) h =
    let first : x < c = h x (omega (arith, count_same x)) in
    let rest : length xs ≡ sum c (λ k. count k xs) = length-counts c xs (λ k l. h k (omega arith)) in
    let spread : sum c (λ k. one (eqb x k) + count k xs) ≡ sum c (λ k. one (eqb x k)) + sum c (λ k. count k xs) =
    sum-add c (λ k. one (eqb x k)) (λ k. count k xs) in
    let alone : sum c (λ k. one (eqb x k)) + 0 ≡ sum c (λ k. 0) + one (eqb x x) =
    sum-but c x (λ k. one (eqb x k)) (λ k. 0) first (λ q l d. count-other x q (λ e. d (sym e))) in
    omega (arith, sum-none c, count_same x)

pub sum-times : (n a : ℕ) (f : ℕ → ℕ) → sum n (λ p. a * f p) ≡ a * sum n f
unfolding sum
sum-times zero a f = omega arith
sum-times (suc n) a f = omega (arith, sum-times n a f)

pub sum_ones : (n : ℕ) → sum n (λ p. 1) ≡ n
unfolding sum
sum_ones zero = refl
sum_ones (suc n) = omega (arith, sum_ones n)

-- a sum that is not 0 has a term that is not 0
pub sum-some : (n : ℕ) (f : ℕ → ℕ) → 1 ≤ sum n f → (p : ℕ) × (p < n) × (1 ≤ f p)
unfolding sum
sum-some zero f l = absurd (omega arith)
sum-some (suc n) f l =
    by_less 0 (f n)
    (λ here. (n, omega arith, here))
    (λ nought. let found = sum-some n f (omega arith) in (found.0, omega arith, found.2))

-- a list with something in it is not empty
pub occupied-split : (xs : List ℕ) (k : ℕ) (ys : List ℕ) → occupied (xs ++ (k ∷ ys)) ≡ true
occupied-split [] k ys = refl
occupied-split (x ∷ xs) k ys = refl

pub length-snoc : (xs : List ℕ) (k : ℕ) → length (xs ++ (k ∷ [])) ≡ suc (length xs)
length-snoc xs k = omega (arith, length-append xs (k ∷ []))

pub one-most : (b : Bool) → one b ≤ 1
one-most true = omega arith
one-most false = omega arith

-- a sum over more, where the rest is nothing
pub sum-beyond : (m n : ℕ) (f : ℕ → ℕ) → n ≤ m → ((p : ℕ) → n ≤ p → p < m → f p ≡ 0) → sum m f ≡ sum n f
unfolding sum
sum-beyond zero n f l none = let e : n ≡ 0 = omega arith in rw e
sum-beyond (suc m) n f l none =
    by-same n (suc m) (λ e. rw e)
    (λ d. omega (arith, sum-beyond m n f (omega arith) (λ p a b. none p a (omega arith)), none m (omega arith) (omega arith)))
