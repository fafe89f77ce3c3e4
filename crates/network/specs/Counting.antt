-- Sums, counts and tests over the numbers below a bound and over lists: the few words that the other definitions are written in.
use Rattle.std.specs.Prelude.{ℕ, zero, suc, ◌+◌, Bool, true, false, cond, ◌&&◌, List, [], ◌∷◌, ◌++◌, eqb}

-- 1 where the test passes, else 0
abbrev pub one : Bool → ℕ
one true = 1
one false = 0

-- f 0 + f 1 + .. + f (n - 1)
unfoldable pub sum : ℕ → (ℕ → ℕ) → ℕ
sum zero f = 0
sum (suc n) f = sum n f + f n

-- the test passes at every number below n
unfoldable pub all_below : ℕ → (ℕ → Bool) → Bool
all_below zero f = true
all_below (suc n) f = all_below n f && f n

-- the list f 0, f 1, .., f (n - 1)
unfoldable pub tabulate {ℓ} : {A : Type ℓ} → ℕ → (ℕ → A) → List A
tabulate zero f = []
tabulate (suc n) f = tabulate n f ++ (f n ∷ [])

-- the sum of f over a list
unfoldable pub weigh : (ℕ → ℕ) → List ℕ → ℕ
weigh f [] = 0
weigh f (x ∷ xs) = f x + weigh f xs

-- how many times k stands in a list
abbrev pub count : ℕ → List ℕ → ℕ
count k xs = weigh (λ x. one (eqb x k)) xs

-- the list without the first element that passes the test; the others keep their order
abbrev pub without_first : {A : Type 0} → (A → Bool) → List A → List A
without_first f [] = []
without_first f (x ∷ xs) = cond (f x) xs (x ∷ without_first f xs)

-- the list n times over
abbrev pub times : {A : Type 0} → ℕ → List A → List A
times zero xs = []
times (suc n) xs = xs ++ times n xs

-- the list has an element
abbrev pub occupied : {A : Type 0} → List A → Bool
occupied [] = false
occupied (x ∷ xs) = true
