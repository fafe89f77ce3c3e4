-- Laws of `decimal`: one digit, or the digits of n / 10 and then the last one. The statements of specs/ about it follow by induction over
-- that; that the library prints the same, from the library's laws of a printed number.
use Prim.Native.Nat.{ℕ, zero, suc, ◌+◌, ◌-◌, ◌*◌, ◌/◌, ◌%◌, ◌^◌, ◌≤◌, ◌<◌}
use mathlib.Core.Path.{◌≡◌, refl}
use mathlib.Core.Logic.{◌≢◌}
use mathlib.Core.List.{List, [], ◌∷◌, ◌++◌}
use native.Mathlib.Omega.{arith}
use lib.IntN.{ℤ, pos, negsuc}
use lib.Signed.{mag}
use lib.ListN.{length, get_or, length-append, get_or-append}
use lib.Seq.{get_or_at}
use borrow.Author.Tests.{lt-ltb, le-ltb}
use Rattle.std.specs.Fmt as fmt
use Rattle.std.proofs.lemmas.Fmt.{AppendsLastDigit, decimal_from_appends, length-decimal-le_succ}
use Rattle.numbers.proofs.Splits.{by_less}
use Rattle.text.specs.Digits.{digit, digits, decimal, signed, read_on, ReadsBack, OnlyDigits, NoLeadingZero, AsPrinted}

-- enough fuel is enough
same_digits : (f g n : ℕ) → n < f → n < g → digits f n ≡ digits g n
unfolding digits
same_digits zero g n h k = let no : ⊥ = omega arith in absurd no
same_digits (suc f) zero n h k = let no : ⊥ = omega arith in absurd no
same_digits (suc f) (suc g) n h k =
    by_less n 10 (λ l. rw (lt-ltb n 10 l)) λ l. rw (le-ltb n 10 l, same_digits f g (n / 10) (omega arith) (omega arith))

pub decimal-one : (n : ℕ) → n < 10 → decimal n ≡ digit n ∷ []
unfolding decimal digits
decimal-one n h = rw (lt-ltb n 10 h)

pub decimal-more : (n : ℕ) → 10 ≤ n → decimal n ≡ decimal (n / 10) ++ digit (n % 10) ∷ []
unfolding decimal digits
decimal-more n h = rw (le-ltb n 10 h, same_digits n (suc (n / 10)) (n / 10) (omega arith) (omega arith))

-- induction over the digits of a number
module _ (P : ℕ → Type 0) (one : (n : ℕ) → n < 10 → P n) (more : (n : ℕ) → 10 ≤ n → P (n / 10) → P n) where
  below : (f n : ℕ) → n < f → P n
  below zero n h = let no : ⊥ = omega arith in absurd no
  below (suc f) n h = by_less n 10 (one n) λ l. more n l (below f (n / 10) (omega arith))

  by_digits : (n : ℕ) → P n
  by_digits n = below (suc n) n (omega arith)

read-last : (n : ℕ) (bytes : List ℕ) (d : ℕ) → read_on n (bytes ++ digit d ∷ []) ≡ 10 * read_on n bytes + d
read-last n [] d = omega arith
read-last n (b ∷ bytes) d = read-last (10 * n + (b - 0x30)) bytes d

pub reads-back : ReadsBack
reads-back =
    by_digits (λ n. read_on 0 (decimal n) ≡ n) (λ n h. rw (decimal-one n h) (omega arith))
    λ n h p. rw (decimal-more n h, read-last 0 (decimal (n / 10)) (n % 10), p) (omega arith)

pub length_more : (n : ℕ) → 10 ≤ n → length (decimal n) ≡ length (decimal (n / 10)) + 1
length_more n h = rw (decimal-more n h) (length-append (decimal (n / 10)) _)

some-digit : (n : ℕ) → 0 < length (decimal n)
some-digit n = by_less n 10 (λ h. rw (decimal-one n h) (omega arith)) λ h. omega (arith, length_more n h)

abbrev Digit : ℕ → Type 0
Digit b = (0x30 ≤ b) × (b ≤ 0x39)

-- a digit after digits
digit-last : (bytes : List ℕ) (d i : ℕ) → d < 10 → ((j : ℕ) → j < length bytes → Digit (get_or bytes j 0))
    → i < length (bytes ++ digit d ∷ []) → Digit (get_or (bytes ++ digit d ∷ []) i 0)
digit-last bytes d i h p l =
    by_less i (length bytes) (λ k. rw (get_or-append bytes (digit d ∷ []) 0 i k) (p i k))
    λ k. rw (get_or_at bytes (digit d) [] 0 i (omega (arith, length-append bytes (digit d ∷ [])))) (omega arith)

pub only-digits : OnlyDigits
only-digits =
    by_digits (λ n. (i : ℕ) → i < length (decimal n) → Digit (get_or (decimal n) i 0))
    (λ n h. rw (decimal-one n h) λ i l. digit-last [] n i h (λ j k. let no : ⊥ = omega arith in absurd no) l)
    λ n h p. rw (decimal-more n h) λ i l. digit-last (decimal (n / 10)) (n % 10) i (omega arith) p l

pub no-leading-zero : NoLeadingZero
no-leading-zero = (
  decimal-one 0 (omega arith),
  by_digits (λ n. n ≢ 0 → get_or (decimal n) 0 0 ≢ 0x30) (λ n h. rw (decimal-one n h) λ k e. k (omega arith))
      λ n h p. rw (decimal-more n h, get_or-append (decimal (n / 10)) _ 0 0 (some-digit (n / 10))) λ k. p (omega arith),
)

-- each step of `digits` is the library's
appends : AppendsLastDigit digits
unfolding digits
appends = record { one = λ k n h. rw (lt-ltb n 10 h) refl; more = λ k n h. rw (le-ltb n 10 h) refl }

pub decimal_printed : (n : ℕ) → n < 2 ^ 64 → decimal n ≡ fmt.decimal n
unfolding decimal
decimal_printed n h = decimal_from_appends digits appends (suc n) n h (omega (arith, length-decimal-le_succ n h))

pub signed_printed : (z : ℤ) → mag z < 2 ^ 63 → signed z ≡ fmt.signed_decimal z
unfolding signed
signed_printed (pos n) h = decimal_printed n (omega arith)
signed_printed (negsuc n) h = rw (decimal_printed (suc n) (omega arith)) refl

pub as-printed : AsPrinted
as-printed = (decimal_printed, signed_printed)
