-- Numbers as the report prints them, in bytes of ASCII: decimal, two small hexadecimal digits, and decimal with a sign. Three statements
-- pin `decimal` down: its digits read back are the number, each is a digit, and none leads with a needless 0. A fourth says that the
-- library prints the same.
use Rattle.std.specs.Prelude.{ℕ, zero, suc, ◌+◌, ◌-◌, ◌*◌, ◌/◌, ◌%◌, ◌^◌, ◌≤◌, ◌<◌, ◌≡◌, ◌≢◌, cond, List, [], ◌∷◌, ◌++◌, ltb, ℤ, pos, negsuc, length, get_or}
use lib.Signed.{mag}
use Rattle.std.specs.Fmt as fmt

-- the byte of a decimal digit: 0 is hexadecimal 30
abbrev pub digit : ℕ → ℕ
digit d = 0x30 + d

-- the digits of n, the highest first; `fuel` is at least their number, and the recursion ends because it falls
unfoldable pub digits : ℕ → ℕ → List ℕ
digits zero n = []
digits (suc fuel) n = cond (ltb n 10) (digit n ∷ []) (digits fuel (n / 10) ++ digit (n % 10) ∷ [])

-- n in decimal: 0 is one digit, and no number n has more than n + 1
unfoldable pub decimal : ℕ → List ℕ
decimal n = digits (suc n) n

-- a digit below 16: 0 to 9, then small a to f (a is hexadecimal 61)
abbrev pub hex_digit : ℕ → ℕ
hex_digit d = cond (ltb d 10) (0x30 + d) (0x61 + (d - 10))

-- a byte in two hexadecimal digits
unfoldable pub hex2 : ℕ → List ℕ
hex2 b = hex_digit (b / 16) ∷ hex_digit (b % 16) ∷ []

-- decimal, with a minus (hexadecimal 2D) before a number below 0; `negsuc n` is -(n + 1)
unfoldable pub signed : ℤ → List ℕ
signed (pos n) = decimal n
signed (negsuc n) = 0x2D ∷ decimal (suc n)

-- the number that decimal digits stand for, read from the left after `n`
abbrev pub read_on : ℕ → List ℕ → ℕ
read_on n [] = n
read_on n (b ∷ bytes) = read_on (10 * n + (b - 0x30)) bytes

abbrev pub ReadsBack : Type 0
ReadsBack = (n : ℕ) → read_on 0 (decimal n) ≡ n

-- each byte is a digit
abbrev pub OnlyDigits : Type 0
OnlyDigits = (n i : ℕ) → i < length (decimal n) → (0x30 ≤ get_or (decimal n) i 0) × (get_or (decimal n) i 0 ≤ 0x39)

-- 0 is one digit, and any other number begins with a digit that is not 0
abbrev pub NoLeadingZero : Type 0
NoLeadingZero = (decimal 0 ≡ 0x30 ∷ []) × ((n : ℕ) → n ≢ 0 → get_or (decimal n) 0 0 ≢ 0x30)

-- what the library prints for `{}` of a number of 64 bits, without a sign and with one
abbrev pub AsPrinted : Type 0
AsPrinted =
    ((n : ℕ) → n < 2 ^ 64 → decimal n ≡ fmt.decimal n) × ((z : ℤ) → mag z < 2 ^ 63 → signed z ≡ fmt.signed_decimal z)
