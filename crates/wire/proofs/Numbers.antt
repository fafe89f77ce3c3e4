-- Laws of numbers as bytes, over the count of bytes: what `little` writes `number` reads, and the other way; a number is read part by
-- part, and is written as the library writes it. Two's complement likewise.
use Prim.Native.Nat.{ℕ, zero, suc, ◌+◌, ◌-◌, ◌*◌, ◌/◌, ◌%◌, ◌^◌, ◌<◌, ◌≤◌}
use mathlib.Core.Path.{◌≡◌, refl, sym, ap}
use mathlib.Core.Bool.{Bool, true, false, cond}
use mathlib.Core.List.{List, [], ◌∷◌, ◌++◌}
use native.Mathlib.Nat.{mul_assoc, pow-suc, pow-succ', div-div-eq-div-mul, div-one, div-lt_iff_lt-mul}
use native.Mathlib.Omega.{arith}
use lib.Dec.{ltb, lit<}
use lib.IntN.{ℤ, pos, negsuc}
use lib.Signed.{mag}
use lib.ListN.{length, get_or, drop, length-drop}
use lib.Seq.{take-add, drop-drop, drop-cons, length-take-le}
use borrow.Author.Tests.{lt-ltb, le-ltb}
use Rattle.std.specs.Int.{bytes_low_first}
use Rattle.wire.specs.Bytes.{little, number, part, number_at, twos, signed, Bytes, Ends}

-- what was written is read
pub number-little : (n x : ℕ) → x < 256 ^ n → number (little n x) ≡ x
unfolding little number
number-little zero x h = omega arith
number-little (suc n) x h =
    let high : x / 256 < 256 ^ n = (div-lt_iff_lt-mul (lit< tt)).1 (rw pow-suc at h) in
    rw (number-little n (x / 256) high) (omega arith)

-- what was read is written
pub little-number : (bs : List ℕ) → Bytes bs → little (length bs) (number bs) ≡ bs
unfolding little number
little-number [] h = refl
little-number (b ∷ bs) h =
    let fits : b < 256 = h 0 in
    let low_byte : (b + 256 * number bs) % 256 ≡ b = omega arith in
    let rest : (b + 256 * number bs) / 256 ≡ number bs = omega arith in
    rw (low_byte, rest) (ap (λ (l : List ℕ). b ∷ l) (little-number bs (λ i. h (suc i))))

-- n bytes stand for a number below 256 ^ n
pub number_bound : (bs : List ℕ) → Bytes bs → number bs < 256 ^ length bs
unfolding number
number_bound [] h = lit< tt
number_bound (b ∷ bs) h = rw pow-succ' (omega (arith, h 0, number_bound bs (λ i. h (suc i))))

pub number_append : (xs ys : List ℕ) → number (xs ++ ys) ≡ number xs + 256 ^ length xs * number ys
unfolding number
number_append [] ys = omega arith
number_append (x ∷ xs) ys =
    rw (number_append xs ys, pow-succ', mul_assoc) (omega arith)

-- one byte is the number that it stands for
pub number-one : (at : ℕ) (bytes : List ℕ) → at < length bytes → number_at at 1 bytes ≡ get_or bytes at 0
unfolding number
number-one at bytes h = rw (drop-cons bytes at 0 h) (omega arith)

pub part_length : (at n : ℕ) (bytes : List ℕ) → at + n ≤ length bytes → length (part at n bytes) ≡ n
part_length at n bytes h = length-take-le n (drop at bytes) (rw length-drop (omega arith))

-- a number is its low m bytes and n more
pub number-parts : (m n at : ℕ) (bytes : List ℕ) → at + m ≤ length bytes
    → number_at at (m + n) bytes ≡ number_at at m bytes + 256 ^ m * number_at (at + m) n bytes
number-parts m n at bytes h = rw (take-add, number_append, part_length at m bytes h, drop-drop)

-- a number is its first byte and those from the next place on
pub number-from : (n at next : ℕ) (bytes : List ℕ) → at < length bytes → at + 1 ≡ next
    → number_at at (1 + n) bytes ≡ get_or bytes at 0 + 256 * number_at next n bytes
number-from n at next bytes h e = rw (number-parts 1 n at bytes (omega arith), number-one at bytes h, e)

-- what the library writes low byte first
low-bytes : (n i x : ℕ) → little n (x / 256 ^ i) ≡ bytes_low_first i n x
unfolding little
low-bytes zero i x = refl
low-bytes (suc n) zero x = rw div-one (ap (λ (l : List ℕ). x % 256 ∷ l) (low-bytes n 1 x))
low-bytes (suc n) (suc i) x =
    ap (λ (l : List ℕ). x / 256 ^ suc i % 256 ∷ l) (rw (div-div-eq-div-mul, ← (pow-suc 256 (suc i))) (low-bytes n (suc (suc i)) x))

pub little-bytes_low : (n x : ℕ) → bytes_low_first 0 n x ≡ little n x
little-bytes_low n x = sym (rw div-one at (low-bytes n 0 x))

-- two's complement, there and back
pub signed-twos : (z : ℤ) → mag z < 32768 → signed (twos z) ≡ z
unfolding signed twos
signed-twos (pos n) h = rw (lt-ltb n 32768 h)
signed-twos (negsuc n) h =
    let high : ltb (65536 - (n + 1)) 32768 ≡ false = le-ltb (65536 - (n + 1)) 32768 (omega arith) in
    rw high (ap negsuc (omega arith))

pub twos-signed : (n : ℕ) → n < 65536 → twos (signed n) ≡ n
unfolding signed twos
twos-signed n h = by-half (ltb n 32768) where
  by-half : (b : Bool) → twos (cond b (pos n) (negsuc (65535 - n))) ≡ n
  by-half true = refl
  by-half false = omega arith

pub ends : Ends
unfolding little twos
ends = (refl, refl, refl)
