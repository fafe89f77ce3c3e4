-- Numbers as bytes, low byte first; signed numbers as 16 bits in two's complement; and bytes put into a buffer.
use Rattle.std.specs.Prelude.{ℕ, zero, suc, ◌+◌, ◌-◌, ◌*◌, ◌/◌, ◌%◌, ◌<◌, ◌≡◌, cond, List, [], ◌∷◌, ◌++◌, ltb, ℤ, pos, negsuc, length, get_or, take, drop}

-- the n lowest bytes of a number, low byte first
unfoldable pub little : ℕ → ℕ → List ℕ
little zero x = []
little (suc n) x = x % 256 ∷ little n (x / 256)

-- the number that bytes stand for, low byte first
unfoldable pub number : List ℕ → ℕ
number [] = 0
number (b ∷ bs) = b + 256 * number bs

-- n bytes from a place on, and the number they stand for
abbrev pub part : ℕ → ℕ → List ℕ → List ℕ
part at n bytes = take n (drop at bytes)

abbrev pub number_at : ℕ → ℕ → List ℕ → ℕ
number_at at n bytes = number (part at n bytes)

-- two's complement in 16 bits: a number below 0 has 65,536 added. (`negsuc n` is -(n + 1).)
unfoldable pub twos : ℤ → ℕ
twos (pos n) = n
twos (negsuc n) = 65536 - (n + 1)

-- the number that 16 bits stand for in two's complement
unfoldable pub signed : ℕ → ℤ
signed n = cond (ltb n 32768) (pos n) (negsuc (65535 - n))

-- the buffer with new bytes from a place on, all else as it was
unfoldable pub overwritten : List ℕ → ℕ → List ℕ → List ℕ
overwritten buffer place new = take place buffer ++ new ++ drop (place + length new) buffer

-- each element is a byte, as in every slice of them
abbrev pub Bytes : List ℕ → Type 0
Bytes bytes = (i : ℕ) → get_or bytes i 0 < 256

-- the ends of two's complement: -1, the least number and the greatest
abbrev pub Ends : Type 0
Ends =
    (little 2 (twos (negsuc 0)) ≡ 0xFF ∷ 0xFF ∷ [])
    × (little 2 (twos (negsuc 32767)) ≡ 0x00 ∷ 0x80 ∷ [])
    × (little 2 (twos (pos 32767)) ≡ 0xFF ∷ 0x7F ∷ [])
