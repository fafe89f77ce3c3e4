-- Bytes stay bytes: a part of them, one list of them after another, and those that a number is written as.
-- A number that is read from a place and written again is the bytes there.
use Prim.Native.Nat.{ℕ, zero, suc, ◌+◌, ◌^◌, ◌<◌, ◌≤◌}
use mathlib.Core.Path.{◌≡◌}
use mathlib.Core.List.{List, [], ◌∷◌, ◌++◌}
use native.Mathlib.Omega.{arith}
use lib.Dec.{lit<}
use lib.ListN.{length, take, drop}
use lib.Seq.{get_or-drop}
use Rattle.wire.specs.Bytes.{little, part, number_at, Bytes}
use Rattle.wire.proofs.Numbers.{little-number, number_bound, part_length}

pub bytes_take : (n : ℕ) (xs : List ℕ) → Bytes xs → Bytes (take n xs)
bytes_take zero xs b i = lit< tt
bytes_take (suc n) [] b i = lit< tt
bytes_take (suc n) (x ∷ xs) b zero = b 0
bytes_take (suc n) (x ∷ xs) b (suc i) = bytes_take n xs (λ j. b (suc j)) i

pub bytes_drop : (n : ℕ) (xs : List ℕ) → Bytes xs → Bytes (drop n xs)
bytes_drop n xs b i = rw get_or-drop (b (n + i))

pub bytes-append : (xs ys : List ℕ) → Bytes xs → Bytes ys → Bytes (xs ++ ys)
bytes-append [] ys a b i = b i
bytes-append (x ∷ xs) ys a b zero = a 0
bytes-append (x ∷ xs) ys a b (suc i) = bytes-append xs ys (λ j. a (suc j)) b i

pub little-bytes : (n x : ℕ) → Bytes (little n x)
unfolding little
little-bytes zero x i = lit< tt
little-bytes (suc n) x zero = omega arith
little-bytes (suc n) x (suc i) = little-bytes n _ i

module _ (at n : ℕ) (bytes : List ℕ) (b : Bytes bytes) (h : at + n ≤ length bytes) where
  part_bytes : Bytes (part at n bytes)
  part_bytes = bytes_take n (drop at bytes) (bytes_drop at bytes b)

  pub part-written : little n (number_at at n bytes) ≡ part at n bytes
  part-written = rw (part_length at n bytes h) at (little-number (part at n bytes) part_bytes)

  pub part-bound : number_at at n bytes < 256 ^ n
  part-bound = rw (part_length at n bytes h) at (number_bound (part at n bytes) part_bytes)
