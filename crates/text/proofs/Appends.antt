-- Laws of appending: one append and then another is both at once.
use Prim.Native.Nat.{ℕ, ◌+◌, ◌≤◌}
use mathlib.Core.Path.{◌≡◌, sym, ap, ◌∙◌}
use mathlib.Core.List.{List, [], ◌++◌, append_assoc, append-nil}
use native.Mathlib.Omega.{arith}
use lib.ListN.{length, length-append}
use Rattle.text.specs.Appends.{Appends}

infixl 30 ◌then◌
pub ◌then◌ : {s t u xs ys : List ℕ} {m n : ℕ} → Appends s t xs m → Appends t u ys n → Appends s u (xs ++ ys) (m + n)
◌then◌ {s} {xs = xs} {ys} a b =
    let size = length-append xs ys in
    record { reads = b.reads ∙ rw a.reads (append_assoc s xs ys); within = omega (arith, a.within, b.within) }

-- a bound that holds may take the place of another
pub bounded : {s t xs : List ℕ} {m n : ℕ} → length xs ≤ n → Appends s t xs m → Appends s t xs n
bounded h a = record { reads = a.reads; within = h }

pub up_to : {s t xs : List ℕ} {m n : ℕ} → m ≤ n → Appends s t xs m → Appends s t xs n
up_to h a = bounded (omega (arith, a.within)) a

pub nothing : {s : List ℕ} {n : ℕ} → Appends s s [] n
nothing {s} = record { reads = sym (append-nil s); within = omega arith }

-- what was appended to a new line is all of it
pub from_new : {s t xs : List ℕ} {n : ℕ} → s ≡ [] → Appends s t xs n → t ≡ xs
from_new {xs = xs} e a = a.reads ∙ ap (λ s. s ++ xs) e
