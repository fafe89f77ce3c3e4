-- A row's cells when a reading joins: the first cell after the readings copied is written.
use mathlib.Core.Path.{◌≡◌, refl, sym, ap, ◌∙◌}
use mathlib.Core.List.{List, [], ◌∷◌, ◌++◌}
use Prim.Native.Nat.{ℕ, suc, ◌+◌, ◌-◌, ◌<◌}
use native.Mathlib.Omega.{arith}
use lib.IntN.{ℤ, pos}
use lib.ListN.{length, drop, set, replicate, length-append}
use lib.Seq.{set_at, append_snoc}
use Rattle.std.proofs.lemmas.List.{drop-replicate}
use Rattle.batch.specs.declared.BatchNo.{BatchNo}
use Rattle.history.specs.declared.Row.{Row}
use Rattle.history.specs.Table.{reading_limit, row_with}

-- cells that begin with xs and have zeros after them
abbrev pub cells_with : List ℤ → ℕ → List ℤ
cells_with xs n = xs ++ replicate (reading_limit - n) (pos 0)

pub one_more : (xs : List ℤ) (n : ℕ) (x : ℤ) → length xs ≡ n → n < reading_limit → set (cells_with xs n) n x ≡ cells_with (xs ++ x ∷ []) (n + 1)
one_more xs n x len room =
    let e : reading_limit - n ≡ suc (reading_limit - (n + 1)) = omega arith in
    rw e (set_at xs (pos 0) _ x n len ∙ sym (append_snoc xs x _))

pub length-joined : (xs : List ℤ) (n : ℕ) (x : ℤ) → length xs ≡ n → length (xs ++ x ∷ []) ≡ n + 1
length-joined xs n x len = length-append xs (x ∷ []) ∙ ap (λ (k : ℕ). k + 1) len

-- the row whose cell after the readings copied is written
pub row-joined : (b : BatchNo) (xs : List ℤ) (x : ℤ) {copied : List ℤ} → copied ≡ xs → length xs < reading_limit →
    ◌≡◌ {A = Row}
    (record { batch = b; count = length xs + 1; readings = set (copied ++ drop (length xs) (replicate reading_limit (pos 0))) (length xs) x })
    (row_with b.0 (xs ++ x ∷ []))
row-joined b xs x same room =
    rw (same, drop-replicate (length xs) reading_limit (pos 0), length-joined xs (length xs) x refl)
    (ap (λ (ys : List ℤ). record { batch = b; count = length xs + 1; readings = ys }) (one_more xs (length xs) x refl room))
