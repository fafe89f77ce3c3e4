-- Laws of the pass over the rows (specs/RowPass), as its loops need them: a cell, a row, several rows, all rows. What the table says after
-- the pass is in RowsMet.
use Prim.Native.Nat.{ℕ, zero, suc, pred, ◌+◌, ◌-◌, ◌≤◌, ◌<◌, min}
use mathlib.Core.Path.{◌≡◌, refl, ◌∙◌}
use mathlib.Core.Bool.{true, false}
use mathlib.Core.List.{List, ◌∷◌}
use native.Mathlib.Numerals.{add-one}
use native.Mathlib.Nat.{not-suc-le-zero}
use native.Mathlib.Omega.{arith}
use mathlib.Core.Logic.{◌≢◌}
use borrow.Author.Tests.{eq-eqb, ne_eqb}
use lib.ListN.{length, get_or, take, drop, set, length-set}
use lib.Seq.{drop-cons, drop-length}
use Rattle.std.specs.Prelude.{Option, None, Some}
use Rattle.network.proofs.Ground.Splits.{by-same, by-test, both_ways}
use Rattle.network.specs.declared.Head.{Head}
use Rattle.network.specs.declared.Ring.{Ring}
use Rattle.network.specs.Layout.{row_length, row}
use Rattle.network.proofs.Ground.Counting.{sum-le, sum_ones}
use Rattle.messages.specs.Decides.{Decides}
use Rattle.messages.specs.declared.rows.Place.{Place}
use Rattle.messages.specs.declared.rows.Place.TheVariants.{Buffer, Line}
use Rattle.messages.specs.Messages.{Table, may_stand, fresh, mark, cells_in_use, mark_row, mark_node, mark_rows, Marked}
use Rattle.messages.proofs.Decides.{restated, decides-less, decides-most, decides-on, decides-off, decides_and}

-- a cell

pub record Fresh (head : Head) (place : Place) (met : Table) (cell : ℕ) : Type 0 where
  pub used : 0 < cell
  pub known : cell ≤ head.channel_count
  pub first : get_or met (pred cell) false ≡ false
  pub right : may_stand head (pred cell) place ≡ true

pub decides-fresh : (head : Head) (place : Place) (met : Table) (cell : ℕ) → Decides (fresh head place met cell) (Fresh head place met cell)
unfolding fresh
decides-fresh head place met cell =
    restated (λ f. record { used = f.0.0.0; known = f.0.0.1; first = f.0.1; right = f.1 })
    (λ f. (((f.used, f.known), f.first), f.right))
    (decides_and (decides_and (decides_and (decides-less _ _) (decides-most _ _)) (decides-off _)) (decides-on _))

module _ (head : Head) (place : Place) (x : ℕ) (xs : List ℕ) (met : Table) where
  pub mark-fresh : Fresh head place met x → mark head place (x ∷ xs) met ≡ mark head place xs (set met (pred x) true)
  unfolding mark
  mark-fresh f = rw ((decides-fresh head place met x).passes f)

  pub mark-stale : (Fresh head place met x → ⊥) → mark head place (x ∷ xs) met ≡ None
  unfolding mark
  mark-stale stale =
      by-test (fresh head place met x) (λ e. absurd (stale ((decides-fresh head place met x).holds e))) (λ e. rw e)

-- a turn of the loop over the cells of a row: the cells to come do from the table as it is what all do from the table at first

pub record Passing (head : Head) (place : Place) (cells : List ℕ) (met₀ : Table) (i : ℕ) (met : Table) : Type 0 where
  pub within : i ≤ length cells
  pub long : length met ≡ length met₀
  pub same : mark head place cells met₀ ≡ mark head place (drop i cells) met

module _ (head : Head) (place : Place) (cells : List ℕ) (met₀ : Table) where
  module _ {i : ℕ} {met : Table} (p : Passing head place cells met₀ i met) where
    pub passing-stops : i < length cells → (Fresh head place met (get_or cells i 0) → ⊥) → mark head place cells met₀ ≡ None
    passing-stops inside stale =
        p.same ∙ rw (drop-cons cells i 0 inside) (mark-stale head place (get_or cells i 0) (drop (suc i) cells) met stale)

    pub passing-more : i < length cells → Fresh head place met (get_or cells i 0) →
        Passing head place cells met₀ (i + 1) (set met (get_or cells i 0 - 1) true)
    passing-more inside f =
        let k : get_or cells i 0 - 1 ≡ pred (get_or cells i 0) = omega arith in
        record {
          within = omega arith;
          long = length-set met (get_or cells i 0 - 1) true ∙ p.long;
          same =
              p.same
              ∙ rw (drop-cons cells i 0 inside, add-one, k) (mark-fresh head place (get_or cells i 0) (drop (suc i) cells) met f);
        }

    pub passing-end : length cells ≤ i → mark head place cells met₀ ≡ Some met
    unfolding mark
    passing-end l =
        let e : i ≡ length cells = omega (arith, p.within) in
        p.same ∙ rw (e, drop-length)

-- the two answers of a pass

pub says-passed : {left : Table} {table : Option Table} → table ≡ Some left → Marked true left table
says-passed e = record { passed = λ h. e; stopped = λ h. both_ways refl h }

pub says-stopped : {left : Table} {table : Option Table} → table ≡ None → Marked false left table
says-stopped e = record { passed = λ h. both_ways h refl; stopped = λ h. e }

-- a row

-- 1 for a cell that is not zero, else 0
abbrev pub used_at : List ℕ → ℕ → ℕ
used_at cells i = min 1 (get_or cells i 0)

pub in-use-most : (cells : List ℕ) → cells_in_use cells ≤ row_length
unfolding cells_in_use
in-use-most cells =
    omega (arith, sum-le row_length (λ i. min 1 (get_or cells i 0)) (λ i. 1) (λ i l. omega arith), sum_ones row_length)

module _ (head : Head) (place : Place) (used : ℕ) (cells : List ℕ) (met : Table) where
  pub row-right : cells_in_use cells ≡ used → mark_row head place used cells met ≡ mark head place (take used cells) met
  unfolding mark_row
  row-right e = rw (eq-eqb _ used e)

  pub row-wrong : cells_in_use cells ≢ used → mark_row head place used cells met ≡ None
  unfolding mark_row
  row-wrong d = rw (ne_eqb _ used d)

-- the rows of a node, and of several

module _ (ring : Ring) where
  abbrev pub buffer_after : ℕ → Table → Option Table
  buffer_after p = mark_row ring.head (Buffer p) (get_or ring.head.used p 0) (row row_length ring.slots p)

  abbrev pub line_after : ℕ → Table → Option Table
  line_after p = mark_row ring.head (Line p) (get_or ring.head.waiting p 0) (row row_length ring.lines p)

  pub node-stops : (p : ℕ) (met : Table) → buffer_after p met ≡ None → mark_node ring p met ≡ None
  unfolding mark_node
  node-stops p met e = rw e refl

  pub node_more : (p : ℕ) (met : Table) {before : Table} → buffer_after p met ≡ Some before → mark_node ring p met ≡ line_after p before
  unfolding mark_node
  node_more p met e = rw e refl

  module _ (met : Table) where
    pub rows_start : mark_rows ring 0 met ≡ Some met
    unfolding mark_rows
    rows_start = refl

    pub rows_more : (p : ℕ) {before : Table} {after : Option Table} → mark_rows ring p met ≡ Some before →
        mark_node ring p before ≡ after → mark_rows ring (p + 1) met ≡ after
    unfolding mark_rows
    rows_more p e f = rw (add-one p, e) f

    pub rows-stop : (n p : ℕ) → p < n → mark_rows ring (p + 1) met ≡ None → mark_rows ring n met ≡ None
    unfolding mark_rows
    rows-stop zero p l e = absurd (not-suc-le-zero l)
    rows-stop (suc n) p l e =
        by-same p n (λ same. rw (add-one, same) at e) (λ other. rw (rows-stop n p (omega arith) e) refl)

-- a table is the one that there is

pub no_table : {table : Option Table} {m : Table} → table ≡ None → table ≡ Some m → ⊥
no_table none_is some_is = let never : ◌≡◌ {A = ℕ} 0 1 = cc in omega arith

pub same-table : {table : Option Table} {a b : Table} → table ≡ Some a → table ≡ Some b → a ≡ b
same-table first second = cc

-- there is one, or none
pub by-table {ℓ} : {X : Type ℓ} (table : Option Table) → (table ≡ None → X) → ((m : Table) → table ≡ Some m → X) → X
by-table None none-is some-is = none-is refl
by-table (Some m) none-is some-is = some-is m refl
