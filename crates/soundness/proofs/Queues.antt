-- A queue and its row of cells: read off a row whose cells are used, it is laid out again as that row, and a queue that is laid out in a
-- row has its cells used.
use Prim.Native.Nat.{ℕ, pred, ◌≤◌, ◌<◌}
use mathlib.Core.Path.{◌≡◌, refl, sym, ap, ◌∙◌}
use mathlib.Core.Bool.{true}
use mathlib.Core.List.{List, [], ◌∷◌}
use native.Mathlib.Omega.{arith}
use lib.ListN.{length, get_or, take, length-map, get_or-eq_default}
use lib.Seq.{length-take-le}
use Rattle.numbers.specs.declared.ChannelNo.{ChannelNo}
use Rattle.network.specs.Counting.{occupied}
use Rattle.network.specs.Network.{channel_no, times_in}
use Rattle.network.specs.Layout.{node_room, row_length, cell_room, row, padded, cells_of, queue_of}
use Rattle.network.proofs.Ground.Splits.{by_less, both_ways}
use Rattle.network.proofs.Memory.Rows.{row-length, get_d-padded, padded-front, length-cells, length-padded}
use Rattle.messages.proofs.UsedCells.{Used, below-used, RowUsed, zero_rest, row_laid}
use Rattle.messages.proofs.RowPass.{in-use-most}

-- a queue that is read off so many cells

queue-length : (used : ℕ) (cells : List ℕ) → used ≤ length cells → length (queue_of used cells) ≡ used
queue-length used cells l = length-map (take used cells) (λ cell. channel_no (pred cell)) ∙ length-take-le used cells l

pub queue-occupied : (xs : List ChannelNo) → 1 ≤ length xs → occupied xs ≡ true
queue-occupied [] l = absurd (omega arith)
queue-occupied (x ∷ xs) l = refl

-- read off row p
module _ (c : ℕ) (used cells : List ℕ) (whole : length cells ≡ cell_room) (p : ℕ) (l : p < node_room)
    (u : RowUsed c (get_or used p 0) (row row_length cells p)) where
  row-whole : length (row row_length cells p) ≡ row_length
  row-whole = row-length row_length cells p (omega arith)

  few : get_or used p 0 ≤ row_length
  few = omega (arith, in-use-most (row row_length cells p), u.in_use)

  pub queue-kept : get_or used p 0 ≡ length (queue_of (get_or used p 0) (row row_length cells p))
  queue-kept = sym (queue-length (get_or used p 0) (row row_length cells p) (omega (arith, few, row-whole)))

  pub row_kept : row row_length cells p ≡ padded row_length (cells_of (queue_of (get_or used p 0) (row row_length cells p)))
  row_kept = row_laid c (get_or used p 0) (row row_length cells p) row-whole few u.cells-used u.in_use

-- a queue that is laid out in a row
pub queue-stands : (c used : ℕ) (cells : List ℕ) (q : List ChannelNo) → used ≡ length q → length q ≤ row_length →
    ((k : ℕ) → 0 < times_in q (channel_no k) → k < c) → cells ≡ padded row_length (cells_of q) → RowUsed c used cells
queue-stands c used cells q e few below laid =
    let long = length-cells q in
    let front : take used cells ≡ cells_of q =
    ap (take used) laid ∙ padded-front row_length used (cells_of q) (omega arith) (omega arith) in
    let u : Used c (take used cells) = rw front (below-used c q below) in
    record {
      in_use =
          zero_rest c used cells (ap length laid ∙ length-padded row_length (cells_of q)) (omega arith) u
          (λ i l.
          by_less i row_length
          (λ inside.
          ap (λ ys. get_or ys i 0) laid ∙ get_d-padded row_length (cells_of q) i inside ∙ get_or-eq_default (cells_of q) 0 (omega arith))
          (λ past. get_or-eq_default cells 0 (omega (arith, ap length laid, length-padded row_length (cells_of q)))));
      cells-used = u;
    }

pub length-occupied : (xs : List ChannelNo) → occupied xs ≡ true → 1 ≤ length xs
length-occupied [] e = both_ways e refl
length-occupied (x ∷ xs) e = omega arith
