-- A row from which one cell is cut: the cells behind it are copied one place down, and the last is zero.
use Prim.Native.Nat.{ℕ, suc, ◌+◌, ◌-◌, ◌*◌, ◌≤◌, ◌<◌}
use mathlib.Core.Path.{◌≡◌, sym, ap, ◌∙◌}
use mathlib.Core.List.{List, ◌∷◌, ◌++◌, append_assoc}
use native.Mathlib.Omega.{arith}
use lib.ListN.{length, get_or, set, take, drop, length-drop}
use lib.Seq.{length_paste_head, set-append_seam, take-take, take-add, drop-cons, drop-drop}
use Rattle.std.specs.List.{copy_within}
use Rattle.std.proofs.lemmas.List.{drop-take}
use Rattle.network.specs.Layout.{row, row_length}
use Rattle.updates.specs.Flat.{cut_at}

module _ (cells : List ℕ) (p from : ℕ) (full : row_length * p + row_length ≤ length cells) (inside : from < row_length) where
  abbrev base : ℕ
  base = row_length * p

  -- the cells behind it, and all that stands before the last cell after the copy
  abbrev behind : List ℕ
  behind = drop (base + from + 1) cells

  abbrev count : ℕ
  count = base + row_length - (base + from + 1)

  abbrev front : List ℕ
  front = take (base + from) cells ++ take count behind

  front_length : length front ≡ base + row_length - 1
  front_length =
      length_paste_head cells (base + from) behind count (omega arith) (omega (arith, length-drop (base + from + 1) cells))
      ∙ omega arith

  last-left : drop (base + from + count) cells ≡ get_or cells (base + from + count) 0 ∷ drop (base + row_length) cells
  last-left =
      let next : suc (base + from + count) ≡ base + row_length = omega arith in
      drop-cons cells (base + from + count) 0 (omega arith)
      ∙ ap (λ i. get_or cells (base + from + count) 0 ∷ drop i cells) next

  emptied : set (copy_within cells (base + from + 1) (base + row_length) (base + from)) (base + row_length - 1) 0
      ≡ front ++ (0 ∷ drop (base + row_length) cells)
  emptied =
      ap (λ r. set (front ++ r) (base + row_length - 1) 0) last-left
      ∙ ap (λ i. set (front ++ (get_or cells (base + from + count) 0 ∷ drop (base + row_length) cells)) i 0) (sym front_length)
      ∙ set-append_seam front _ (drop (base + row_length) cells) 0

  -- the same two parts of the old row
  head_part : take (base + from) cells ≡ take base cells ++ take from (row row_length cells p)
  unfolding row
  head_part =
      take-add base from cells
      ∙ ap (λ r. take base cells ++ r) (sym (take-take from row_length (drop base cells) (omega arith)))

  tail_part : take count behind ≡ drop (from + 1) (row row_length cells p)
  unfolding row
  tail_part =
      let place : base + from + 1 ≡ base + (from + 1) = omega arith in
      let whole : from + 1 + count ≡ row_length = omega arith in
      ap (take count) (ap (λ i. drop i cells) place ∙ sym (drop-drop (from + 1) base cells))
      ∙ sym (drop-take (from + 1) count (drop base cells))
      ∙ ap (λ n. drop (from + 1) (take n (drop base cells))) whole

  pub cut-made : set (copy_within cells (base + from + 1) (base + row_length) (base + from)) (base + row_length - 1) 0 ≡ cut_at cells p from
  cut-made =
      emptied
      ∙ rw (head_part, tail_part) (simp append_assoc)
