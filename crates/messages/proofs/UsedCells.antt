-- The cells of a row that are used: each holds the number of a channel in use, counted from 1. Where as many cells are not zero as are
-- used, the others are zero, and the row is its queue laid out.
use Prim.Native.Nat.{ℕ, zero, suc, pred, ◌+◌, ◌≤◌, ◌<◌, min}
use mathlib.Core.Path.{◌≡◌, refl, sym, ap, ◌∙◌}
use mathlib.Core.List.{List, [], ◌∷◌, map}
use native.Mathlib.Nat.{not-suc-le-zero}
use native.Mathlib.Omega.{arith}
use lib.ListN.{length, get_or, take, get_or-eq_default}
use lib.Seq.{get_or-take, length-take-le}
use Rattle.numbers.specs.declared.ChannelNo.{ChannelNo}
use Rattle.network.specs.Counting.{sum, weigh}
use Rattle.network.specs.Network.{channel_no, times_in}
use Rattle.network.specs.Layout.{row_length, padded, cells_of, queue_of}
use Rattle.network.proofs.Ground.Splits.{by-same, by_less}
use Rattle.network.proofs.Ground.Counting.{count_same, count-other, sum_same, sum_ones, sum-beyond}
use Rattle.network.proofs.Memory.Rows.{padded-is}
use Rattle.messages.specs.Messages.{cells_in_use}

-- used cells, each with a channel in use

abbrev pub Used : ℕ → List ℕ → Type 0
Used c [] = Unit {0}
Used c (x ∷ xs) = (0 < x) × (x ≤ c) × Used c xs

-- read as channels, and laid out again
abbrev pub channels_in : List ℕ → List ChannelNo
channels_in cells = map (λ cell. channel_no (pred cell)) cells

pub used-back : (c : ℕ) (xs : List ℕ) → Used c xs → cells_of (channels_in xs) ≡ xs
used-back c [] u = refl
used-back c (x ∷ xs) u = let same : suc (pred x) ≡ x = omega (arith, u.0) in rw (same, used-back c xs u.2)

used-below : (c : ℕ) (xs : List ℕ) → Used c xs → (k : ℕ) → 0 < times_in (channels_in xs) (channel_no k) → k < c
unfolding weigh
used-below c [] u k l = absurd (not-suc-le-zero l)
used-below c (x ∷ xs) u k l =
    by-same (pred x) k (λ same. omega (arith, u.0, u.1))
    (λ other. used-below c xs u.2 k (omega (arith, count-other (pred x) k other)))

pub below-used : (c : ℕ) (ks : List ChannelNo) → ((k : ℕ) → 0 < times_in ks (channel_no k) → k < c) → Used c (cells_of ks)
unfolding weigh
below-used c [] below = tt
below-used c (k ∷ ks) below =
    (omega arith, below k.0 (omega (arith, count_same k.0)), below-used c ks (λ j l. below j (omega arith)))

used-one : (c : ℕ) (xs : List ℕ) → Used c xs → (i : ℕ) → i < length xs → min 1 (get_or xs i 0) ≡ 1
used-one c [] u i l = absurd (not-suc-le-zero l)
used-one c (x ∷ xs) u zero l = omega (arith, u.0)
used-one c (x ∷ xs) u (suc i) l = used-one c xs u.2 i (omega arith)

-- a first part of a sum, and one term beyond it, are at most the whole

sum-most : (m n : ℕ) (f : ℕ → ℕ) → n ≤ m → sum n f ≤ sum m f
unfolding sum
sum-most zero n f l = let e : n ≡ 0 = omega arith in rw e (omega arith)
sum-most (suc m) n f l = by-same n (suc m) (λ e. rw e (omega arith)) (λ d. omega (arith, sum-most m n f (omega arith)))

sum-rest : (m n i : ℕ) (f : ℕ → ℕ) → n ≤ i → i < m → sum n f + f i ≤ sum m f
unfolding sum
sum-rest m n i f l inside = omega (arith, sum-most i n f l, sum-most m (suc i) f inside)

-- a row: its first cells are used, and as many as are not zero, so the others are zero

module _ (c used : ℕ) (cells : List ℕ) (whole : length cells ≡ row_length) where
  abbrev ones : ℕ → ℕ
  ones i = min 1 (get_or cells i 0)

  module _ (few : used ≤ row_length) (u : Used c (take used cells)) where
    front : sum used ones ≡ used
    front =
        sum_same used ones (λ i. 1)
        (λ i l.
        ap (min 1) (sym (get_or-take used cells i 0 l))
        ∙ used-one c (take used cells) u i (omega (arith, length-take-le used cells (omega arith))))
        ∙ sum_ones used

    pub rest-zero : cells_in_use cells ≡ used → (i : ℕ) → used ≤ i → get_or cells i 0 ≡ 0
    unfolding cells_in_use
    rest-zero e i l =
        by_less i row_length (λ inside. omega (arith, front, sum-rest row_length used i ones l inside))
        (λ beyond. get_or-eq_default cells 0 (omega arith))

    pub zero_rest : ((i : ℕ) → used ≤ i → get_or cells i 0 ≡ 0) → cells_in_use cells ≡ used
    unfolding cells_in_use
    zero_rest blank = sum-beyond row_length used ones few (λ i l m. ap (min 1) (blank i l)) ∙ front

    pub row_laid : cells_in_use cells ≡ used → cells ≡ padded row_length (cells_of (queue_of used cells))
    row_laid e =
        rw (used-back c (take used cells) u)
        (sym (padded-is row_length (take used cells) cells whole
        (λ i l.
        by_less i used (λ inside. get_or-take used cells i 0 inside)
        (λ beyond. get_or-eq_default (take used cells) 0 (omega (arith, length-take-le used cells (omega arith)))
        ∙ sym (rest-zero e i beyond)))))

-- a row as it should be: so many cells are not zero, and they are the first
pub record RowUsed (c used : ℕ) (cells : List ℕ) : Type 0 where
  pub in_use : cells_in_use cells ≡ used
  pub cells-used : Used c (take used cells)

pub queue-below : {c used : ℕ} {cells : List ℕ} → RowUsed c used cells → (k : ℕ) → 0 < times_in (queue_of used cells) (channel_no k) → k < c
queue-below {c} {used} {cells} u k l = used-below c (take used cells) u.cells-used k l
