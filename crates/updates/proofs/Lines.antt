-- A channel in a line, found by the cell that holds its number and one more: where it stands first, the line splits there, and without the
-- channel it is the two parts; where no cell holds it, it is not in the line. And what a search in a part of the cells says of the cells.
use Prim.Native.Nat.{ℕ, zero, suc, ◌+◌, ◌≤◌, ◌<◌}
use mathlib.Core.Path.{◌≡◌, refl, sym, ap, ◌∙◌}
use mathlib.Core.Logic.{◌≢◌}
use mathlib.Core.List.{List, [], ◌∷◌, ◌++◌}
use native.Mathlib.Omega.{arith}
use lib.Dec.{eqb, ltb}
use lib.ListN.{length, get_or, take, drop, length-drop}
use lib.Seq.{length-take-le, get_or-take, get_or-drop}
use borrow.Author.Tests.{eq-eqb, ne_eqb, eqb-true, ltb-false}
use Rattle.std.specs.Prelude.{Option, Some, None}
use Rattle.std.specs.List.{position, position_or_len}
use Rattle.std.proofs.lemmas.List.Quantifiers.{position-Some}
use Rattle.std.proofs.lemmas.List.Sums.{fails_before_first}
use Rattle.std.proofs.lemmas.Option.{none-some}
use Rattle.numbers.specs.declared.ChannelNo.{ChannelNo}
use Rattle.network.specs.Counting.{weigh}
use Rattle.network.specs.Network.{channel_no, times_in, without}
use Rattle.network.specs.Layout.{cells_of}
use Rattle.network.proofs.Ground.Counting.{count_same, count-other}
use Rattle.network.proofs.Ground.Splits.{by-test, both_ways}
use Rattle.updates.specs.Known.{FirstAt}

-- channel k stands in xs, behind `front`
pub record SplitAt (k : ℕ) (xs : List ChannelNo) (i : ℕ) : Type 0 where
  pub front : List ChannelNo
  pub back : List ChannelNo
  pub whole : xs ≡ front ++ (channel_no k ∷ back)
  pub place : length front ≡ i
  pub taken_out : without (channel_no k) xs ≡ front ++ back
  pub stands : 0 < times_in xs (channel_no k)

module _ (k : ℕ) where
  abbrev cell_at : List ChannelNo → ℕ → ℕ
  cell_at xs j = get_or (cells_of xs) j 0

  pub split_at : (xs : List ChannelNo) (i : ℕ) → i < length xs → ((j : ℕ) → j < i → cell_at xs j ≢ suc k) → cell_at xs i ≡ suc k →
      SplitAt k xs i
  unfolding weigh
  split_at [] i l none here = absurd (omega arith)
  split_at (x ∷ xs) zero l none here =
      let same : x.0 ≡ k = omega (arith, here) in
      record {
        front = [];
        back = xs;
        whole = ap (λ j. channel_no j ∷ xs) same;
        place = refl;
        taken_out = rw (eq-eqb x.0 k same);
        stands = rw same (omega (arith, count_same k));
      }
  split_at (x ∷ xs) (suc i) l none here =
      let other : x.0 ≢ k = λ e. none 0 (omega arith) (ap suc e) in
      let rest = split_at xs i (omega arith) (λ j m. none (suc j) (omega arith)) here in
      record {
        front = x ∷ rest.front;
        back = rest.back;
        whole = ap (λ ys. x ∷ ys) rest.whole;
        place = ap suc rest.place;
        taken_out = rw (ne_eqb x.0 k other) (ap (λ ys. x ∷ ys) rest.taken_out);
        stands = omega (arith, rest.stands);
      }

  pub none-there : (xs : List ChannelNo) → ((j : ℕ) → j < length xs → cell_at xs j ≢ suc k) → times_in xs (channel_no k) ≡ 0
  unfolding weigh
  none-there [] none = refl
  none-there (x ∷ xs) none =
      let other : x.0 ≢ k = λ e. none 0 (omega arith) (ap suc e) in
      omega (arith, count-other x.0 k other, none-there xs (λ j l. none (suc j) (omega arith)))

-- a cell searched in a part of the cells: where it was found it stands there first, and where it was not it stands nowhere in the part

module _ (cells : List ℕ) (base used cell : ℕ) (whole : base + used ≤ length cells) where
  abbrev part : List ℕ
  part = take used (drop base cells)

  abbrev searched : Option ℕ
  searched = position (λ c. eqb c cell) part

  abbrev first : ℕ
  first = position_or_len (λ c. eqb c cell) part

  part-length : length part ≡ used
  part-length = length-take-le used (drop base cells) (omega (arith, length-drop base cells))

  part-at : (j : ℕ) → j < used → get_or part j 0 ≡ get_or cells (base + j) 0
  part-at j l = get_or-take used (drop base cells) j 0 l ∙ get_or-drop base cells j 0

  pub first-found : {i : ℕ} → searched ≡ Some i → (i < used) × FirstAt cells base used cell i
  first-found {i} e =
      let at = position-Some (λ c. eqb c cell) part i 0 e in
      let inside : i < used = rw part-length at at.0 in (
        inside,
        record {
          within = omega arith;
          not-before = λ j before here. both_ways (eq-eqb _ _ (part-at j (omega arith) ∙ here)) (at.2 j before);
          there = λ l. sym (part-at i l) ∙ eqb-true _ _ at.1;
        },
      )

  pub none-found : searched ≡ None → FirstAt cells base used cell used
  none-found e =
      let past : used ≤ first = by-test (ltb first (length part))
      (λ t. absurd (none-some first (sym e ∙ rw t)))
      (λ f. omega (arith, ltb-false first (length part) f, part-length)) in
      record {
        within = omega arith;
        not-before =
            λ j before here.
            both_ways (eq-eqb _ _ (part-at j before ∙ here)) (fails_before_first (λ c. eqb c cell) part j 0 (omega (arith, past)));
        there = λ l. absurd (omega arith);
      }
