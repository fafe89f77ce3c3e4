-- Rows of cells, and cells that are zero: what is laid out where there is nothing, and the rows beyond those in use.
use Prim.Native.Nat.{ℕ, ◌+◌, ◌*◌, ◌-◌, ◌/◌, ◌%◌, ◌≤◌, ◌<◌}
use mathlib.Core.Path.{◌≡◌, refl, sym, ap, ◌∙◌}
use mathlib.Core.List.{List, []}
use mathlib.Core.Logic.{◌↔◌}
use native.Mathlib.Nat.{mul-le-mul_left, div-add-mod, mod-lt}
use native.Mathlib.Omega.{arith}
use lib.Bits.{bit_or}
use lib.Dec.{eqb}
use lib.ListN.{length, get_or, take, drop, length-take, get_or-eq_default}
use lib.Seq.{get_or-take, get_or-drop}
use Rattle.std.specs.List.{zip}
use Rattle.std.proofs.lemmas.Grind.{get_or_default_zero}
use Rattle.std.proofs.lemmas.Slice.Zip.{length-zip, get_or-zip}
use Rattle.network.specs.Layout.{row, padded}
use Rattle.network.proofs.Ground.Splits.{by_less}
use Rattle.network.proofs.Memory.Rows.{padded-is, padded-none, get_d-blanks, row-end, row-length, get_d-row}
use Rattle.messages.specs.Messages.{Blank}
use Rattle.messages.specs.Decides.{Decides}
use Rattle.messages.proofs.Decides.{or-zero, restated, decides-same}
use Rattle.messages.proofs.Loops.{Judging}

-- the part of the cells that is lent as row p
pub part-is-row : (w : ℕ) (cells : List ℕ) (p : ℕ) → take (w * p + w - w * p) (drop (w * p) cells) ≡ row w cells p
unfolding row
part-is-row w cells p =
    let long : w * p + w - w * p ≡ w = omega arith in
    ap (λ n. take n (drop (w * p) cells)) long

-- cells that are zero

pub blank-padded : (n : ℕ) (xs : List ℕ) → length xs ≡ n → Blank xs → xs ≡ padded n []
blank-padded n xs e blank = sym (padded-is n [] xs e (λ i l. sym (blank i)))

pub padded-blank : (n : ℕ) {xs : List ℕ} → xs ≡ padded n [] → Blank xs
padded-blank n e i = ap (λ ys. get_or ys i 0) (e ∙ padded-none n) ∙ get_d-blanks n i 0

part-blank : (n : ℕ) (xs : List ℕ) → Blank xs → Blank (take n xs)
part-blank n xs blank i =
    by_less i n (λ l. get_or-take n xs i 0 l ∙ blank i) (λ past. get_or-eq_default (take n xs) 0 (omega (arith, length-take n xs)))

-- the cells from s on are zero exactly when those of two parts are that leave none out, from s to m and from b to the end
module _ (cells : List ℕ) (s b m e : ℕ) (whole : length cells ≡ e) (after : s ≤ b) (no_gap : b ≤ m) where
  halves-blank : Blank (take (m - s) (drop s cells)) × Blank (take (e - b) (drop b cells)) → Blank (drop s cells)
  halves-blank blank i =
      by_less i (m - s) (λ l. sym (get_or-take (m - s) (drop s cells) i 0 l) ∙ blank.0 i) λ past.
      get_or-drop s cells i 0
      ∙ by_less (s + i) e
      (λ inside.
      let at : b + (s + i - b) ≡ s + i = omega arith in
      ap (λ k. get_or cells k 0) (sym at)
      ∙ sym (get_or-drop b cells (s + i - b) 0)
      ∙ sym (get_or-take (e - b) (drop b cells) (s + i - b) 0 (omega arith))
      ∙ blank.1 (s + i - b))
      (λ beyond. get_or-eq_default cells 0 (rw whole beyond))

  blank-halves : Blank (drop s cells) → Blank (take (m - s) (drop s cells)) × Blank (take (e - b) (drop b cells))
  blank-halves blank = (
    part-blank (m - s) (drop s cells) blank,
    part-blank (e - b) (drop b cells)
        (λ i.
        let at : s + (b - s + i) ≡ b + i = omega arith in
        get_or-drop b cells i 0 ∙ ap (λ k. get_or cells k 0) (sym at) ∙ sym (get_or-drop s cells (b - s + i) 0) ∙ blank (b - s + i)),
  )

  pub halves : (Blank (take (m - s) (drop s cells)) × Blank (take (e - b) (drop b cells))) ↔ Blank (drop s cells)
  halves = (halves-blank, blank-halves)

-- rows of w cells, m of them, and zeros from row n on

module _ (w m n : ℕ) (some : 0 < w) (cells : List ℕ) (whole : length cells ≡ w * m) where
  pub beyond-row : Blank (drop (w * n) cells) → (p : ℕ) → n ≤ p → p < m → row w cells p ≡ padded w []
  beyond-row blank p past inside =
      let long = row-length w cells p (omega (arith, row-end w m p inside)) in
      blank-padded w (row w cells p) long
      (λ i.
      by_less i w
      (λ l.
      let start : w * n + (w * p + i - w * n) ≡ w * p + i = omega (arith, mul-le-mul_left {m = n} {n = p} w past) in
      get_d-row w cells p i l
      ∙ ap (λ j. get_or cells j 0) (sym start)
      ∙ sym (get_or-drop (w * n) cells (w * p + i - w * n) 0)
      ∙ blank (w * p + i - w * n))
      (λ l. get_or-eq_default (row w cells p) 0 (omega arith)))

  pub rows-beyond : ((p : ℕ) → n ≤ p → p < m → row w cells p ≡ padded w []) → Blank (drop (w * n) cells)
  rows-beyond zeros i =
      get_or-drop (w * n) cells i 0
      ∙ by_less (w * n + i) (w * m)
      (λ inside.
      let p : ℕ = (w * n + i) / w in
      let j : ℕ = (w * n + i) % w in
      let at : w * p + j ≡ w * n + i = div-add-mod (w * n + i) w in
      let l : j < w = mod-lt (w * n + i) some in
      let past : n ≤ p = by_less p n (λ early. absurd (omega (arith, row-end w n p early))) (λ late. late) in
      let last : p < m =
      by_less p m (λ early. early) (λ late. absurd (omega (arith, mul-le-mul_left {m = m} {n = p} w late))) in
      ap (λ k. get_or cells k 0) (sym at) ∙ sym (get_d-row w cells p j l) ∙ padded-blank w (zeros p past last) j)
      (λ past. get_or-eq_default cells 0 (omega arith))

-- four lists whose cells at a place are zero
abbrev pub AllZero : List ℕ → List ℕ → List ℕ → List ℕ → ℕ → Type 0
AllZero front back other_front other_back i =
    ((get_or front i 0 ≡ 0) × (get_or back i 0 ≡ 0)) × ((get_or other_front i 0 ≡ 0) × (get_or other_back i 0 ≡ 0))

-- what was joined to the cells of a place is 0 exactly when all five are
pub four-zero : (any a b c d : ℕ) →
    (bit_or any (bit_or (bit_or (bit_or a b) c) d) ≡ 0) ↔ ((any ≡ 0) × (((a ≡ 0) × (b ≡ 0)) × ((c ≡ 0) × (d ≡ 0))))
four-zero any a b c d = (
  (λ e.
      let all = (or-zero _ _).0 e in
      let three = (or-zero _ _).0 all.1 in
      let two = (or-zero _ _).0 three.0 in
      (all.0, ((or-zero _ _).0 two.0, (two.1, three.1)))),
  (λ h. (or-zero _ _).1 (h.0, (or-zero _ _).1 ((or-zero _ _).1 ((or-zero _ _).1 h.1.0, h.1.1.0), h.1.1.1))),
)

-- the four as one list, of two pairs for each place
module _ (a b c d : List ℕ) (same : (length b ≡ length a) × (length c ≡ length a) × (length d ≡ length a)) where
  pub length-fours : length (zip (zip a b) (zip c d)) ≡ length a
  length-fours = omega (arith, length-zip (zip a b) (zip c d), length-zip a b, length-zip c d)

  pub four-at : (i : ℕ) {p q r s : ℕ} → i < length (zip (zip a b) (zip c d)) →
      ◌≡◌ {A = (ℕ × ℕ) × (ℕ × ℕ)} ((p, q), (r, s)) (get_or (zip (zip a b) (zip c d)) i ((p, q), (r, s))) →
      (i < length a) × ((p ≡ get_or a i 0) × (q ≡ get_or b i 0)) × ((r ≡ get_or c i 0) × (s ≡ get_or d i 0))
  four-at i {p} {q} {r} {s} l e =
      let front = length-zip a b in
      let back = length-zip c d in
      let inside : i < length a = omega (arith, length-fours) in
      let at : ◌≡◌ {A = (ℕ × ℕ) × (ℕ × ℕ)} ((p, q), (r, s)) ((get_or a i p, get_or b i q), (get_or c i r, get_or d i s)) =
      e
      ∙ get_or-zip (zip a b) (zip c d) i ((p, q), (r, s)) (omega arith) (omega arith)
      ∙ rw (get_or-zip a b i (p, q) (omega arith) (omega arith), get_or-zip c d i (r, s) (omega arith) (omega arith)) refl in (
        inside,
        (ap (λ x. x.0.0) at ∙ get_or_default_zero a i p inside, ap (λ x. x.0.1) at ∙ get_or_default_zero b i q (omega arith)),
        (ap (λ x. x.1.0) at ∙ get_or_default_zero c i r (omega arith), ap (λ x. x.1.1) at ∙ get_or_default_zero d i s (omega arith)),
      )

-- the four are zero exactly when they are at each place
pub all-blank : (a b c d : List ℕ) {any n i : ℕ} → (length b ≡ length a) × (length c ≡ length a) × (length d ≡ length a) →
    length a ≡ i → Judging (AllZero a b c d) n any i → Decides (eqb any 0) ((Blank a × Blank b) × (Blank c × Blank d))
all-blank a b c d {any} {n} {i} same past judged =
    let beyond : (xs : List ℕ) (j : ℕ) → length xs ≡ length a → i ≤ j → get_or xs j 0 ≡ 0 =
    λ xs j e l. get_or-eq_default xs 0 (omega arith) in
    restated
    (λ none.
    let at = judged.right none in (
      (
        λ j. by_less j i (λ l. (at j l).0.0) (beyond a j refl),
        λ j. by_less j i (λ l. (at j l).0.1) (beyond b j same.0),
      ),
      (
        λ j. by_less j i (λ l. (at j l).1.0) (beyond c j same.1),
        λ j. by_less j i (λ l. (at j l).1.1) (beyond d j same.2),
      ),
    ))
    (λ zero. judged.none (λ j l. ((zero.0.0 j, zero.0.1 j), (zero.1.0 j, zero.1.1 j)))) (decides-same any 0)
