-- Lists. The nodes on the way from an entry to a target are those no further from the target than the entry is: each node that the way
-- leaves is a hop further than the next, and no two nodes are equally far.
use Prim.Native.Nat.{ℕ, zero, suc, ◌+◌, ◌≤◌, ◌<◌}
use mathlib.Core.Path.{◌≡◌}
use mathlib.Core.Logic.{◌↔◌, ◌≢◌, ⊎_elim}
use mathlib.Core.List.{List, [], ◌∷◌}
use native.Mathlib.Omega.{arith}
use lib.Dec.{eqb}
use borrow.Author.Tests.{eq-eqb, ne_eqb, leb-true, le-leb}
use Rattle.hops.specs.Hops.{hops, next}
use Rattle.hops.proofs.Laws.{hops-cases, hops-from-one, hops-to-n, hops-next, hops-step, next-below}
use Rattle.numbers.specs.declared.NodeNo.{NodeNo}
use Rattle.network.specs.Counting.{one}
use Rattle.network.specs.Network.{node_no, count_of_nodes, count_of_channels, entry, target}
use Rattle.network.specs.Way.{up_to_before, times_among, WayIsHops}
use Rattle.network.proofs.Ground.Splits.{by-same}
use Rattle.network.proofs.Ground.Tests.{ltb-reads}
use Rattle.network.proofs.Ground.Joined.{two-read}
use Rattle.network.proofs.Ground.Counting.{weigh-none, count_same, count-other}
use Rattle.network.proofs.Theory.Load.{count-cons}

module _ (n t : ℕ) (lt : t < n) where
  -- nodes that are equally far from the target are one node
  same_way : (p q : ℕ) → p < n → q < n → hops n p t ≡ hops n q t → p ≡ q
  same_way p q lp lq e =
      let from-q = hops-cases n q t lq lt in
      ⊎_elim
      (λ a. ⊎_elim (λ b. omega arith) (λ b. omega arith) from-q)
      (λ a. ⊎_elim (λ b. omega arith) (λ b. omega arith) from-q)
      (hops-cases n p t lp lt)

  module _ (p : ℕ) (lp : p < n) where
    abbrev OnWay : List NodeNo → Type 0
    OnWay way = 0 < times_among way (node_no p)

    -- a way begins with node q, and the others on it are those within h hops of the target
    begins : (q h : ℕ) (rest : List NodeNo) → q < n → hops n q t ≡ suc h → (OnWay rest) ↔ (hops n p t ≤ h) →
        (OnWay (node_no q ∷ rest)) ↔ (hops n p t ≤ hops n q t)
    begins q h rest lq e within =
        let first : times_among (node_no q ∷ rest) (node_no p) ≡ one (eqb q p) + times_among rest (node_no p) = count-cons p q _ in
        by-same q p
        (λ same. let counted : one (eqb q p) ≡ 1 = rw same (count_same p) in (λ on. rw same (omega arith), λ near. omega arith))
        (λ d.
        let apart : hops n q t ≢ hops n p t = λ far. d (same_way q p lq lp far) in (
          λ on. omega (arith, within.0 (omega (arith, count-other q p d))),
          λ near. omega (arith, within.1 (omega arith)),
        ))

    on-way : (most q : ℕ) → q < n → hops n q t ≤ most → (OnWay (up_to_before n (node_no t) most (node_no q))) ↔ (hops n p t ≤ hops n q t)
    on-way zero q lq l = absurd (omega (arith, hops-from-one n q t lq lt))
    on-way (suc most) q lq l =
        let lr : next n q < n = next-below n q lq in
        by-same (next n q) t
        (λ last. rw (eq-eqb (next n q) t last)
        (begins q 0 [] lq (hops-next n q t lq lt last)
        (λ on. absurd (omega (arith, weigh-none (λ x. one (eqb x p)))), λ near. absurd (omega (arith, hops-from-one n p t lp lt)))))
        (λ more. rw (ne_eqb (next n q) t more)
        (let nearer : hops n q t ≡ suc (hops n (next n q) t) = hops-step n q t lq lt more in
        begins q (hops n (next n q) t) (up_to_before n (node_no t) most (node_no (next n q))) lq nearer (on-way most (next n q) lr (omega arith))))

pub way-is-hops : WayIsHops
way-is-hops σ p k lp le lt =
    let n : ℕ = count_of_nodes σ in
    let way = on-way n (target σ k).0 lt p.0 lp n (entry σ k).0 le (hops-to-n n (entry σ k).0 (target σ k).0 le lt) in
    two-read (ltb-reads k.0 (count_of_channels σ)) (λ near. way.1 (leb-true _ _ near), λ on. le-leb _ _ (way.0 on))
