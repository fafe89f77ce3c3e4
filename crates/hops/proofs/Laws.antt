-- The laws of hops, for the theory of the ring: where hops lead, their bounds, and that a move brings a message one hop
-- nearer. Any number of nodes. Each law follows from one fact: the least h is q - p ahead of p, else n + q - p round the
-- ring.
use mathlib.Core.Path.{◌≡◌, refl, sym, ◌∙◌, ap}
use mathlib.Core.Bool.{Bool, true, false}
use mathlib.Core.Logic.{◌⊎◌, inl, inr}
use Prim.Native.Nat.{ℕ, zero, suc, ◌+◌, ◌-◌, ◌%◌, ◌<◌, ◌≤◌}
use native.Mathlib.Nat.{mod-eq_of_lt, mod-eq-sub-mod, add-mod_left, mod-one}
use native.Mathlib.Omega.{arith}
use lib.Dec.{eqb, ltb}
use borrow.Author.Tests.{ltb-true, ltb-false, eqb-true, eqb-false, lt-ltb, eq-eqb, ne_eqb}
use Rattle.hops.specs.Hops.{reaches, least, hops, LeastHops, next, hops_between, WorkedHops}
use Rattle.numbers.proofs.Splits.{by-test}
use Rattle.hops.proofs.CaseSplits.{by-case}

-- The search finds the least number that passes, where one does.

least-is :
    (test : ℕ → Bool) (a k h : ℕ) → a ≤ h → h < a + k → test h ≡ true → ((j : ℕ) → a ≤ j → j < h → test j ≡ false)
    → least test a k ≡ h
least-is test a zero h ah hk passes fails = absurd (omega arith)
least-is test a (suc k) h ah hk passes fails =
    by-test (ltb a h)
    (λ e. rw (fails a (omega arith) (ltb-true a h e))
    (least-is test (suc a) k h (ltb-true a h e) (omega arith) passes (λ j aj jh. fails j (omega arith) jh)))
    (λ e. let same : h ≡ a = omega (arith, ltb-false a h e) in rw (ap test (sym same) ∙ passes) (sym same))

-- hops is the one number that the statement allows
pub hops-is : (n p q h : ℕ) → LeastHops n p q h → hops n p q ≡ h
unfolding hops
hops-is n p q h l =
    least-is (reaches n p q) _ n h (omega (arith, l.from_one)) (omega (arith, l.to-n)) (eq-eqb _ _ l.same-remainder)
    (λ j a b. ne_eqb _ _ (l.none-smaller j (omega arith) b))

pub LeastHops-unique : (n p q h k : ℕ) → LeastHops n p q h → LeastHops n p q k → h ≡ k
LeastHops-unique n p q h k a b = sym (hops-is n p q h a) ∙ hops-is n p q k b

-- The closed formula: q - p where q lies ahead of p, else n + q - p.

least-ahead : (n p q : ℕ) → p < q → q < n → LeastHops n p q (q - p)
least-ahead n p q pq qn = record {
  from_one = omega arith;
  to-n = omega arith;
  same-remainder = ap (λ (m : ℕ). m % n) (omega arith);
  none-smaller = λ j a b e.
      let there : p + j ≡ q = sym (mod-eq_of_lt (omega arith)) ∙ e ∙ mod-eq_of_lt qn in
      omega arith;
}

least-round : (n p q : ℕ) → q ≤ p → p < n → LeastHops n p q (n + q - p)
least-round n p q qp pn = record {
  from_one = omega arith;
  to-n = omega arith;
  same-remainder = ap (λ (m : ℕ). m % n) (omega arith) ∙ add-mod_left n q;
  none-smaller = λ j a b e.
      let q-rest : q % n ≡ q = mod-eq_of_lt (omega arith) in
      by-test (ltb (p + j) n)
      (λ t.
      let there : p + j ≡ q = sym (mod-eq_of_lt (ltb-true _ _ t)) ∙ e ∙ q-rest in
      omega arith)
      (λ t.
      let past : n ≤ p + j = ltb-false _ _ t in
      let there : p + j - n ≡ q = sym (mod-eq-sub-mod past ∙ mod-eq_of_lt (omega arith)) ∙ e ∙ q-rest in
      omega arith);
}

pub hops-ahead : (n p q : ℕ) → p < q → q < n → p + hops n p q ≡ q
hops-ahead n p q pq qn = omega (arith, hops-is n p q _ (least-ahead n p q pq qn))

pub hops-round : (n p q : ℕ) → q ≤ p → p < n → p + hops n p q ≡ n + q
hops-round n p q qp pn = omega (arith, hops-is n p q _ (least-round n p q qp pn))

-- both laws at once, for a proof that goes by the two cases
pub hops-cases :
    (n p q : ℕ) → p < n → q < n → ((p < q) × (p + hops n p q ≡ q)) ⊎ ((q ≤ p) × (p + hops n p q ≡ n + q))
hops-cases n p q pn qn =
    by-test (ltb p q)
    (λ t. inl (ltb-true _ _ t, hops-ahead n p q (ltb-true _ _ t) qn))
    (λ t. inr (ltb-false _ _ t, hops-round n p q (ltb-false _ _ t) pn))

-- Between nodes of the ring the definition is the number that document 01 describes.

pub hops-least : (n p q : ℕ) → p < n → q < n → LeastHops n p q (hops n p q)
hops-least n p q pn qn =
    by-test (ltb p q)
    (λ t. let l : LeastHops n p q (q - p) = least-ahead n p q (ltb-true _ _ t) qn in rw (hops-is n p q _ l) l)
    (λ t. let l : LeastHops n p q (n + q - p) = least-round n p q (ltb-false _ _ t) pn in rw (hops-is n p q _ l) l)

pub hops-from-one : (n p q : ℕ) → p < n → q < n → 1 ≤ hops n p q
hops-from-one n p q pn qn = (hops-least n p q pn qn).from_one

pub hops-to-n : (n p q : ℕ) → p < n → q < n → hops n p q ≤ n
hops-to-n n p q pn qn = (hops-least n p q pn qn).to-n

-- round the whole ring, from a node to itself
pub hops-same-node : (n p : ℕ) → p < n → hops n p p ≡ n
hops-same-node n p pn = omega (arith, hops-round n p p (omega arith) pn)

pub hops-one-node : (p q : ℕ) → hops 1 p q ≡ 1
unfolding hops
hops-one-node p q = rw (eq-eqb _ _ (mod-one (p + 1) ∙ sym (mod-one q)))

-- One step along the ring.

pub next-cases : (n p : ℕ) → ((suc p ≡ n) × (next n p ≡ 0)) ⊎ ((suc p ≡ n → ⊥) × (next n p ≡ suc p))
unfolding next
next-cases n p =
    by-test (eqb (suc p) n) (λ t. inl (eqb-true _ _ t, rw t)) (λ t. inr (eqb-false _ _ t, rw t))

pub next-below : (n p : ℕ) → p < n → next n p < n
next-below n p pn = by-case (next-cases n p) (λ a. omega arith) (λ a. omega (arith, a.0))

-- the next node is one hop away
pub hops-next : (n p q : ℕ) → p < n → q < n → next n p ≡ q → hops n p q ≡ 1
hops-next n p q pn qn e =
    by-case (next-cases n p)
    (λ a. by-case (hops-cases n p q pn qn) (λ h. omega arith) (λ h. omega arith))
    (λ a. by-case (hops-cases n p q pn qn) (λ h. omega arith) (λ h. omega arith))

-- any other is one hop more than from the next node
pub hops-step : (n p q : ℕ) → p < n → q < n → (next n p ≡ q → ⊥) → hops n p q ≡ suc (hops n (next n p) q)
hops-step n p q pn qn far =
    let away : next n p < n = next-below n p pn in
    by-case (next-cases n p)
    (λ a.
    by-case (hops-cases n p q pn qn)
    (λ h. by-case (hops-cases n (next n p) q away qn) (λ g. omega arith) (λ g. omega arith))
    (λ h. by-case (hops-cases n (next n p) q away qn) (λ g. omega arith) (λ g. omega (arith, far))))
    (λ a.
    by-case (hops-cases n p q pn qn)
    (λ h. by-case (hops-cases n (next n p) q away qn) (λ g. omega arith) (λ g. omega (arith, far)))
    (λ h. by-case (hops-cases n (next n p) q away qn) (λ g. omega arith) (λ g. omega arith)))

-- Whatever numbers are asked: hops between two nodes of the ring, else 0.

pub hops-between : (n p q : ℕ) → p < n → q < n → hops_between n p q ≡ hops n p q
unfolding hops_between
hops-between n p q pn qn = rw (lt-ltb _ _ pn, lt-ltb _ _ qn)

pub hops-beyond : (n p q : ℕ) → (p < n → q < n → ⊥) → hops_between n p q ≡ 0
unfolding hops_between
hops-beyond n p q none =
    by-test (ltb p n)
    (λ b. by-test (ltb q n) (λ d. absurd (none (ltb-true _ _ b) (ltb-true _ _ d))) (λ d. rw (b, d)))
    (λ b. rw b)

-- no more than n
pub hops-most : (n p q : ℕ) {r : ℕ} → r ≡ hops_between n p q → r ≤ n
unfolding hops_between
hops-most n p q said =
    rw said
    (by-test (ltb p n)
    (λ b. by-test (ltb q n) (λ d. rw (b, d) (hops-to-n n p q (ltb-true _ _ b) (ltb-true _ _ d))) (λ d. rw (b, d) (omega arith)))
    (λ b. rw b (omega arith)))

-- and by the closed formula
pub between-ahead : (n p q : ℕ) → p < q → q < n → hops_between n p q ≡ q - p
between-ahead n p q pq qn = hops-between n p q (omega arith) qn ∙ hops-is n p q _ (least-ahead n p q pq qn)

pub between-round : (n p q : ℕ) → q ≤ p → p < n → hops_between n p q ≡ n - p + q
between-round n p q qp pn =
    let order : n + q - p ≡ n - p + q = omega arith in
    hops-between n p q pn (omega arith) ∙ hops-is n p q _ (least-round n p q qp pn) ∙ order

pub worked-hops : WorkedHops
unfolding hops_between hops
worked-hops = refl
