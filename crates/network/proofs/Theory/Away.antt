-- Theory. How far a node is behind another in ring order, from 0 to n - 1, and how that changes when the one or the other goes on to the
-- next node. Each law is arithmetic once the tests in the definitions are decided.
use Prim.Native.Nat.{ℕ, suc, ◌+◌, ◌-◌, ◌≤◌, ◌<◌}
use mathlib.Core.Path.{◌≡◌}
use mathlib.Core.Logic.{◌≢◌, ⊎_elim}
use mathlib.Core.Bool.{cond}
use native.Mathlib.Omega.{arith}
use lib.Dec.{leb}
use borrow.Author.Tests.{leb-true, leb-false}
use Rattle.hops.specs.Hops.{next}
use Rattle.hops.proofs.Laws
use Rattle.network.proofs.Ground.Splits.{by-test}

-- so many nodes p is behind the node at: 0 at the node itself, n - 1 at the node next to it
unfoldable pub away : ℕ → ℕ → ℕ → ℕ
away n at p = cond (leb p at) (at - p) (n + at - p)

-- away, by what its test says
away-cases {ℓ} : {X : Type ℓ} (n at p : ℕ) → p < n → (p ≤ at → p + away n at p ≡ at → X) → (at < p → p + away n at p ≡ n + at → X) → X
unfolding away
away-cases n at p l near far =
    by-test (leb p at)
    (λ e. near (leb-true p at e) (rw e (omega (arith, leb-true p at e))))
    (λ e. far (leb-false p at e) (rw e (omega arith)))

-- the next node, by what its test says
next-cases {ℓ} : {X : Type ℓ} (n p : ℕ) → (suc p ≡ n → next n p ≡ 0 → X) → (suc p ≢ n → next n p ≡ suc p → X) → X
next-cases n p last inner = ⊎_elim (λ a. last a.0 a.1) (λ a. inner a.0 a.1) (Laws.next-cases n p)

pub away-here : (n p : ℕ) → p < n → away n p p ≡ 0
away-here n p l = away-cases n p p l (λ a e. omega arith) (λ a e. omega arith)

pub away-below : (n at p : ℕ) → at < n → p < n → away n at p < n
away-below n at p la l = away-cases n at p l (λ a e. omega arith) (λ a e. omega arith)

-- a message that goes on to the next node comes nearer by one
pub away-next : (n at p : ℕ) → at < n → p < n → p ≢ at → away n at p ≡ suc (away n at (next n p))
away-next n at p la l d =
    next-cases n p
    (λ last e. rw e
    (away-cases n at p l
    (λ a f. omega arith)
    (λ a f. away-cases n at 0 (omega arith) (λ b g. omega arith) (λ b g. omega arith))))
    (λ inner e. rw e
    (away-cases n at p l
    (λ a f. away-cases n at (suc p) (omega arith) (λ b g. omega arith) (λ b g. omega arith))
    (λ a f. away-cases n at (suc p) (omega arith) (λ b g. omega arith) (λ b g. omega arith))))

-- the next node is the furthest behind
pub away-first : (n at : ℕ) → at < n → suc (away n at (next n at)) ≡ n
away-first n at l =
    next-cases n at
    (λ last e. rw e (away-cases n at 0 (omega arith) (λ b g. omega arith) (λ b g. omega arith)))
    (λ inner e. rw e (away-cases n at (suc at) (omega arith) (λ b g. omega arith) (λ b g. omega arith)))

-- when the node itself becomes the next one, all others but that are behind by one more
pub away-on : (n at p : ℕ) → at < n → p < n → p ≢ next n at → away n (next n at) p ≡ suc (away n at p)
away-on n at p la l =
    next-cases n at
    (λ last e. rw e λ d.
    away-cases n at p l
    (λ a f. away-cases n 0 p l (λ b g. omega arith) (λ b g. omega arith))
    (λ a f. omega arith))
    (λ inner e. rw e λ d.
    away-cases n at p l
    (λ a f. away-cases n (suc at) p l (λ b g. omega arith) (λ b g. omega arith))
    (λ a f. away-cases n (suc at) p l (λ b g. omega arith) (λ b g. omega arith)))
