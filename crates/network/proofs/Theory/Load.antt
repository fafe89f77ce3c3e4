-- Theory. What the nodes weigh together, for any weight of a node's buffer and line, and how a change at one node alters it; and what all
-- messages weigh, for any weight of a channel at a node: one that leaves takes its weight off, one that comes adds its own. A count is
-- such a weight, and Weight builds the measure's on it.
use Prim.Native.Nat.{ℕ, ◌+◌, ◌<◌}
use mathlib.Core.Path.{◌≡◌, sym, ap}
use mathlib.Core.Logic.{◌≢◌}
use mathlib.Core.Bool.{Bool}
use mathlib.Core.List.{List, [], ◌∷◌, ◌++◌}
use native.Mathlib.Omega.{arith}
use lib.Dec.{eqb}
use Rattle.network.specs.Counting.{one, sum, weigh, count}
use Rattle.network.proofs.Ground.Counting.{sum-but, weigh-cons, weigh-snoc, count-other}
use Rattle.network.proofs.Ground.Without.{weigh-without}
use Rattle.network.proofs.Theory.State.{Net, State, state, without, upd, upd_same, upd_other, join, pop, push, pass, pull}

-- the buffer of p becomes xs; or its line; or its mark becomes b. The changes of State.antt at a node are made of these
abbrev pub with_buffer : ℕ → List ℕ → State → State
with_buffer p xs σ = state (upd p xs σ.buffer) σ.line σ.mark σ.phase σ.offer

abbrev pub with_line : ℕ → List ℕ → State → State
with_line p xs σ = state σ.buffer (upd p xs σ.line) σ.mark σ.phase σ.offer

abbrev pub with_mark : ℕ → Bool → State → State
with_mark p b σ = state σ.buffer σ.line (upd p b σ.mark) σ.phase σ.offer

-- a sum over a table in which one entry changes
pub sum-upd {ℓ} : {A : Type ℓ} (F : ℕ → A → ℕ) (n p : ℕ) (v : A) (t : ℕ → A) → p < n →
    sum n (λ q. F q (upd p v t q)) + F p (t p) ≡ sum n (λ q. F q (t q)) + F p v
sum-upd F n p v t l =
    rw (upd_same p v t)
    at (sum-but n p (λ q. F q (upd p v t q)) (λ q. F q (t q)) l (λ q _ d. ap (F q) (upd_other p v t q d)))

-- the weight of all nodes, where node p weighs F p of its buffer and its line
abbrev pub nodes_weigh : Net → (ℕ → List ℕ → List ℕ → ℕ) → State → ℕ
nodes_weigh N F σ = sum N.n (λ p. F p (σ.buffer p) (σ.line p))

module _ (N : Net) (F : ℕ → List ℕ → List ℕ → ℕ) (σ : State) (p : ℕ) (l : p < N.n) where
  pub nodes-buffer : (xs : List ℕ) →
      nodes_weigh N F (with_buffer p xs σ) + F p (σ.buffer p) (σ.line p) ≡ nodes_weigh N F σ + F p xs (σ.line p)
  nodes-buffer xs = sum-upd (λ q ys. F q ys (σ.line q)) N.n p xs σ.buffer l

  pub nodes-line : (ys : List ℕ) →
      nodes_weigh N F (with_line p ys σ) + F p (σ.buffer p) (σ.line p) ≡ nodes_weigh N F σ + F p (σ.buffer p) ys
  nodes-line ys = sum-upd (λ q zs. F q (σ.buffer q) zs) N.n p ys σ.line l

pub nodes-both : (N : Net) (F : ℕ → List ℕ → List ℕ → ℕ) (σ : State) (p : ℕ) (l : p < N.n) (xs ys : List ℕ) →
    nodes_weigh N F (with_buffer p xs (with_line p ys σ)) + F p (σ.buffer p) (σ.line p) ≡ nodes_weigh N F σ + F p xs ys
nodes-both N F σ p l xs ys =
    let then = rw (upd_same p ys σ.line) at (nodes-buffer N F (with_line p ys σ) p l xs) in
    omega (arith, nodes-line N F σ p l ys)

-- the weight of all messages, where channel k weighs w p k at node p
abbrev pub load : Net → (ℕ → ℕ → ℕ) → State → ℕ
load N w σ = sum N.n (λ p. weigh (w p) (σ.buffer p) + weigh (w p) (σ.line p))

-- the weight that counts channel j, so that `here N σ j` is `load N (standing j) σ`
abbrev pub standing : ℕ → ℕ → ℕ → ℕ
standing j p x = one (eqb x j)

pub count-cons : (j k : ℕ) (ks : List ℕ) → count j (k ∷ ks) ≡ one (eqb k j) + count j ks
count-cons j k ks = weigh-cons (λ x. one (eqb x j)) k ks

pub count-snoc : (j k : ℕ) (ks : List ℕ) → count j (ks ++ (k ∷ [])) ≡ count j ks + one (eqb k j)
count-snoc j k ks = weigh-snoc (λ x. one (eqb x j)) ks k

pub count-apart : (j k : ℕ) → j ≢ k → one (eqb k j) ≡ 0
count-apart j k d = count-other k j (λ e. d (sym e))

module _ (N : Net) (w : ℕ → ℕ → ℕ) (σ : State) (p : ℕ) (l : p < N.n) where
  abbrev weighed : ℕ → List ℕ → List ℕ → ℕ
  weighed q xs ys = weigh (w q) xs + weigh (w q) ys

  pub load-buffer : (xs : List ℕ) → load N w (with_buffer p xs σ) + weigh (w p) (σ.buffer p) ≡ load N w σ + weigh (w p) xs
  load-buffer xs = omega (arith, nodes-buffer N weighed σ p l xs)

  pub load_line : (xs : List ℕ) → load N w (with_line p xs σ) + weigh (w p) (σ.line p) ≡ load N w σ + weigh (w p) xs
  load_line xs = omega (arith, nodes-line N weighed σ p l xs)

  pub load-pop : (k : ℕ) (ks : List ℕ) → σ.buffer p ≡ k ∷ ks → load N w (pop p ks σ) + w p k ≡ load N w σ
  load-pop k ks e =
      let first : weigh (w p) (σ.buffer p) ≡ w p k + weigh (w p) ks = rw e (weigh-cons (w p) k ks) in
      omega (arith, load-buffer ks)

  pub load-pull : (k : ℕ) → 0 < count k (σ.line p) → load N w (pull p k σ) + w p k ≡ load N w σ
  load-pull k there = omega (arith, load_line (without k (σ.line p)), weigh-without k (w p) (σ.line p) there)

  pub load-join : (k : ℕ) → load N w (join p k σ) ≡ load N w σ + w p k
  load-join k = omega (arith, load_line (σ.line p ++ (k ∷ [])), weigh-snoc (w p) (σ.line p) k)

  pub load-pass : (k : ℕ) → load N w (pass p k σ) ≡ load N w σ + w p k
  load-pass k = omega (arith, load-buffer (σ.buffer p ++ (k ∷ [])), weigh-snoc (w p) (σ.buffer p) k)

  -- an entry moves weight within one node
  pub load-push : (k : ℕ) (ks : List ℕ) → σ.line p ≡ k ∷ ks → load N w (push p k ks σ) ≡ load N w σ
  load-push k ks e =
      let first : weigh (w p) (σ.line p) ≡ w p k + weigh (w p) ks = rw e (weigh-cons (w p) k ks) in
      omega (arith, nodes-both N weighed σ p l (σ.buffer p ++ (k ∷ [])) ks, weigh-snoc (w p) (σ.buffer p) k)
