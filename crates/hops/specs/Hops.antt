-- Hops on a ring of n nodes, in the words of document 01: the least h from 1 to n with p + h and q leaving the same
-- remainder by n. Any n, p and q.
use Rattle.std.specs.Prelude.{ℕ, zero, suc, ◌+◌, ◌%◌, ◌<◌, ◌≤◌, ◌≡◌, Bool, cond, ◌&&◌, [], ◌∷◌, map, eqb, ltb}

-- p + h and q leave the same remainder by n: h nodes after p stands q
abbrev pub reaches : ℕ → ℕ → ℕ → ℕ → Bool
reaches n p q h = eqb ((p + h) % n) (q % n)

-- the least of the k numbers a, a + 1, .. that passes the test; 0 where none does
abbrev pub least : (ℕ → Bool) → ℕ → ℕ → ℕ
least test a zero = 0
least test a (suc k) = cond (test a) a (least test (suc a) k)

-- hops from p to q on n nodes: the least of the n numbers from 1 that reaches
unfoldable pub hops : ℕ → ℕ → ℕ → ℕ
hops n p q = least (reaches n p q) 1 n

-- the same as a statement of h, with a name for each part
pub record LeastHops (n p q h : ℕ) : Type 0 where
  pub from_one : 1 ≤ h
  pub to-n : h ≤ n
  pub same-remainder : (p + h) % n ≡ q % n
  pub none-smaller : (j : ℕ) → 1 ≤ j → j < h → (p + j) % n ≡ q % n → ⊥

-- the node next to p on n nodes: after n - 1 comes 0
unfoldable pub next : ℕ → ℕ → ℕ
next n p = cond (eqb (suc p) n) 0 (suc p)

-- hops from p to q where both are nodes of the ring, and 0 where p or q is n or more, as on the fitters' sheet
unfoldable pub hops_between : ℕ → ℕ → ℕ → ℕ
hops_between n p q = cond (ltb p n && ltb q n) (hops n p q) 0

-- ---- worked: n, p and q, and the hops. The first three are P3 to P5
abbrev pub WorkedHops : Type 0
WorkedHops =
    map (λ (a : ℕ × ℕ × ℕ). hops_between a.0 a.1 a.2)
    ((3, 2, 1) ∷ (3, 1, 1) ∷ (1, 0, 0) ∷ (32, 31, 0) ∷ (32, 0, 31) ∷ (32, 7, 7) ∷ (17, 3, 2) ∷ (255, 254, 254)
    ∷ (16, 16, 0) ∷ (16, 0, 16) ∷ (0, 0, 0) ∷ [])
    ≡ 2 ∷ 3 ∷ 1 ∷ 1 ∷ 31 ∷ 32 ∷ 16 ∷ 255 ∷ 0 ∷ 0 ∷ 0 ∷ []
