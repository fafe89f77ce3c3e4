-- Theory. Where the message of channel m stands, and a bound on its delay: how many others may still leave that node before it. Each
-- change that steps are made of keeps the place and the bound, unless it moves m itself; a message that leaves ahead of m takes one off.
use Prim.Native.Nat.{ℕ, suc, ◌+◌, ◌*◌, ◌≤◌, ◌<◌}
use mathlib.Core.Path.{◌≡◌, refl, sym, ap, ◌∙◌}
use mathlib.Core.Logic.{◌≢◌}
use mathlib.Core.Bool.{Bool, true, false, ◌&&◌, not}
use mathlib.Core.List.{List, [], ◌∷◌, ◌++◌, append_assoc}
use mathlib.Core.Option.{Option, none}
use native.Mathlib.Omega.{arith}
use lib.Dec.{eqb}
use lib.ListN.{length}
use Rattle.batch.specs.declared.BatchRecord.{BatchRecord}
use Rattle.network.specs.Counting.{one, sum, weigh, count, occupied}
use Rattle.network.specs.Network.{Phase, asking, moving}
use Rattle.network.proofs.Ground.Splits.{by-same, by_less, by-list}
use Rattle.network.proofs.Ground.Counting.{sum-but, sum-term, sum-some, weigh-append, weigh-cons, count_same, count-other, length-snoc, occupied-split, one-most}
use Rattle.network.proofs.Ground.Without.{split-without}
use Rattle.network.proofs.Theory.State.{upd, upd_same, upd_other, Net, State, turn, join, pop, push, pass, without, pull, Sound}

-- two terms of a sum
pub sum-two : (n p q : ℕ) (f : ℕ → ℕ) → p < n → q < n → p ≢ q → f p + f q ≤ sum n f
sum-two n p q f lp lq d =
    let rest : sum n f + upd p 0 f p ≡ sum n (upd p 0 f) + f p =
    sum-but n p f (upd p 0 f) lp (λ r l e. sym (upd_other p 0 f r e)) in
    let other : upd p 0 f q ≡ f q = upd_other p 0 f q (λ e. d (sym e)) in
    omega (arith, rest, other, upd_same p 0 f, sum-term n q (upd p 0 f) lq)

-- what stands in a list splits it
pub count-split : (m : ℕ) (xs : List ℕ) → 1 ≤ count m xs → (ys : List ℕ) × (zs : List ℕ) × (xs ≡ ys ++ (m ∷ zs))
unfolding weigh
count-split m [] l = absurd (omega arith)
count-split m (x ∷ xs) l =
    by-same x m
    (λ e. ([], xs, rw e refl))
    (λ d. let found = count-split m xs (omega (arith, count-other x m d)) in (x ∷ found.0, found.1, ap (λ zs. x ∷ zs) found.2))

module _ (m : ℕ) where
  pub count-split-some : (xs ys : List ℕ) → 1 ≤ count m (xs ++ (m ∷ ys))
  count-split-some xs ys =
      omega (arith, weigh-append (λ x. one (eqb x m)) xs (m ∷ ys), weigh-cons (λ x. one (eqb x m)) m ys, count_same m)

  -- The message of m stands in the buffer or the line of the node at, and its delay is at most d. In a line, what is in the buffer and in
  -- the line goes before it, and between two entries one more may pass: one for each before it in the line, and one if the mark is clear.
  pub data Stands (σ : State) (at d : ℕ) : Type 0 where
    buffered : (xs ys : List ℕ) → σ.buffer at ≡ xs ++ (m ∷ ys) → length xs ≤ d → Stands σ at d
    waiting : (xs ys : List ℕ) → σ.line at ≡ xs ++ (m ∷ ys) →
        length (σ.buffer at) + 2 * length xs + one (not (σ.mark at)) ≤ d → Stands σ at d

  -- another state whose node at is the same
  pub stands_same : (σ τ : State) {at d : ℕ} → τ.buffer at ≡ σ.buffer at → τ.line at ≡ σ.line at → τ.mark at ≡ σ.mark at →
      Stands σ at d → Stands τ at d
  stands_same σ τ eb el em (buffered xs ys e l) = buffered xs ys (eb ∙ e) l
  stands_same σ τ eb el em (waiting xs ys e l) = waiting xs ys (el ∙ e) (rw (eb, em) l)

  pub stands-turn : {σ : State} {at d : ℕ} (k : ℕ) (f : Phase) (o : Option BatchRecord) → Stands σ at d → Stands (turn k f o σ) at d
  stands-turn {σ} k f o = stands_same σ (turn k f o σ) refl refl refl

  -- what joins the end of the list at q stands behind m, if m is there
  behind : (q k : ℕ) (lists : ℕ → List ℕ) (at : ℕ) (xs ys : List ℕ) → lists at ≡ xs ++ (m ∷ ys) →
      (zs : List ℕ) × (upd q (lists q ++ (k ∷ [])) lists at ≡ xs ++ (m ∷ zs))
  behind q k lists at xs ys e =
      by-same at q
      (λ same. (ys ++ (k ∷ []), rw (same, upd_same, ← same, e, append_assoc) refl))
      (λ other. (ys, upd_other q (lists q ++ (k ∷ [])) lists at other ∙ e))

  pub stands-join : {σ : State} {at d : ℕ} (q k : ℕ) → Stands σ at d → Stands (join q k σ) at d
  stands-join q k (buffered xs ys e l) = buffered xs ys e l
  stands-join {σ} {at} q k (waiting xs ys e l) = let b = behind q k σ.line at xs ys e in waiting xs b.0 b.1 l

  -- One that passes m in its line sets the mark, and no second one passes.
  pub stands-pass : {σ : State} {at d : ℕ} (q k : ℕ) → σ.mark q ≡ false → Stands σ at d → Stands (pass q k σ) at d
  stands-pass {σ} {at} q k clear (buffered xs ys e l) = let b = behind q k σ.buffer at xs ys e in buffered xs b.0 b.1 l
  stands-pass {σ} {at} {d} q k clear (waiting xs ys e l) =
      by-same at q
      (λ same. waiting xs ys e
      (rw (same, upd_same q _ σ.buffer, upd_same q _ σ.mark, length-snoc, clear, ← same, e, occupied-split xs m ys) (passed same)))
      (λ other. stands_same σ (pass q k σ) (upd_other q _ σ.buffer at other) refl (upd_other q _ σ.mark at other) (waiting xs ys e l))
    where
      passed : at ≡ q → suc (length (σ.buffer at)) + 2 * length xs + 0 ≤ d
      passed same = let was : one (not (σ.mark at)) ≡ 1 = rw (same, clear) refl in omega arith

  -- An entry: the first of a line goes to the end of the buffer, whether it is m or another.
  pub stands-push : {σ : State} {at d : ℕ} (q k : ℕ) (ks : List ℕ) → σ.line q ≡ k ∷ ks → Stands σ at d → Stands (push q k ks σ) at d
  stands-push {σ} {at} q k ks first (buffered xs ys e l) =
      let b = behind q k σ.buffer at xs ys e in buffered xs b.0 b.1 l
  stands-push {σ} {at} {d} q k ks first (waiting xs ys e l) =
      by-same at q
      (λ same. by-list xs
      (λ none. buffered (σ.buffer q) [] (rw (same, upd_same) (ap (λ z. σ.buffer q ++ (z ∷ [])) (cc))) (rw (← same) (omega arith)))
      (λ y zs more. waiting zs ys (rw (same, upd_same) (cc))
      (rw (same, upd_same q _ σ.buffer, upd_same q _ σ.mark, length-snoc) (rw (← same) (omega (arith, ap length more))))))
      (λ other. stands_same σ (push q k ks σ) (upd_other q _ σ.buffer at other) (upd_other q _ σ.line at other)
      (upd_other q _ σ.mark at other) (waiting xs ys e l))

  -- Another leaves a line: m stands there still, with no more before it, and the mark of its line stays.
  pub stands-pull : {σ : State} {at d : ℕ} (q k : ℕ) → m ≢ k → Stands σ at d → Stands (pull q k σ) at d
  stands-pull q k other (buffered xs ys e l) = buffered xs ys e l
  stands-pull {σ} {at} {d} q k other (waiting xs ys e l) =
      by-same at q
      (λ same.
      let r = split-without k m xs ys other in
      let line : without k (σ.line q) ≡ r.0 ++ (m ∷ r.1) = ap (without k) (ap σ.line (sym same) ∙ e) ∙ r.2 in
      let mark : upd q (σ.mark q && occupied (without k (σ.line q))) σ.mark at ≡ σ.mark at =
      rw (same, upd_same, line, occupied-split r.0 m r.1) (both (σ.mark q)) in
      waiting r.0 r.1 (rw (same, upd_same) line) (rw mark (omega (arith, r.3))))
      (λ apart. stands_same σ (pull q k σ) refl (upd_other q _ σ.line at apart) (upd_other q _ σ.mark at apart) (waiting xs ys e l))
    where
      both : (b : Bool) → (b && true) ≡ b
      both true = refl
      both false = refl

  -- another leaves the buffer of m's node: the delay falls
  pub stands-pop : {σ : State} {at d : ℕ} (p k : ℕ) (ks : List ℕ) → at ≡ p → σ.buffer p ≡ k ∷ ks → m ≢ k → Stands σ at d →
      (less : ℕ) × Stands (pop p ks σ) at less × (suc less ≤ d)
  stands-pop {σ} {at} p k ks same first other (buffered xs ys e l) =
      by-list xs
      (λ none. absurd (other (cc)))
      (λ y zs more. (length zs, buffered zs ys (rw (same, upd_same) (cc)) (omega arith), omega (arith, ap length more)))
  stands-pop {σ} {at} p k ks same first other (waiting xs ys e l) =
      let popped : upd p ks σ.buffer at ≡ ks = rw same (upd_same p ks σ.buffer) in
      let was : length (σ.buffer at) ≡ suc (length ks) = rw (same, first) refl in
      (length ks + 2 * length xs + one (not (σ.mark at)), waiting xs ys e (rw popped (omega arith)), omega arith)

  -- how many times m stands at a node
  abbrev times : State → ℕ → ℕ
  times σ p = count m (σ.buffer p) + count m (σ.line p)

  stands-some : {σ : State} {at d : ℕ} → Stands σ at d → 1 ≤ times σ at
  stands-some (buffered xs ys e l) = rw e (omega (arith, count-split-some xs ys))
  stands-some (waiting xs ys e l) = rw e (omega (arith, count-split-some xs ys))

  -- in a sound ring m stands at one node only
  pub stands-once : {N : Net} {σ : State} {at d p e : ℕ} → Sound N σ → m < N.c → at < N.n → p < N.n →
      Stands σ at d → Stands σ p e → at ≡ p
  stands-once {N} {σ} {at} {d} {p} s lm la lp there here =
      by-same at p
      (λ same. same)
      (λ other. absurd (omega (
        arith,
        s.once m lm,
        one-most (moving (σ.phase m)),
        sum-two N.n at p (times σ) la lp other,
        stands-some there,
        stands-some here,
      )))

-- The request of an asking channel stands in its receiver's line or in a buffer, and not in both.
module _ (N : Net) {σ : State} (s : Sound N σ) (k : ℕ) (l : k < N.c) (asks : σ.phase k ≡ asking) where
  once-there : sum N.n (times k σ) ≡ 1
  once-there = rw asks at (s.once k l)

  pub not-in-line : count k (σ.line (N.receiver k)) ≡ 0 → (p : ℕ) × (p < N.n) × (0 < count k (σ.buffer p))
  not-in-line gone =
      let found = sum-some N.n (times k σ) (omega (arith, once-there)) in
      let p : ℕ = found.0 in
      by_less 0 (count k (σ.buffer p))
      (λ there. (p, found.1, there))
      (λ nowhere.
      let home : p ≡ N.receiver k = rw asks at (s.in-line p found.1 k (omega (arith, found.2))).1 in
      absurd (omega (arith, found.2, ap (λ q. count k (σ.line q)) home)))

  pub not-in-both : (p : ℕ) → p < N.n → 0 < count k (σ.buffer p) → count k (σ.line (N.receiver k)) ≡ 0
  not-in-both p lp there =
      let q : ℕ = N.receiver k in
      by-same p q
      (λ same. omega (arith, once-there, sum-term N.n p (times k σ) lp, ap (λ r. count k (σ.line r)) same))
      (λ apart. omega (arith, once-there, sum-two N.n p q (times k σ) lp (s.receiver-below k l) apart))
