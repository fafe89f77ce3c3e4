-- Theory. The count with withdrawals, and the receives that they undo, left out. Every withdrawal undoes a receive of the run or takes out a
-- request that stood before it, and of these there is at most one for each channel. So where a number pays for all that a run takes,
-- withdrawals giving one back, that number and c bound the count.
use Prim.Native.Nat.{ℕ, ◌+◌, ◌≤◌, ◌<◌}
use mathlib.Core.Path.{◌≡◌, refl, sym}
use mathlib.Core.Logic.{◌≢◌}
use mathlib.Core.Bool.{Bool, true, false, ◌&&◌, not}
use mathlib.Core.List.{List, [], ◌∷◌}
use native.Mathlib.Omega.{arith}
use borrow.Author.Tests.{eq-eqb, ne_eqb}
use Rattle.numbers.specs.declared.ChannelNo.{ChannelNo}
use Rattle.network.specs.Counting.{one, sum}
use Rattle.network.specs.Network.{Phase, resting, asking, ready, answering, channel_no}
use Rattle.network.specs.Sound.{is_asking}
use Rattle.network.specs.Calls.{Event}
use Rattle.network.specs.Runs.{Call, Deed, received, withdrew, stepped, silent, deed_of, withdrawn, count_of}
use Rattle.network.proofs.Ground.Splits.{both_ways}
use Rattle.network.proofs.Ground.Counting.{sum-but, sum-le, sum_ones, one-most}
use Rattle.network.proofs.Theory.State.{upd, upd_same, upd_other, upd-at, Net, State, Did, did-receive, did-offer, did-answer, did-enter, did-pass, did-ask, did-respond, did-deliver, did-withdraw}

-- what a deed takes: a receive or a step, one; and what it gives back: a withdrawal, one
abbrev pub takes : Deed → ℕ
takes (received k) = 1
takes (withdrew k) = 0
takes stepped = 1
takes silent = 0

abbrev pub gives_back : Deed → ℕ
gives_back (received k) = 0
gives_back (withdrew k) = 1
gives_back stepped = 0
gives_back silent = 0

abbrev pub taken : List Deed → ℕ
taken [] = 0
taken (d ∷ ds) = takes d + taken ds

abbrev pub given_back : List Deed → ℕ
given_back [] = 0
given_back (d ∷ ds) = gives_back d + given_back ds

-- the receives that are undone
abbrev undone : List Deed → ℕ
undone [] = 0
undone (received k ∷ ds) = one (withdrawn k ds) + undone ds
undone (withdrew k ∷ ds) = undone ds
undone (stepped ∷ ds) = undone ds
undone (silent ∷ ds) = undone ds

either : (b : Bool) → one (not b) + one b ≡ 1
either true = refl
either false = refl

counted-undone : (ds : List Deed) → count_of ds + undone ds ≡ taken ds
counted-undone [] = refl
counted-undone (received k ∷ ds) = omega (arith, counted-undone ds, either (withdrawn k ds))
counted-undone (withdrew k ∷ ds) = omega (arith, counted-undone ds)
counted-undone (stepped ∷ ds) = omega (arith, counted-undone ds)
counted-undone (silent ∷ ds) = omega (arith, counted-undone ds)

-- which channels ask; and that none asks after that did not before, or none but channel k
abbrev Asks : Type 0
Asks = ℕ → Bool

abbrev Fewer : Asks → Asks → Type 0
Fewer after before = (j : ℕ) → after j ≡ true → before j ≡ true

abbrev FewerBut : ℕ → Asks → Asks → Type 0
FewerBut k after before = (j : ℕ) → j ≢ k → after j ≡ true → before j ≡ true

module _ (c : ℕ) where
  -- Only a receive makes a channel asking; a withdrawal finds its channel asking and leaves it at rest.
  pub data Course : Asks → List Deed → Type 0 where
    ended : {asks : Asks} → Course asks []
    by-receive : {asks next : Asks} {ds : List Deed} (k : ChannelNo) → k.0 < c → FewerBut k.0 next asks →
        Course next ds → Course asks (received k ∷ ds)
    by-withdrawal : {asks next : Asks} {ds : List Deed} (k : ChannelNo) → k.0 < c → asks k.0 ≡ true → next k.0 ≡ false →
        FewerBut k.0 next asks → Course next ds → Course asks (withdrew k ∷ ds)
    by-step : {asks next : Asks} {ds : List Deed} → Fewer next asks → Course next ds → Course asks (stepped ∷ ds)
    by-silence : {asks : Asks} {ds : List Deed} → Course asks ds → Course asks (silent ∷ ds)

  -- the requests that stand and will be taken out
  abbrev lost : Asks → List Deed → ℕ → ℕ
  lost asks ds k = one (asks k && withdrawn (channel_no k) ds)

  fewer-lost : (a b w : Bool) → (a ≡ true → b ≡ true) → one (a && w) ≤ one (b && w)
  fewer-lost false b w h = omega arith
  fewer-lost true b w h = rw (h refl) (omega arith)

  none-lost : (b : Bool) → one (b && false) ≡ 0
  none-lost true = refl
  none-lost false = refl

  at_most : (a w : Bool) → one (a && w) ≤ one w
  at_most true w = omega arith
  at_most false w = omega arith

  -- Every withdrawal undoes a receive of the run, or takes out a request that stood before it.
  withdrawals-paid : {asks : Asks} {ds : List Deed} → Course asks ds → given_back ds ≤ undone ds + sum c (lost asks ds)
  withdrawals-paid ended = omega arith
  withdrawals-paid {asks} (by-receive {next = next} {ds = ds} k l few rest) =
      let i : ℕ = k.0 in
      let f : ℕ → ℕ = lost asks (received k ∷ ds) in
      let v : ℕ = one (withdrawn k ds) in
      let here : f i ≡ 0 = rw (eq-eqb i i refl) (none-lost (asks i)) in
      let raised : sum c f + upd i v f i ≡ sum c (upd i v f) + f i = sum-but c i f (upd i v f) l (λ p _ d. sym (upd_other i v f p d)) in
      let each : sum c (lost next ds) ≤ sum c (upd i v f) =
      sum-le c (lost next ds) (upd i v f)
      (λ p _. upd-at (λ q u. lost next ds q ≤ u) i v f (at_most (next i) (withdrawn k ds))
      (λ q d. rw (ne_eqb i q (λ e. d (sym e))) (fewer-lost (next q) (asks q) (withdrawn (channel_no q) ds) (few q d))) p) in
      omega (arith, withdrawals-paid rest, here, raised, each, upd_same i v f)
  withdrawals-paid {asks} (by-withdrawal {next = next} {ds = ds} k l stood rests few rest) =
      let i : ℕ = k.0 in
      let f : ℕ → ℕ = lost asks (withdrew k ∷ ds) in
      let g : ℕ → ℕ = lost next ds in
      let was : f i ≡ 1 = rw (stood, eq-eqb i i refl) refl in
      let now : g i ≡ 0 = rw rests refl in
      let raised : sum c g + upd i 1 g i ≡ sum c (upd i 1 g) + g i = sum-but c i g (upd i 1 g) l (λ p _ d. sym (upd_other i 1 g p d)) in
      let each : sum c (upd i 1 g) ≤ sum c f =
      sum-le c (upd i 1 g) f
      (λ p _. upd-at (λ q u. u ≤ f q) i 1 g (rw was (omega arith))
      (λ q d. rw (ne_eqb i q (λ e. d (sym e))) (fewer-lost (next q) (asks q) (withdrawn (channel_no q) ds) (few q d))) p) in
      omega (arith, withdrawals-paid rest, was, now, raised, each, upd_same i 1 g)
  withdrawals-paid {asks} (by-step {next = next} {ds = ds} few rest) =
      let each : sum c (lost next ds) ≤ sum c (lost asks ds) =
      sum-le c (lost next ds) (lost asks ds) (λ p _. fewer-lost (next p) (asks p) (withdrawn (channel_no p) ds) (few p)) in
      omega (arith, withdrawals-paid rest, each)
  withdrawals-paid (by-silence rest) = omega (arith, withdrawals-paid rest)

  -- What is counted is at most what the number pays for, and one for each request that stood.
  pub count-bounded : {asks : Asks} {ds : List Deed} (begin left : ℕ) → Course asks ds →
      taken ds + left ≤ begin + given_back ds → count_of ds + left ≤ begin + c
  count-bounded {asks} {ds} begin left course paid =
      let few : sum c (lost asks ds) ≤ c =
      rw (sum_ones c) at (sum-le c (lost asks ds) (λ k. 1) (λ k _. one-most (asks k && withdrawn (channel_no k) ds))) in
      omega (arith, counted-undone ds, withdrawals-paid course, few)

-- the channels that ask in a state
abbrev pub asking-in : State → Asks
asking-in σ k = is_asking (σ.phase k)

-- channel k takes a phase that does not ask, or any: no other asks anew
turned-fewer : (σ : State) (k : ℕ) (f : Phase) → is_asking f ≡ false → Fewer (λ j. is_asking (upd k f σ.phase j)) (asking-in σ)
turned-fewer σ k f quiet =
    upd-at (λ j g. is_asking g ≡ true → is_asking (σ.phase j) ≡ true) k f σ.phase (λ h. both_ways h quiet) (λ j d h. h)

turned-but : (σ : State) (k : ℕ) (f : Phase) → FewerBut k (λ j. is_asking (upd k f σ.phase j)) (asking-in σ)
turned-but σ k f j d h = rw (upd_other k f σ.phase j d) at h

module _ (N : Net) {σ : State} {ds : List Deed} where
  pub course-did : {τ : State} {a : Call} {e : Event} → Course N.c (asking-in τ) ds → Did N σ a e τ →
      Course N.c (asking-in σ) (deed_of a ∷ ds)
  course-did rest (did-receive k l rests) = by-receive (channel_no k) l (turned-but σ k asking) rest
  course-did rest (did-offer k x l good bare busy) =
      by-step (upd-at (λ j g. is_asking g ≡ true → is_asking (σ.phase j) ≡ true) k (σ.phase k) σ.phase (λ h. h) (λ j d h. h)) rest
  course-did rest (did-answer k x l good is-ready) = by-step (turned-fewer σ k (answering x) refl) rest
  course-did rest (did-enter p k ks l first room) = by-step (λ j h. h) rest
  course-did rest (did-pass p k ks l first further apart room clear) = by-step (λ j h. h) rest
  course-did rest (did-ask p k ks l first asks arrives bare) = by-step (turned-fewer σ k ready refl) rest
  course-did rest (did-respond p k ks x l first asks arrives offer) = by-step (turned-fewer σ k (answering x) refl) rest
  course-did rest (did-deliver p k ks x l first answers arrives) = by-step (turned-fewer σ k resting refl) rest
  course-did rest (did-withdraw k l asks there) =
      let was : is_asking (σ.phase k) ≡ true = rw asks refl in
      let now : is_asking (upd k resting σ.phase k) ≡ false = rw (upd_same k resting σ.phase) refl in
      by-withdrawal (channel_no k) l was now (turned-but σ k resting) rest
