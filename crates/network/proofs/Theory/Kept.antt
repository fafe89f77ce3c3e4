-- Theory. Every accepted receive, send, enter, move and withdraw keeps a sound started ring sound. A step is taken apart into changes of one
-- table, each of which keeps all clauses but `once` (Fit). Between them the channel at work stands nowhere (Off): then its phase may change,
-- and its message may come back at a fit place.
use Prim.Native.Nat.{ℕ, suc, ◌+◌, ◌≤◌, ◌<◌}
use mathlib.Core.Path.{◌≡◌, refl, sym, ap, ◌∙◌}
use mathlib.Core.Logic.{◌≢◌}
use mathlib.Core.Bool.{Bool, true, false, false≢true, ◌&&◌, ◌||◌}
use mathlib.Core.List.{List, [], ◌∷◌, ◌++◌}
use mathlib.Core.Option.{Option, none, some}
use native.Mathlib.Omega.{arith}
use lib.Dec.{eqb}
use lib.ListN.{length}
use Rattle.batch.specs.declared.BatchRecord.{BatchRecord}
use Rattle.batch.specs.Good.{good_record}
use Rattle.hops.specs.Hops.{hops, next}
use Rattle.network.specs.Counting.{one, count, occupied}
use Rattle.network.specs.Network.{Phase, resting, asking, ready, answering, moving, from_end}
use Rattle.network.specs.Sound.{is_ready, good_offer, good_carried}
use Rattle.network.specs.Calls.{Event}
use Rattle.network.specs.Runs.{Call}
use Rattle.network.proofs.Ground.Splits.{by-same, by-test, and_left, and_right}
use Rattle.network.proofs.Ground.Counting.{sum-term, count_same, count-other, length-snoc, occupied-split, one-most}
use Rattle.network.proofs.Ground.Without.{weigh-without}
use Rattle.hops.proofs.Laws.{hops-step, next-below}
use Rattle.network.proofs.Theory.State.{Net, State, Sound, Did, upd, upd_same, upd_other, upd-at, turn, join, pop, push, pass, without, pull, here, entry_in, target_in, ends-below, did-receive, did-offer, did-answer, did-enter, did-pass, did-ask, did-respond, did-deliver, did-withdraw}
use Rattle.network.proofs.Theory.Load.{with_buffer, with_line, with_mark, standing, count-cons, count-snoc, count-apart, load-pop, load-pull, load-join, load-pass, load-push}

-- lists of channels

-- every channel that stands in a list has P
abbrev pub Every : (ℕ → Type 0) → List ℕ → Type 0
Every P xs = (k : ℕ) → 0 < count k xs → P k

module _ {P : ℕ → Type 0} (k : ℕ) {xs ks : List ℕ} (e : xs ≡ k ∷ ks) (every : Every P xs) where
  pub every_first : P k
  every_first = every k (rw e (omega (arith, count-cons k k ks, count_same k)))

  pub every_rest : Every P ks
  every_rest j l = every j (rw e (omega (arith, count-cons j k ks)))

pub every-snoc : {P : ℕ → Type 0} (k : ℕ) (xs : List ℕ) → P k → Every P xs → Every P (xs ++ (k ∷ []))
every-snoc k xs last every j l =
    by-same k j (λ e. rw e at last) (λ d. every j (omega (arith, count-snoc j k xs, count-other k j d)))

module _ (N : Net) where
  open N use {n, c, slots, sender, receiver}

  -- where a channel in phase f may stand: in which buffers, in which line
  abbrev pub MayPass : Phase → ℕ → ℕ → Type 0
  MayPass f p k = (k < c) × (hops n p (target_in N f k) ≤ hops n (entry_in N f k) (target_in N f k))

  abbrev pub MayWait : Phase → ℕ → ℕ → Type 0
  MayWait f p k = (k < c) × (p ≡ entry_in N f k)

  -- all that stand in xs may stand so at p, in the phases that they have in σ
  abbrev pub AllPass : State → ℕ → List ℕ → Type 0
  AllPass σ p xs = Every (λ k. MayPass (σ.phase k) p k) xs

  abbrev pub AllWait : State → ℕ → List ℕ → Type 0
  AllWait σ p xs = Every (λ k. MayWait (σ.phase k) p k) xs

  -- a channel may have phase f and offer o
  pub record Good (f : Phase) (o : Option BatchRecord) : Type 0 where
    pub bare : f ≡ ready → o ≡ none
    pub offer : good_offer o ≡ true
    pub carried : good_carried f ≡ true

  good-bare : {f : Phase} → good_carried f ≡ true → Good f none
  good-bare carried = record { bare = λ _. refl; offer = refl; carried = carried }

  pub good-unready : {f : Phase} {o : Option BatchRecord} → is_ready f ≡ false → good_offer o ≡ true → good_carried f ≡ true → Good f o
  good-unready unready offer carried =
      record { bare = λ e. absurd (false≢true (sym unready ∙ ap is_ready e)); offer = offer; carried = carried }

  -- the clauses of a sound ring that a step can touch, but for `once`
  pub record Fit (σ : State) : Type 0 where
    pub fits : (p : ℕ) → p < n → length (σ.buffer p) ≤ slots p
    pub in-buffer : (p : ℕ) → p < n → AllPass σ p (σ.buffer p)
    pub in-line : (p : ℕ) → p < n → AllWait σ p (σ.line p)
    pub marked : (p : ℕ) → p < n → σ.mark p ≡ true → occupied (σ.line p) ≡ true
    pub good : (k : ℕ) → k < c → Good (σ.phase k) (σ.offer k)

  good_of : {σ : State} → Sound N σ → (k : ℕ) → k < c → Good (σ.phase k) (σ.offer k)
  good_of s k l = record { bare = s.ready-bare k l; offer = s.good-offer k l; carried = s.good-carried k l }

  pub fit_of : {σ : State} → Sound N σ → Fit σ
  fit_of s =
      record { fits = s.fits; in-buffer = s.in-buffer; in-line = s.in-line; marked = s.marked; good = good_of s }

  -- what the plan gives comes from any ring that was sound
  sound-again : {σ τ : State} → Sound N σ → Fit τ → ((k : ℕ) → k < c → here N τ k ≡ one (moving (τ.phase k))) → Sound N τ
  sound-again s t once =
      record {
        sender-below = s.sender-below;
        receiver-below = s.receiver-below;
        some-slot = s.some-slot;
        fits = t.fits;
        once = once;
        in-buffer = t.in-buffer;
        in-line = t.in-line;
        marked = t.marked;
        ready-bare = λ k l. (t.good k l).bare;
        good-offer = λ k l. (t.good k l).offer;
        good-carried = λ k l. (t.good k l).carried;
        more-slots = s.more-slots;
      }

  -- one table changes

  fit-buffer : {σ : State} → Fit σ → (p : ℕ) (xs : List ℕ) → length xs ≤ slots p →
      AllPass σ p xs → Fit (with_buffer p xs σ)
  fit-buffer {σ} t p xs room every =
      record {
        fits = upd-at (λ q ys. q < n → length ys ≤ slots q) p xs σ.buffer (λ _. room) (λ q _. t.fits q);
        in-buffer =
            upd-at (λ q ys. q < n → AllPass σ q ys) p xs σ.buffer (λ _. every) (λ q _. t.in-buffer q);
        in-line = t.in-line;
        marked = t.marked;
        good = t.good;
      }

  pub fit_line : {σ : State} → Fit σ → (p : ℕ) (xs : List ℕ) → AllWait σ p xs →
      (σ.mark p ≡ true → occupied xs ≡ true) → Fit (with_line p xs σ)
  fit_line {σ} t p xs every mark =
      record {
        fits = t.fits;
        in-buffer = t.in-buffer;
        in-line =
            upd-at (λ q ys. q < n → AllWait σ q ys) p xs σ.line (λ _. every) (λ q _. t.in-line q);
        marked =
            upd-at (λ q ys. q < n → σ.mark q ≡ true → occupied ys ≡ true) p xs σ.line (λ _. mark) (λ q _. t.marked q);
        good = t.good;
      }

  pub fit-mark : {σ : State} → Fit σ → (p : ℕ) (b : Bool) → (b ≡ true → occupied (σ.line p) ≡ true) → Fit (with_mark p b σ)
  fit-mark {σ} t p b mark =
      record {
        fits = t.fits;
        in-buffer = t.in-buffer;
        in-line = t.in-line;
        marked =
            upd-at (λ q a. q < n → a ≡ true → occupied (σ.line q) ≡ true) p b σ.mark (λ _. mark) (λ q _. t.marked q);
        good = t.good;
      }

  fit-turn : {σ : State} → Fit σ → (k : ℕ) (f : Phase) (o : Option BatchRecord) → Good f o →
      ((p : ℕ) → p < n → 0 < count k (σ.buffer p) → MayPass f p k) →
      ((p : ℕ) → p < n → 0 < count k (σ.line p) → MayWait f p k) → Fit (turn k f o σ)
  fit-turn {σ} t k f o good pass wait =
      record {
        fits = t.fits;
        in-buffer =
            λ p l.
            upd-at (λ j g. 0 < count j (σ.buffer p) → MayPass g p j) k f σ.phase (pass p l) (λ j _. t.in-buffer p l j);
        in-line =
            λ p l.
            upd-at (λ j g. 0 < count j (σ.line p) → MayWait g p j) k f σ.phase (wait p l) (λ j _. t.in-line p l j);
        marked = t.marked;
        good =
            upd-at (λ j g. j < c → Good g (upd k o σ.offer j)) k f σ.phase (λ _. rw (upd_same k o σ.offer) good)
            (λ j d. rw (upd_other k o σ.offer j d) (t.good j));
      }

  -- the ring is sound but for channel k, which stands nowhere
  pub record Off (k : ℕ) (σ : State) : Type 0 where
    pub fit : Fit σ
    pub nowhere : here N σ k ≡ 0
    pub others : (j : ℕ) → j < c → j ≢ k → here N σ j ≡ one (moving (σ.phase j))

  off-still : {σ : State} → Sound N σ → (k : ℕ) → k < c → moving (σ.phase k) ≡ false → Off k σ
  off-still s k l still = record { fit = fit_of s; nowhere = rw still at (s.once k l); others = λ j m _. s.once j m }

  module _ {σ : State} (s : Sound N σ) (p k : ℕ) (ks : List ℕ) (l : p < n) (e : σ.buffer p ≡ k ∷ ks) where
    pub first_passes : MayPass (σ.phase k) p k
    first_passes = every_first k e (s.in-buffer p l)

    fit-pop : Fit (pop p ks σ)
    fit-pop =
        let room : suc (length ks) ≤ slots p = rw (ap length e) at (s.fits p l) in
        fit-buffer (fit_of s) p ks (omega arith) (every_rest k e (s.in-buffer p l))

    here-pop : (j : ℕ) → here N (pop p ks σ) j + one (eqb k j) ≡ here N σ j
    here-pop j = load-pop N (standing j) σ p l k ks e

    -- the first of a buffer is under way
    pub first-moving : moving (σ.phase k) ≡ true
    first-moving =
        by-test (moving (σ.phase k)) (λ m. m)
        (λ m. absurd (omega (arith, here-pop k, count_same k, s.once k first_passes.0, ap one m)))

    -- it stands nowhere else, so taken out it stands nowhere
    pub off-pop : Off k (pop p ks σ)
    off-pop =
        record {
          fit = fit-pop;
          nowhere = omega (arith, here-pop k, s.once k first_passes.0, one-most (moving (σ.phase k)), count_same k);
          others = λ j m d. omega (arith, here-pop j, s.once j m, count-apart j k d);
        }

    -- passing on, it comes a hop nearer to its target
    kept-pass : next n p ≢ target_in N (σ.phase k) k → next n p ≢ p → length (σ.buffer (next n p)) < slots (next n p) →
        Sound N (pass (next n p) k (pop p ks σ))
    kept-pass not_there apart room =
        let q : ℕ = next n p in
        let m : q < n = next-below n p l in
        let target : ℕ = target_in N (σ.phase k) k in
        let nearer : hops n p target ≡ suc (hops n q target) =
        hops-step n p target l (ends-below N s k first_passes.0 (σ.phase k)).1 not_there in
        let xs : List ℕ = upd p ks σ.buffer q in
        let same : xs ≡ σ.buffer q = upd_other p ks σ.buffer q apart in
        let b : Bool = σ.mark q || occupied (σ.line q) in
        let set : Fit (with_mark q b (pop p ks σ)) =
        fit-mark fit-pop q b (λ h. by-test (σ.mark q) (s.marked q m) (λ clear. rw clear at h)) in
        sound-again s
        (fit-buffer set q (xs ++ (k ∷ [])) (omega (arith, length-snoc xs k, ap length same))
        (every-snoc k xs (first_passes.0, omega (arith, nearer, first_passes.1)) (fit-pop.in-buffer q m)))
        (λ j i. omega (arith, here-pop j, load-pass N (standing j) (pop p ks σ) q m k, s.once j i))

  -- a channel that stands in a line stands nowhere else, so taken out it stands nowhere
  module _ {σ : State} (s : Sound N σ) (p k : ℕ) (l : p < n) (there : 0 < count k (σ.line p)) where
    known : k < c
    known = (s.in-line p l k there).0

    here-pull : (j : ℕ) → here N (pull p k σ) j + one (eqb k j) ≡ here N σ j
    here-pull j = load-pull N (standing j) σ p l k there

    off-pull : Off k (pull p k σ)
    off-pull =
        let xs : List ℕ = without k (σ.line p) in
        let b : Bool = σ.mark p && occupied xs in
        let cleared : Fit (with_mark p b σ) = fit-mark (fit_of s) p b (λ h. s.marked p l (and_left (σ.mark p) (occupied xs) h)) in
        record {
          fit = fit_line cleared p xs (λ j i. s.in-line p l j (omega (arith, weigh-without k (λ x. one (eqb x j)) (σ.line p) there)))
              (λ h. and_right (σ.mark p) (occupied xs) (rw (upd_same p b σ.mark) at h));
          nowhere = omega (arith, here-pull k, s.once k known, one-most (moving (σ.phase k)), count_same k);
          others = λ j i d. omega (arith, here-pull j, s.once j i, count-apart j k d);
        }

  -- a channel that stands nowhere may take any phase
  module _ {σ₀ σ : State} (s : Sound N σ₀) {k : ℕ} (off : Off k σ) (f : Phase) (o : Option BatchRecord) (good : Good f o) where
    fit-off : Fit (turn k f o σ)
    fit-off =
        let none-at : (p : ℕ) → p < n → count k (σ.buffer p) + count k (σ.line p) ≤ 0 =
        λ p l. rw off.nowhere at (sum-term n p (λ q. count k (σ.buffer q) + count k (σ.line q)) l) in
        fit-turn off.fit k f o good (λ p l h. absurd (omega (arith, none-at p l)))
        (λ p l h. absurd (omega (arith, none-at p l)))

    -- with no message
    pub put-by : moving f ≡ false → Sound N (turn k f o σ)
    put-by still =
        sound-again s fit-off
        (upd-at (λ j g. j < c → here N σ j ≡ one (moving g)) k f σ.phase (λ _. rw still off.nowhere)
        (λ j d m. off.others j m d))

    -- with a message that joins the line where it enters
    put_in : k < c → moving f ≡ true → Sound N (join (entry_in N f k) k (turn k f o σ))
    put_in l goes =
        let p : ℕ = entry_in N f k in
        let m : p < n = (ends-below N s k l f).0 in
        let more : (j : ℕ) → here N (join p k σ) j ≡ here N σ j + one (eqb k j) = λ j. load-join N (standing j) σ p m k in
        sound-again s
        (fit_line fit-off p (σ.line p ++ (k ∷ []))
        (every-snoc k (σ.line p) (l, rw (upd_same k f σ.phase)) (fit-off.in-line p m))
        (λ _. occupied-split (σ.line p) k []))
        (upd-at (λ j g. j < c → here N (join p k σ) j ≡ one (moving g)) k f σ.phase
        (λ _. rw goes (omega (arith, more k, off.nowhere, count_same k)))
        (λ j d i. omega (arith, more j, off.others j i d, count-apart j k d)))

  -- a channel may have other good records: its message, going the same way, may stand where it stands
  pub kept-records : {σ : State} → Sound N σ → (k : ℕ) (f : Phase) (o : Option BatchRecord) → Good f o →
      ((a b : ℕ) → from_end f a b ≡ from_end (σ.phase k) a b) → moving f ≡ moving (σ.phase k) → Sound N (turn k f o σ)
  kept-records {σ} s k f o good way goes =
      sound-again s
      (fit-turn (fit_of s) k f o good
      (λ p m h. rw (way (sender k) (receiver k), way (receiver k) (sender k)) (s.in-buffer p m k h))
      (λ p m h. rw (way (sender k) (receiver k)) (s.in-line p m k h)))
      (upd-at (λ j g. j < c → here N σ j ≡ one (moving g)) k f σ.phase (λ l. rw goes (s.once k l)) (λ j _. s.once j))

  pub kept-offer : {σ : State} → Sound N σ → (k : ℕ) (x : BatchRecord) → k < c → good_record x ≡ true → is_ready (σ.phase k) ≡ false →
      Sound N (turn k (σ.phase k) (some x) σ)
  kept-offer {σ} s k x l good unready =
      kept-records s k (σ.phase k) (some x) (good-unready unready good (s.good-carried k l)) (λ _ _. refl) refl

  -- the first of a line enters where it may enter, its whole way before it
  kept-enter : {σ : State} → Sound N σ → (p k : ℕ) (ks : List ℕ) → p < n → σ.line p ≡ k ∷ ks → length (σ.buffer p) < slots p →
      Sound N (push p k ks σ)
  kept-enter {σ} s p k ks l e room =
      let own : MayWait (σ.phase k) p k = every_first k e (s.in-line p l) in
      let target : ℕ = target_in N (σ.phase k) k in
      let whole : hops n p target ≡ hops n (entry_in N (σ.phase k) k) target = ap (λ q. hops n q target) own.1 in
      let clear : Fit (with_mark p false σ) = fit-mark (fit_of s) p false (λ h. absurd (false≢true h)) in
      let left : Fit (with_line p ks (with_mark p false σ)) =
      fit_line clear p ks (every_rest k e (s.in-line p l)) (λ h. absurd (false≢true (rw (upd_same p false σ.mark) at h))) in
      sound-again s
      (fit-buffer left p (σ.buffer p ++ (k ∷ [])) (omega (arith, length-snoc (σ.buffer p) k))
      (every-snoc k (σ.buffer p) (own.0, omega (arith, whole)) (s.in-buffer p l)))
      (λ j m. load-push N (standing j) σ p l k ks e ∙ s.once j m)

  pub kept : {σ τ : State} {a : Call} {e : Event} → Sound N σ → Did N σ a e τ → Sound N τ
  kept {σ} s (did-receive k l e) =
      put_in s (off-still s k l (rw e)) asking (σ.offer k) (good-unready refl (s.good-offer k l) refl) l refl
  kept s (did-offer k x l g _ e) = kept-offer s k x l g e
  kept s (did-answer k x l g e) = put_in s (off-still s k l (rw e)) (answering x) none (good-bare g) l refl
  kept s (did-enter p k ks l e room) = kept-enter s p k ks l e room
  kept s (did-pass p k ks l e d apart room _) = kept-pass s p k ks l e d apart room
  kept s (did-ask p k ks l e _ _ _) = put-by s (off-pop s p k ks l e) ready none (good-bare refl) refl
  kept s (did-respond p k ks x l e _ _ o) =
      let known : k < c = (first_passes s p k ks l e).0 in
      put_in s (off-pop s p k ks l e) (answering x) none (good-bare (rw o at (s.good-offer k known))) known refl
  kept {σ} s (did-deliver p k ks x l e _ _) =
      let known : k < c = (first_passes s p k ks l e).0 in
      put-by s (off-pop s p k ks l e) resting (σ.offer k) (good-unready refl (s.good-offer k known) refl) refl
  kept {σ} s (did-withdraw k l _ there) =
      put-by s (off-pull s (receiver k) k (s.receiver-below k l) there) resting (σ.offer k) (good-unready refl (s.good-offer k l) refl) refl
