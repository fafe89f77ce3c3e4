-- The dispatcher keeps what is promised (specs/Dispatch): of the ring apart from its layout, and so of whatever answers ring calls the same
-- way. What is left to do (Todo) pays for every accepted entry and move. If a round accepted nothing, the ring stayed as it was, so that
-- every entry and move was refused on it, against no stall; so a round with something on the ring takes at least one off.
use Prim.Native.Nat.{ℕ, zero, suc, ◌+◌, ◌≤◌, ◌<◌}
use mathlib.Core.Path.{◌≡◌, refl, sym, ap, subst, ◌∙◌}
use mathlib.Core.Logic.{⊎_elim}
use mathlib.Core.Bool.{Bool, true, false, false≢true, cond}
use mathlib.Core.List.{List, [], ◌∷◌, ◌++◌}
use native.Mathlib.Nat.{not-suc-le-zero}
use native.Mathlib.Omega.{arith}
use lib.ListN.{length, length-append}
use borrow.Author.Tests.{eqb-false}
use Rattle.numbers.specs.declared.ChannelNo.{ChannelNo}
use Rattle.network.specs.Counting.{one, times}
use Rattle.network.specs.Network.{Network, node_no, channel_no, count_of_nodes, count_of_channels, channel, moving}
use Rattle.network.specs.Sound.{Limits, sound}
use Rattle.network.specs.Calls.{Outcome, refused, accepted}
use Rattle.network.specs.Runs.{Call, enter, move, call, after, is_accepted, delivered_by, run, delivered_on}
use Rattle.network.specs.Layout.{ring_limits, view, fresh_ring, sound_ring, call_ring}
use Rattle.network.specs.Demand.{checked_call}
use Rattle.network.specs.Dispatch.{round, on_ring, still, handed_by, deliveries, rounds_made, spelled, Dispatches, DispatcherKeeps}
use Rattle.network.specs.Worked.Rounds.{NoneTooMany}
use Rattle.network.proofs.Ground.Splits.{by-test, by-same}
use Rattle.network.proofs.Ground.Counting.{sum-some, one-most}
use Rattle.network.proofs.Theory.Stall.{no-stall}
use Rattle.network.proofs.Theory.Todo.{goes, todo-most}
use Rattle.network.proofs.Lists.Tables.{net_of, state_of}
use Rattle.network.proofs.Lists.Clauses.{Started, sound-started}
use Rattle.network.proofs.Lists.Bridge.{enter-accepted, move-accepted}
use Rattle.network.proofs.Lists.Tries.{left, on-ring-few, went}
use Rattle.network.proofs.Promises.Machine.{Machine, run_sound, run-seen, deliveries-seen}
use Rattle.network.proofs.Promises.Demand.{machine, ring-machine}
use Rattle.network.proofs.Promises.Acts.{run-append, records-delivered}

-- lists of entries and moves

pub data Going : List Call → Type 0 where
  none-go : Going []
  go : {a : Call} {calls : List Call} → goes a ≡ true → Going calls → Going (a ∷ calls)

pub going-append : {xs ys : List Call} → Going xs → Going ys → Going (xs ++ ys)
going-append none-go b = b
going-append (go g a) b = go g (going-append a b)

pub going-round : (n : ℕ) → Going (round n)
going-round zero = none-go
going-round (suc n) = going-append (going-round n) (go refl (go refl none-go))

pub going-times : (m : ℕ) {calls : List Call} → Going calls → Going (times m calls)
going-times zero g = none-go
going-times (suc m) g = going-append g (going-times m g)

-- a call among others
data Among (a : Call) : List Call → Type 0 where
  first : {calls : List Call} → Among a (a ∷ calls)
  later : {b : Call} {calls : List Call} → Among a calls → Among a (b ∷ calls)

among-left : {a : Call} {xs : List Call} (ys : List Call) → Among a xs → Among a (xs ++ ys)
among-left ys first = first
among-left ys (later m) = later (among-left ys m)

among-right : {a : Call} (xs : List Call) {ys : List Call} → Among a ys → Among a (xs ++ ys)
among-right [] m = m
among-right (x ∷ xs) m = later (among-right xs m)

-- a round tries an entry and a move at every node
in-round : (n p : ℕ) → p < n → Among (enter (node_no p)) (round n) × Among (move (node_no p)) (round n)
in-round zero p l = absurd (not-suc-le-zero l)
in-round (suc n) p l =
    by-same p n
    (λ e. rw e (among-right (round n) first, among-right (round n) (later first)))
    (λ d. let r = in-round n p (omega arith) in (among-left _ r.0, among-left _ r.1))

refused-stays : (σ : Network) (o : Outcome Network) → one (is_accepted o) ≡ 0 → (is_accepted o ≡ false) × (after σ o ≡ σ)
refused-stays σ (refused r) e = (refl, refl)
refused-stays σ (accepted e t) some = absurd (omega (arith, some))

is_one : (b : Bool) → 1 ≤ one b → b ≡ true
is_one true l = refl
is_one false l = absurd (omega arith)

module _ (L : Limits) where
  -- how many calls of a list are accepted
  abbrev accepted_in : List Call → Network → ℕ
  accepted_in [] σ = 0
  accepted_in (a ∷ calls) σ = one (is_accepted (call L a σ)) + accepted_in calls (after σ (call L a σ))

  -- what a list of entries and moves leaves
  record Gone (calls : List Call) (σ : Network) : Type 0 where
    started : Started L (run (call L) calls σ)
    same-net : net_of (run (call L) calls σ) ≡ net_of σ
    less : accepted_in calls σ + left (run (call L) calls σ) ≤ left σ
    fewer : length (deliveries (call L) calls σ) + on_ring (run (call L) calls σ) ≤ on_ring σ
    fewer-on : (k : ChannelNo) →
        length (delivered_on (call L) k calls σ) + one (moving (channel (run (call L) calls σ) k).phase) ≤ one (moving (channel σ k).phase)

  all-gone : {calls : List Call} (σ : Network) → Started L σ → Going calls → Gone calls σ
  all-gone σ s none-go =
      record { started = s; same-net = refl; less = omega arith; fewer = omega arith; fewer-on = λ k. omega arith }
  all-gone σ s (go {a} {calls} g rest) =
      let now = went L σ s a g in
      let τ : Network = after σ (call L a σ) in
      let then = all-gone τ now.started rest in
      record {
        started = then.started;
        same-net = then.same-net ∙ now.same-net;
        less = omega (arith, now.less, then.less);
        fewer = omega (arith, now.fewer, then.fewer, length-append (handed_by (call L a σ)) (deliveries (call L) calls τ));
        fewer-on = λ k.
            omega (arith, now.fewer-on k, then.fewer-on k, length-append (delivered_by k (call L a σ)) (delivered_on (call L) k calls τ));
      }

  -- where none is accepted, each was refused on the ring as it stood
  all-refused : {a : Call} (calls : List Call) (σ : Network) → accepted_in calls σ ≡ 0 → Among a calls → is_accepted (call L a σ) ≡ false
  all-refused {a} [] σ none_in m = elim m [ ]
  all-refused (b ∷ calls) σ none_in first = (refused-stays σ (call L b σ) (omega arith)).0
  all-refused {a} (b ∷ calls) σ none_in (later m) =
      let here = refused-stays σ (call L b σ) (omega arith) in
      subst (λ τ. is_accepted (call L a τ) ≡ false) here.1 (all-refused calls (after σ (call L b σ)) (omega arith) m)

  -- a round on a ring, and the ring after it
  abbrev tries : Network → List Call
  tries σ = round (count_of_nodes σ)

  abbrev next : Network → Network
  next σ = run (call L) (tries σ) σ

  module _ (σ : Network) (s : Started L σ) where
    -- with something on the ring, it accepts an entry or a move
    round-accepts : still σ ≡ false → 1 ≤ accepted_in (tries σ) σ
    round-accepts busy =
        by-same (accepted_in (tries σ) σ) 0
        (λ none_in.
        let some-on : 1 ≤ on_ring σ = omega (arith, eqb-false (on_ring σ) 0 busy) in
        let k = sum-some (count_of_channels σ) (λ j. one (moving (channel σ (channel_no j)).phase)) some-on in
        let on : moving (channel σ (channel_no k.0)).phase ≡ true = is_one _ k.2 in
        let at = no-stall (net_of σ) (state_of σ) k.0 s.tables k.1 on in
        let tried = in-round (count_of_nodes σ) at.0 at.1 in
        absurd (⊎_elim
        (λ e. false≢true (sym (all-refused (tries σ) σ none_in tried.0) ∙ enter-accepted L σ s (node_no at.0) at.1 e))
        (λ m. false≢true (sym (all-refused (tries σ) σ none_in tried.1) ∙ move-accepted L σ s (node_no at.0) at.1 m))
        at.2))
        (λ some_in. omega arith)

    round-gone : Gone (tries σ) σ
    round-gone = all-gone σ s (going-round (count_of_nodes σ))

    -- so less is left to do
    next-less : still σ ≡ false → left (next σ) < left σ
    next-less busy = omega (arith, round-accepts busy, round-gone.less)

  abbrev made : ℕ → Network → ℕ
  made given σ = rounds_made (sound L) (λ τ. τ) (call L) given σ

  abbrev in_full : ℕ → Network → List Call
  in_full given σ = spelled (sound L) (λ τ. τ) (call L) given σ

  abbrev end : ℕ → Network → Network
  end given σ = run (call L) (in_full given σ) σ

  -- one round more, where something is on the ring
  module _ (given : ℕ) (σ : Network) (s : Started L σ) (busy : still σ ≡ false) where
    made_more : made (suc given) σ ≡ suc (made given (next σ))
    made_more = rw busy

    end_more : end (suc given) σ ≡ end given (next σ)
    end_more =
        let same : count_of_nodes (next σ) ≡ count_of_nodes σ = ap (λ N. N.n) (round-gone σ s).same-net in
        ap (λ m. run (call L) (times m (tries σ)) σ) made_more
        ∙ run-append (call L) (tries σ) (times (made given (next σ)) (tries σ)) σ
        ∙ ap (λ n. run (call L) (times (made given (next σ)) (round n)) (next σ)) (sym same)

  -- where nothing is on the ring, no round is made
  end-still : (given : ℕ) (σ : Network) → still σ ≡ true → still (end given σ) ≡ true
  end-still zero σ none-on = none-on
  end-still (suc given) σ none-on = rw none-on none-on

  -- as many rounds as there is left to do leave nothing on the ring
  drained : (given : ℕ) (σ : Network) → Started L σ → left σ ≤ given → still (end given σ) ≡ true
  drained zero σ s few = by-test (still σ) (λ none-on. none-on) (λ busy. absurd (omega (arith, next-less σ s busy)))
  drained (suc given) σ s few =
      by-test (still σ) (end-still (suc given) σ)
      (λ busy.
      rw (end_more given σ s busy) (drained given (next σ) (round-gone σ s).started (omega (arith, next-less σ s busy))))

  ends-early : (given : ℕ) (σ : Network) → Started L σ → made given σ < given → still (end given σ) ≡ true
  ends-early zero σ s l = absurd (not-suc-le-zero l)
  ends-early (suc given) σ s l =
      by-test (still σ) (end-still (suc given) σ)
      (λ busy.
      rw (end_more given σ s busy) (ends-early given (next σ) (round-gone σ s).started (omega (arith, made_more given σ s busy))))

  made-most : (given : ℕ) (σ : Network) → made given σ ≤ given
  made-most zero σ = omega arith
  made-most (suc given) σ =
      by-test (still σ) (λ e. rw e (omega arith))
      (λ busy. rw busy (omega (arith, made-most given (next σ))))

  -- where a round is made, something is on the ring
  made-busy : (given : ℕ) (σ : Network) → 1 ≤ made given σ → still σ ≡ false
  made-busy zero σ some-made = absurd (not-suc-le-zero some-made)
  made-busy (suc given) σ some-made = by-test (still σ) (λ none-on. absurd (not-suc-le-zero (rw none-on at some-made))) (λ busy. busy)

  none-too-many : (given fewer : ℕ) (σ : Network) → Started L σ → fewer < made given σ →
      (made fewer σ ≡ fewer) × (still (end fewer σ) ≡ false)
  none-too-many given zero σ s l = (refl, made-busy given σ l)
  none-too-many zero (suc fewer) σ s l = absurd (not-suc-le-zero l)
  none-too-many (suc given) (suc fewer) σ s l =
      let busy : still σ ≡ false = made-busy (suc given) σ (omega arith) in
      let then = none-too-many given fewer (next σ) (round-gone σ s).started (omega (arith, made_more given σ s busy)) in
      (made_more fewer σ s busy ∙ ap suc then.0, rw (end_more fewer σ s busy) then.1)

  dispatches : (given : ℕ) (σ : Network) → Started L σ → Dispatches (sound L) (λ τ. τ) (call L) given σ
  dispatches given σ s =
      let calls : List Call = in_full given σ in
      let gone = all-gone σ s (going-times (made given σ) (going-round (count_of_nodes σ))) in
      record {
        empties = λ enough. drained given σ s (omega (arith, todo-most (net_of σ) s.tables));
        ends-early = ends-early given σ s;
        made-most = made-most given σ;
        once-each = λ k.
            rw (records-delivered (call L) k calls σ) (omega (arith, gone.fewer-on k, one-most (moving (channel σ k).phase)));
        few = omega (arith, gone.fewer, on-ring-few σ);
      }

-- whatever answers as the ring that it holds makes the same rounds, with the same calls and deliveries
module _ (L : Limits) {S : Type 0} (fresh : S) (sound' : S → Bool) (seen : S → Network) (step : Call → S → Outcome S)
    (M : Machine L fresh sound' seen step) where
  pub rounds-seen : (given : ℕ) (s : S) → sound' s ≡ true →
      rounds_made sound' seen step given s ≡ rounds_made (sound L) (λ τ. τ) (call L) given (seen s)
  rounds-seen zero s ok = refl
  rounds-seen (suc given) s ok =
      let calls : List Call = round (count_of_nodes (seen s)) in
      ap (λ m. cond (still (seen s)) 0 (suc m))
      (rounds-seen given (run step calls s) (run_sound L fresh sound' seen step M calls s ok)
      ∙ ap (rounds_made (sound L) (λ τ. τ) (call L) given) (run-seen L fresh sound' seen step M calls s ok))

  pub spelled-seen : (given : ℕ) (s : S) → sound' s ≡ true →
      spelled sound' seen step given s ≡ spelled (sound L) (λ τ. τ) (call L) given (seen s)
  spelled-seen given s ok = ap (λ m. times m (round (count_of_nodes (seen s)))) (rounds-seen given s ok)

  -- the ring that is left, and the deliveries
  pub end_seen : (given : ℕ) (s : S) → sound' s ≡ true →
      seen (run step (spelled sound' seen step given s) s)
      ≡ run (call L) (spelled (sound L) (λ τ. τ) (call L) given (seen s)) (seen s)
  end_seen given s ok =
      run-seen L fresh sound' seen step M (spelled sound' seen step given s) s ok
      ∙ ap (λ calls. run (call L) calls (seen s)) (spelled-seen given s ok)

  pub handed-out-seen : (given : ℕ) (s : S) → sound' s ≡ true →
      deliveries step (spelled sound' seen step given s) s
      ≡ deliveries (call L) (spelled (sound L) (λ τ. τ) (call L) given (seen s)) (seen s)
  handed-out-seen given s ok =
      deliveries-seen L fresh sound' seen step M (spelled sound' seen step given s) s ok
      ∙ ap (λ calls. deliveries (call L) calls (seen s)) (spelled-seen given s ok)

  started-there : (s : S) → sound' s ≡ true → (seen s).started ≡ true → Started L (seen s)
  started-there s ok on = sound-started L (seen s) (M.seen-sound s ok) on

  pub machine-keeps : DispatcherKeeps sound' seen step
  machine-keeps given s ok on =
      let d = dispatches L given (seen s) (started-there s ok on) in
      let rounds = rounds-seen given s ok in
      record {
        empties = λ enough. ap still (end_seen given s ok) ∙ d.empties enough;
        ends-early = λ l. ap still (end_seen given s ok) ∙ d.ends-early (rw rounds at l);
        made-most = rw rounds d.made-most;
        once-each = λ k. rw (handed-out-seen given s ok) (d.once-each k);
        few = rw (handed-out-seen given s ok) d.few;
      }

  pub machine-none-too-many : NoneTooMany fresh sound' seen step
  machine-none-too-many given fewer s ok on l =
      let r = none-too-many L given fewer (seen s) (started-there s ok on) (rw (rounds-seen given s ok) at l) in
      (rounds-seen fewer s ok ∙ r.0, ap still (end_seen fewer s ok) ∙ r.1)

-- for every size of ring, and for the ring in memory

pub dispatcher-keeps : (L : Limits) → DispatcherKeeps (sound L) (λ σ. σ) (checked_call L)
dispatcher-keeps L = machine-keeps L _ (sound L) (λ σ. σ) (checked_call L) (machine L)

pub ring-dispatcher-keeps : DispatcherKeeps sound_ring view call_ring
ring-dispatcher-keeps = machine-keeps ring_limits fresh_ring sound_ring view call_ring ring-machine
