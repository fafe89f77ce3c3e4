-- From one call to a whole run: a number that pays one for every receive, send, entry and move, gets one back for every withdrawal, and is
-- at least 1 while record x is under way on channel m, pays for every list of calls that does not withdraw m. Beside it the order of the
-- records delivered. Assumes nothing but its parameters, which Demand gives.
use Prim.Native.Nat.{ℕ, ◌+◌, ◌≤◌}
use mathlib.Core.Path.{◌≡◌, refl, sym, ap, ◌∙◌}
use mathlib.Core.Logic.{◌⊎◌, inl, inr, ⊎_elim}
use mathlib.Core.Bool.{false}
use mathlib.Core.List.{List, [], ◌∷◌, ◌++◌, append_assoc, append-nil}
use native.Mathlib.Omega.{arith}
use Rattle.batch.specs.declared.BatchRecord.{BatchRecord}
use Rattle.numbers.specs.declared.ChannelNo.{ChannelNo}
use Rattle.network.specs.Calls.{Outcome}
use Rattle.network.specs.Runs.{Call, Deed, received, withdrew, stepped, silent, withdrawn, after, deed_by, offered_by, delivered_by, run, deeds, offered_on, delivered_on}
use Rattle.network.proofs.Theory.Count.{takes, gives_back, taken, given_back}

-- a call takes at most one
takes_one : (d : Deed) → takes d ≤ 1
takes_one (received k) = omega arith
takes_one (withdrew k) = omega arith
takes_one stepped = omega arith
takes_one silent = omega arith

-- Under s v: x is under way on channel m in the ring s, and the number that falls is v.
module _ {S : Type 0} (step : Call → S → Outcome S) (m : ChannelNo) (x : BatchRecord) (Under : S → ℕ → Type 0) where
  -- x stays under way on m, which is not withdrawn in what follows, ds, and the number pays for what the call takes
  pub record Stays (a : Call) (s : S) (v : ℕ) (ds : List Deed) : Type 0 where
    pub quiet : delivered_by m (step a s) ≡ []
    pub not-withdrawn : withdrawn m ds ≡ false
    pub now : ℕ
    pub under : Under (after s (step a s)) now
    pub cost : takes (deed_by a (step a s)) + now ≤ v + gives_back (deed_by a (step a s))

  -- a call that does not withdraw m delivers x on m, or x stays under way
  abbrev pub Falls : Type 0
  Falls =
      (a : Call) (s : S) (v : ℕ) (ds : List Deed) → Under s v → withdrawn m (deed_by a (step a s) ∷ ds) ≡ false →
      (delivered_by m (step a s) ≡ x ∷ []) ⊎ Stays a s v ds

  -- x is delivered on m by the calls up to some place, and v paid for them
  pub record Arrives (s : S) (v : ℕ) (calls : List Call) : Type 0 where
    pub up_to : List Call
    pub rest : List Call
    pub split : calls ≡ up_to ++ rest
    pub first : delivered_on step m up_to s ≡ x ∷ []
    pub paid : taken (deeds step up_to s) ≤ v + given_back (deeds step up_to s)

  -- nothing is delivered on m, x is under way still, and v paid for the calls
  pub record Travels (s : S) (v : ℕ) (calls : List Call) : Type 0 where
    pub none_yet : delivered_on step m calls s ≡ []
    pub left : ℕ
    pub still : Under (run step calls s) left
    pub paid : taken (deeds step calls s) + left ≤ v + given_back (deeds step calls s)

  module _ (falls : Falls) (some_left : (s : S) (v : ℕ) → Under s v → 1 ≤ v) where
    arrives-now : (a : Call) (calls : List Call) (s : S) (v : ℕ) → Under s v → delivered_by m (step a s) ≡ x ∷ [] → Arrives s v (a ∷ calls)
    arrives-now a calls s v u e =
        record {
          up_to = a ∷ [];
          rest = calls;
          split = refl;
          first = rw e;
          paid = omega (arith, takes_one (deed_by a (step a s)), some_left s v u);
        }

    module _ (a : Call) (calls : List Call) (s : S) (v : ℕ) (ds : List Deed) (stays : Stays a s v ds) where
      open stays use {quiet, now, cost}

      arrives-later : Arrives (after s (step a s)) now calls → Arrives s v (a ∷ calls)
      arrives-later r =
          record {
            up_to = a ∷ r.up_to;
            rest = r.rest;
            split = ap (λ l. a ∷ l) r.split;
            first = rw quiet r.first;
            paid = omega (arith, r.paid, cost);
          }

      travels-on : Travels (after s (step a s)) now calls → Travels s v (a ∷ calls)
      travels-on r = record { none_yet = rw quiet r.none_yet; left = r.left; still = r.still; paid = omega (arith, r.paid, cost) }

    pub every-run : (calls : List Call) (s : S) (v : ℕ) → Under s v → withdrawn m (deeds step calls s) ≡ false →
        Arrives s v calls ⊎ Travels s v calls
    every-run [] s v u still-on = inr (record { none_yet = refl; left = v; still = u; paid = omega arith })
    every-run (a ∷ calls) s v u still-on =
        let ds : List Deed = deeds step calls (after s (step a s)) in
        ⊎_elim (λ e. inl (arrives-now a calls s v u e))
        (λ g.
        ⊎_elim (λ r. inl (arrives-later a calls s v ds g r)) (λ r. inr (travels-on a calls s v ds g r))
        (every-run calls (after s (step a s)) g.now g.under g.not-withdrawn))
        (falls a s v ds u still-on)

-- Order: what is offered on channel k and not yet delivered is pending in the ring. Kept: what holds of every ring of the run.
module _ {S : Type 0} (step : Call → S → Outcome S) (k : ChannelNo) (Kept : S → Type 0) (pending : S → List BatchRecord)
    (keeps : (a : Call) (s : S) → Kept s → Kept (after s (step a s)))
    (balance : (a : Call) (s : S) → Kept s →
    pending s ++ offered_by k a (step a s) ≡ delivered_by k (step a s) ++ pending (after s (step a s))) where
  pub run-order : (calls : List Call) (s : S) → Kept s →
      pending s ++ offered_on step k calls s ≡ delivered_on step k calls s ++ pending (run step calls s)
  run-order [] s u = append-nil _
  run-order (a ∷ calls) s u =
      sym (append_assoc (pending s) (offered_by k a (step a s)) _)
      ∙ ap (λ l. l ++ offered_on step k calls (after s (step a s))) (balance a s u)
      ∙ append_assoc (delivered_by k (step a s)) _ _
      ∙ ap (λ l. delivered_by k (step a s) ++ l) (run-order calls (after s (step a s)) (keeps a s u))
      ∙ sym (append_assoc (delivered_by k (step a s)) _ _)
