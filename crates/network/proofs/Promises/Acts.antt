-- Lists of acts are the single calls that they stand for (specs/Dispatch): runs and deliveries one after the other are those of the joined
-- lists, so the ring and the deliveries are the same.
use mathlib.Core.Path.{◌≡◌, refl, sym, ap, ◌∙◌}
use mathlib.Core.Bool.{Bool}
use mathlib.Core.List.{List, [], ◌∷◌, ◌++◌, append_assoc, append-nil}
use mathlib.Core.Option.{some}
use Rattle.numbers.specs.declared.ChannelNo.{ChannelNo}
use Rattle.network.specs.Network.{Network}
use Rattle.network.specs.Calls.{done, delivered, hops_are, waiting_are, Delivery, Outcome, refused, accepted}
use Rattle.network.specs.Runs.{Call, record_on, after, delivered_by, run, delivered_on}
use Rattle.network.specs.Dispatch.{handed_by, records_on, deliveries, Act, single, dispatch, after_act, run_acts, act_hands, act_deliveries, stands_for, spelled_out, Spelled}
use Rattle.network.proofs.Ground.Splits.{by-test}

-- the records on a channel among deliveries one after the other, and in one outcome
records-append : (k : ChannelNo) (xs ys : List Delivery) → records_on k (xs ++ ys) ≡ records_on k xs ++ records_on k ys
records-append k [] ys = refl
records-append k (d ∷ xs) ys =
    ap (λ l. record_on k (some d) ++ l) (records-append k xs ys) ∙ sym (append_assoc (record_on k (some d)) (records_on k xs) (records_on k ys))

records-handed : {S : Type 0} (k : ChannelNo) (o : Outcome S) → records_on k (handed_by o) ≡ delivered_by k o
records-handed k (refused r) = refl
records-handed k (accepted done s) = refl
records-handed k (accepted (delivered j x) s) = append-nil _
records-handed k (accepted (hops_are h) s) = refl
records-handed k (accepted (waiting_are w) s) = refl

module _ {S : Type 0} (step : Call → S → Outcome S) where
  -- a run after a run
  pub run-append : (xs ys : List Call) (s : S) → run step (xs ++ ys) s ≡ run step ys (run step xs s)
  run-append [] ys s = refl
  run-append (a ∷ xs) ys s = run-append xs ys (after s (step a s))

  pub deliveries-append : (xs ys : List Call) (s : S) → deliveries step (xs ++ ys) s ≡ deliveries step xs s ++ deliveries step ys (run step xs s)
  deliveries-append [] ys s = refl
  deliveries-append (a ∷ xs) ys s =
      ap (λ l. handed_by (step a s) ++ l) (deliveries-append xs ys (after s (step a s))) ∙ sym (append_assoc (handed_by (step a s)) _ _)

  -- what is delivered on a channel is what stands on it among the deliveries
  pub records-delivered : (k : ChannelNo) (calls : List Call) (s : S) → records_on k (deliveries step calls s) ≡ delivered_on step k calls s
  records-delivered k [] s = refl
  records-delivered k (a ∷ calls) s =
      records-append k (handed_by (step a s)) (deliveries step calls (after s (step a s)))
      ∙ ap (λ l. l ++ records_on k (deliveries step calls (after s (step a s)))) (records-handed k (step a s))
      ∙ ap (λ l. delivered_by k (step a s) ++ l) (records-delivered k calls (after s (step a s)))

-- S, sound, seen, step: as in Demand
module _ {S : Type 0} (sound : S → Bool) (seen : S → Network) (step : Call → S → Outcome S) where
  -- one act
  pub act-ring : (a : Act) (s : S) → after_act sound seen step a s ≡ run step (stands_for sound seen step a s) s
  act-ring (single a) s = refl
  act-ring (dispatch given) s =
      by-test (sound s) (λ ok. by-test (seen s).started (λ on. rw (ok, on)) (λ off. rw (ok, off))) (λ broken. rw broken refl)

  act-deliveries : (a : Act) (s : S) → act_hands sound seen step a s ≡ deliveries step (stands_for sound seen step a s) s
  act-deliveries (single a) s = sym (append-nil _)
  act-deliveries (dispatch given) s =
      by-test (sound s) (λ ok. by-test (seen s).started (λ on. rw (ok, on)) (λ off. rw (ok, off))) (λ broken. rw broken refl)

  same-ring : (acts : List Act) (s : S) → run_acts sound seen step acts s ≡ run step (spelled_out sound seen step acts s) s
  same-ring [] s = refl
  same-ring (a ∷ acts) s =
      let next : S = after_act sound seen step a s in
      same-ring acts next
      ∙ ap (run step (spelled_out sound seen step acts next)) (act-ring a s)
      ∙ sym (run-append step (stands_for sound seen step a s) (spelled_out sound seen step acts next) s)

  same-deliveries : (acts : List Act) (s : S) →
      act_deliveries sound seen step acts s ≡ deliveries step (spelled_out sound seen step acts s) s
  same-deliveries [] s = refl
  same-deliveries (a ∷ acts) s =
      let next : S = after_act sound seen step a s in
      let calls : List Call = spelled_out sound seen step acts next in
      ap (λ l. l ++ act_deliveries sound seen step acts next) (act-deliveries a s)
      ∙ ap (λ l. deliveries step (stands_for sound seen step a s) s ++ l)
      (same-deliveries acts next ∙ ap (deliveries step calls) (act-ring a s))
      ∙ sym (deliveries-append step (stands_for sound seen step a s) calls s)

  pub acts-spelled : (acts : List Act) (s : S) → Spelled sound seen step acts s
  acts-spelled acts s =
      record {
        same-ring = same-ring acts s;
        same-deliveries = same-deliveries acts s;
        on-channel = λ k.
            ap (records_on k) (same-deliveries acts s) ∙ records-delivered step k (spelled_out sound seen step acts s) s;
      }
