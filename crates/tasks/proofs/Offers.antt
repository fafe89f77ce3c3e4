-- The calls "receive" and "send" on a channel of a sound started ring: each refusal by the tests that the code makes, and what an accepted
-- call leaves in memory. That the message finds room in its line follows from the soundness of the ring after the call.
use Prim.Native.Nat.{ℕ, ◌+◌, ◌<◌}
use mathlib.Core.Path.{◌≡◌, refl, sym, ap, subst, ◌∙◌}
use mathlib.Core.Logic.{◌≢◌}
use mathlib.Core.Bool.{false}
use mathlib.Core.Option.{none}
use borrow.Author.Tests.{lt-ltb}
use Rattle.refusal.specs.declared.Refusal.{Refusal}
use Rattle.refusal.specs.Number.{Verdict}
use Rattle.refusal.specs.declared.Refusal.TheVariants.{NotResting, AlreadyOffered}
use Rattle.std.specs.Prelude.{Ok, Err}
use Rattle.batch.specs.declared.BatchRecord.{BatchRecord}
use Rattle.batch.specs.declared.sending.Fields.{Fields}
use Rattle.batch.specs.declared.sending.Scale.{Scale}
use Rattle.batch.specs.Good.{send_verdict}
use Rattle.batch.specs.Sending.{record_from, sent_as, sent_from}
use Rattle.batch.proofs.Good.{sent-exactly}
use Rattle.wire.specs.Record.{RecordFits}
use Rattle.wire.proofs.Good.{good-fits}
use Rattle.network.specs.declared.Ring.{Ring}
use Rattle.network.specs.Network.{Network, channel_no, resting, ready, count_of_nodes, channel}
use Rattle.network.specs.Sound.{is_resting, is_ready, absent}
use Rattle.network.specs.Calls.{done, refused, accepted, unless, request, respond, offer_to, if_good}
use Rattle.network.specs.Calls
use Rattle.network.specs.Runs
use Rattle.network.specs.Layout.{view, held_outcome, call_ring}
use Rattle.network.proofs.Memory.Held.{Fits}
use Rattle.updates.specs.Flat.{receiver_at, phase_at, offered_at, phased_head, joined, phased, offered, responded}
use Rattle.updates.specs.Known.{CanJoin, CanRespond, AtChannel}
use Rattle.updates.proofs.Openings.{sound-called, accepted-fits}
use Rattle.updates.proofs.FlatLaws.{offered-held}
use Rattle.updates.proofs.Messages.{asked-held, asked-room, Answerable, can-respond, responded-held}
use Rattle.updates.proofs.Reading.{channel-known, channel-there, channel-numbers, channel-running, resting-code, busy-code, ready-code, unready-code, none-flag, some-flag}

-- what send makes of a command's fields, split: the refusal is the record's, or the record is good and goes out as it is

refusal-split : (x : BatchRecord) (v : Verdict) {r : Refusal} → sent_as x v ≡ Err r → v ≡ Err r
refusal-split x (Ok u) e = cc
refusal-split x (Err q) {r} e = let same : q ≡ r = cc in ap Err same

record-split : (x : BatchRecord) (v : Verdict) {y : BatchRecord} → sent_as x v ≡ Ok y → (v ≡ Ok tt) × (y ≡ x)
record-split x (Ok tt) e = (refl, cc)
record-split x (Err r) e = cc

module _ (s : Scale) (f : Fields) where
  pub bad-fields : {r : Refusal} → Err r ≡ sent_from s f → send_verdict (record_from s f) ≡ Err r
  unfolding sent_from
  bad-fields told = refusal-split (record_from s f) (send_verdict (record_from s f)) (sym told)

  pub good-fields : {x : BatchRecord} → Ok x ≡ sent_from s f → (send_verdict (record_from s f) ≡ Ok tt) × (x ≡ record_from s f)
  unfolding sent_from
  good-fields told = record-split (record_from s f) (send_verdict (record_from s f)) (sym told)

module _ {ring : Ring} {k : ℕ} (h : AtChannel ring k) where
  abbrev σ : Network
  σ = view ring

  fits : Fits σ
  fits = (channel-known h).fits

  -- receive

  receive-called : Calls.receive (channel_no k) σ
      ≡ unless (is_resting (channel σ (channel_no k)).phase) (refused NotResting)
      (accepted done (request (channel_no k) σ))
  unfolding Calls.receive
  receive-called = rw (channel-running h, lt-ltb _ _ (channel-there h))

  pub receive-busy : phase_at ring.head k ≢ 0 → call_ring (Runs.receive (channel_no k)) ring ≡ refused NotResting
  receive-busy busy =
      sound-called (Runs.receive (channel_no k)) ring h.ok
      ∙ ap held_outcome receive-called
      ∙ rw (busy-code (channel σ (channel_no k)).phase (λ e. busy ((channel-numbers h).phase ∙ e)))

  module _ (rests : phase_at ring.head k ≡ 0) where
    at_rest : (channel σ (channel_no k)).phase ≡ resting
    at_rest = resting-code _ (sym (channel-numbers h).phase ∙ rests)

    there : (channel σ (channel_no k)).receiver.0 < count_of_nodes σ
    there = ((channel-known h).facts.each-channel k (channel-there h)).receiver-below

    receive-accepted : Calls.receive (channel_no k) σ
        ≡ accepted done (request (channel_no k) σ)
    receive-accepted = receive-called ∙ rw at_rest

    next_fits : Fits (request (channel_no k) σ)
    next_fits = accepted-fits ring h.ok (Runs.receive (channel_no k)) receive-accepted

    -- what the code asks before the request joins the line
    pub receive-room : CanJoin (phased_head ring.head k 1) (receiver_at ring.head k)
    receive-room =
        let room = subst (λ r. CanJoin r.head (receiver_at r.head k)) (channel-known h).laid-out
        (asked-room σ fits k (channel-there h) there at_rest next_fits) in
        record { there = room.there; room = room.room }

    pub receive-done : call_ring (Runs.receive (channel_no k)) ring
        ≡ accepted done (joined (phased ring k 1) (receiver_at ring.head k) (k + 1))
    receive-done =
        sound-called (Runs.receive (channel_no k)) ring h.ok
        ∙ ap held_outcome receive-accepted
        ∙ ap (accepted done)
        (sym (asked-held σ fits k (channel-there h) there at_rest next_fits)
        ∙ ap (λ r. joined (phased r k 1) (receiver_at r.head k) (k + 1)) (channel-known h).laid-out)

  -- send

  module _ (x : BatchRecord) where
    send-called : Calls.send (channel_no k) x σ
        ≡ if_good (send_verdict x)
        (unless (absent (channel σ (channel_no k)).offer) (refused AlreadyOffered) (accepted done (offer_to (channel_no k) x σ)))
    unfolding Calls.send
    send-called = rw (channel-running h, lt-ltb _ _ (channel-there h))

    send-in-memory : call_ring (Runs.send (channel_no k) x) ring ≡ held_outcome (Calls.send (channel_no k) x σ)
    send-in-memory = sound-called (Runs.send (channel_no k) x) ring h.ok

    pub send-bad : (r : Refusal) → send_verdict x ≡ Err r → call_ring (Runs.send (channel_no k) x) ring ≡ refused r
    send-bad r bad = send-in-memory ∙ ap held_outcome send-called ∙ rw bad

    module _ (good : send_verdict x ≡ Ok tt) where
      x_fits : RecordFits x
      x_fits = good-fits x ((sent-exactly x).0 good).0

      pub send-again : offered_at ring.head k ≢ 0 → call_ring (Runs.send (channel_no k) x) ring ≡ refused AlreadyOffered
      send-again has =
          send-in-memory
          ∙ ap held_outcome send-called
          ∙ rw (good, some-flag (channel σ (channel_no k)).offer (λ e. has ((channel-numbers h).offered ∙ e)))

      module _ (free : offered_at ring.head k ≡ 0) where
        no-offer : (channel σ (channel_no k)).offer ≡ none
        no-offer = none-flag _ (sym (channel-numbers h).offered ∙ free)

        send-accepted : Calls.send (channel_no k) x σ ≡ accepted done (offer_to (channel_no k) x σ)
        send-accepted = send-called ∙ rw (good, no-offer)

        -- the channel is not ready: the record waits in the offer
        pub send-offered : phase_at ring.head k ≢ 2 → call_ring (Runs.send (channel_no k) x) ring ≡ accepted done (offered ring k x)
        send-offered waits =
            let unready : is_ready (channel σ (channel_no k)).phase ≡ false =
            unready-code (channel σ (channel_no k)).phase (λ e. waits ((channel-numbers h).phase ∙ e)) in
            send-in-memory
            ∙ ap held_outcome send-accepted
            ∙ rw unready
            (ap (accepted done)
            (sym (offered-held σ fits k (channel-there h) x x_fits) ∙ ap (λ r. offered r k x) (channel-known h).laid-out))

        module _ (waits : phase_at ring.head k ≡ 2) where
          is-ready : (channel σ (channel_no k)).phase ≡ ready
          is-ready = ready-code _ (sym (channel-numbers h).phase ∙ waits)

          responds : Calls.send (channel_no k) x σ ≡ accepted done (respond (channel_no k) x σ)
          responds = send-accepted ∙ rw is-ready

          -- so it may answer with the record, and its line has room for the response
          answerable : Answerable σ k x
          answerable =
              record {
                fits = fits;
                known = channel-there h;
                record-fits = x_fits;
                bare = no-offer;
                sender-there = ((channel-known h).facts.each-channel k (channel-there h)).sender-below;
                next_fits = accepted-fits ring h.ok (Runs.send (channel_no k) x) responds;
              }

          pub send-room : CanRespond ring.head k
          send-room = can-respond answerable (channel-known h).laid-out

          pub send-responds : call_ring (Runs.send (channel_no k) x) ring ≡ accepted done (responded ring k x)
          send-responds =
              send-in-memory
              ∙ ap held_outcome responds
              ∙ ap (accepted done) (sym (responded-held answerable (channel-known h).laid-out))
