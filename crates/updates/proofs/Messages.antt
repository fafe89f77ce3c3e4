-- A message joins a line after a change of its channel: a request, and a response with the record that it carries; and a request is taken
-- back out of its line. The line has room for it,
-- because the ring after the call is sound and so fits its rows.
use Prim.Native.Nat.{ℕ, ◌+◌, ◌<◌}
use mathlib.Core.Path.{◌≡◌, ap, subst, ◌∙◌}
use mathlib.Core.List.{[], ◌∷◌, ◌++◌}
use mathlib.Core.Option.{none}
use native.Mathlib.Numerals.{add-one}
use native.Mathlib.Omega.{arith}
use lib.ListN.{length, length-append, length-set}
use lib.Seq.{get_or-set_same}
use Rattle.batch.specs.declared.BatchRecord.{BatchRecord}
use Rattle.numbers.specs.declared.NodeNo.{NodeNo}
use Rattle.numbers.specs.declared.ChannelNo.{ChannelNo}
use Rattle.wire.specs.Record.{RecordFits}
use Rattle.network.specs.declared.Ring.{Ring}
use Rattle.network.specs.Network.{Network, NodeState, resting, asking, answering, node_no, channel_no, count_of_nodes, count_of_channels, no_node, node, channel, with_channel}
use Rattle.network.specs.Calls.{join_line, request, take_back, respond}
use Rattle.network.specs.Layout.{node_room, row_length, hold}
use Rattle.network.proofs.Memory.Held.{Fits, HeldChannel, held-node, held-channel}
use Rattle.network.proofs.Memory.Changes.{fits-with-channel}
use Rattle.updates.specs.Flat.{sender_at, receiver_at, joined, shortened, phased, responded}
use Rattle.updates.specs.Known.{CanJoin, CanRespond}
use Rattle.updates.proofs.FlatLaws.{joined-held, shortened-held, phased-held, answered-held}
use Rattle.updates.proofs.Lines.{SplitAt}

-- where a message has joined a line there was room for it
joined-room : (σ : Network) (p : NodeNo) (k : ChannelNo) → p.0 < count_of_nodes σ → Fits (join_line p k σ) →
    length (node σ p).line < row_length
joined-room σ p k l fits =
    let s : NodeState =
    record { slots = (node σ p).slots; buffer = (node σ p).buffer; line = (node σ p).line ++ (k ∷ []); mark = (node σ p).mark } in
    let now : node (join_line p k σ) p ≡ s = get_or-set_same σ.nodes p.0 s no_node l in
    omega (arith, ap (λ t. length t.line) now, length-append (node σ p).line (k ∷ []), fits.line-fits p.0 (rw length-set l))

joined-next : (σ : Network) (fits : Fits σ) (p : NodeNo) (k : ChannelNo) → p.0 < count_of_nodes σ → Fits (join_line p k σ) →
    joined (hold σ) p.0 (k.0 + 1) ≡ hold (join_line p k σ)
joined-next σ fits p k l next =
    ap (joined (hold σ) p.0) (add-one k.0) ∙ joined-held σ fits p.0 l k (joined-room σ p k l next)

-- what the code asks before it puts a message into the line of p
can-join : (σ : Network) (fits : Fits σ) (p : ℕ) → p < count_of_nodes σ → length (node σ (node_no p)).line < row_length → CanJoin (hold σ).head p
can-join σ fits p l free =
    let inside : p < node_room = omega (arith, fits.nodes-fit) in
    record { there = inside; room = rw (held-node σ p inside).waiting free }

here_in : (σ : Network) (fits : Fits σ) (k : ℕ) → k < count_of_channels σ → HeldChannel (hold σ) σ k
here_in σ fits k l = held-channel σ k (omega (arith, fits.channels-fit))

-- a request

module _ (σ : Network) (fits : Fits σ) (k : ℕ) (l : k < count_of_channels σ) (there : (channel σ (channel_no k)).receiver.0 < count_of_nodes σ)
    (rests : (channel σ (channel_no k)).phase ≡ resting)
    (next : Fits (request (channel_no k) σ)) where
  abbrev asks : Network
  asks = with_channel (channel_no k) asking (channel σ (channel_no k)).offer σ

  asked-fits : Fits asks
  asked-fits = fits-with-channel σ fits k asking (channel σ (channel_no k)).offer l (fits.offer-fits k l) tt

  pub asked-held :
      joined (phased (hold σ) k 1) (receiver_at (hold σ).head k) (k + 1) ≡ hold (request (channel_no k) σ)
  asked-held =
      ap (λ r. joined r (receiver_at (hold σ).head k) (k + 1)) (phased-held σ fits k l asking (rw rests))
      ∙ ap (λ p. joined (hold asks) p (k + 1)) (here_in σ fits k l).receiver
      ∙ joined-next _ asked-fits _ (channel_no k) there next

  pub asked-room : CanJoin (hold σ).head (receiver_at (hold σ).head k)
  asked-room = rw (here_in σ fits k l).receiver (can-join σ fits _ there (joined-room asks _ (channel_no k) there next))

-- a request taken back, where it stands in the line at index i

pub taken-back-held : (σ : Network) (fits : Fits σ) (k : ℕ) (l : k < count_of_channels σ) → (channel σ (channel_no k)).receiver.0 < count_of_nodes σ →
    (channel σ (channel_no k)).phase ≡ asking → (i : ℕ) → SplitAt k (node σ (channel σ (channel_no k)).receiver).line i →
    shortened (phased (hold σ) k 0) (receiver_at (hold σ).head k) i ≡ hold (take_back (channel_no k) σ)
taken-back-held σ fits k l there asks i at =
    let offer = (channel σ (channel_no k)).offer in
    let rests : Network = with_channel (channel_no k) resting offer σ in
    ap (λ r. shortened r (receiver_at (hold σ).head k) i) (phased-held σ fits k l resting (rw asks))
    ∙ ap (λ p. shortened (hold rests) p i) (here_in σ fits k l).receiver
    ∙ shortened-held rests (fits-with-channel σ fits k resting offer l (fits.offer-fits k l) tt) _ there k i at

-- a response: channel k may answer with the record x

pub record Answerable (σ : Network) (k : ℕ) (x : BatchRecord) : Type 0 where
  pub fits : Fits σ
  pub known : k < count_of_channels σ
  pub record-fits : RecordFits x
  pub bare : (channel σ (channel_no k)).offer ≡ none
  pub sender-there : (channel σ (channel_no k)).sender.0 < count_of_nodes σ
  pub next_fits : Fits (respond (channel_no k) x σ)

module _ {σ : Network} {k : ℕ} {x : BatchRecord} (a : Answerable σ k x) where
  abbrev answers : Network
  answers = with_channel (channel_no k) (answering x) none σ

  here : HeldChannel (hold σ) σ k
  here = here_in σ a.fits k a.known

  answers-fits : Fits answers
  answers-fits = fits-with-channel σ a.fits k (answering x) none a.known tt a.record-fits

  responded-hold : responded (hold σ) k x ≡ hold (respond (channel_no k) x σ)
  responded-hold =
      ap (λ r. joined r (sender_at (hold σ).head k) (k + 1))
      (answered-held σ a.fits k a.known x a.record-fits ∙ ap (λ o. hold (with_channel (channel_no k) (answering x) o σ)) a.bare)
      ∙ ap (λ p. joined (hold answers) p (k + 1)) here.sender
      ∙ joined-next _ answers-fits _ (channel_no k) a.sender-there a.next_fits

  response-room : CanRespond (hold σ).head k
  response-room =
      record {
        known = omega (arith, a.known, a.fits.channels-fit);
        line =
            rw here.sender (can-join σ a.fits _ a.sender-there (joined-room answers _ (channel_no k) a.sender-there a.next_fits));
      }

  -- the same of a ring that holds σ
  module _ {ring : Ring} (held : hold σ ≡ ring) where
    pub can-respond : CanRespond ring.head k
    can-respond = subst (λ r. CanRespond r.head k) held response-room

    pub responded-held : responded ring k x ≡ hold (respond (channel_no k) x σ)
    responded-held = subst (λ r. responded r k x ≡ hold (respond (channel_no k) x σ)) held responded-hold
