-- Lists. The test `sound` clause by clause: what it says as facts, and that the facts pass it. Facts about nodes and channels are in the
-- words of the theory's `Sound`, so a started ring passes the test exactly when its tables are `Sound` and its sizes are within the
-- limits.
use Prim.Native.Nat.{ℕ, ◌≤◌, ◌<◌}
use mathlib.Core.Path.{◌≡◌}
use mathlib.Core.Logic.{◌↔◌}
use mathlib.Core.Bool.{true, cond}
use mathlib.Core.Option.{none}
use lib.ListN.{length}
use Rattle.hops.specs.Hops.{hops}
use Rattle.network.specs.Counting.{one, occupied}
use Rattle.network.specs.Network.{Network, Phase, ready, node_no, channel_no, times_in, count_of_nodes, count_of_channels, slot_count, node, channel, moving, entry_of, target_of, times_on}
use Rattle.network.specs.Sound.{Limits, last_count, good_offer, good_carried, line_fits, buffer_fits, sound_node, sound_channel, sound_before, sound_after, sound}
use Rattle.network.proofs.Ground.Numbers.{length-numbers, occupied-numbers, end-number}
use Rattle.network.proofs.Ground.Tests.{leb_reads, ltb-reads, eqb-reads, each_below, each_of}
use Rattle.network.proofs.Ground.Joined.{two-read, three-read, six-read, only-read, itself, ready-reads, absent-reads}
use Rattle.network.proofs.Theory.State.{Net, Sound, entry_in, target_in}
use Rattle.network.proofs.Lists.Tables.{net_of, state_of}

-- the ends of a message's way are the theory's

pub entry-in : (σ : Network) (f : Phase) (k : ℕ) → (entry_of (channel σ (channel_no k)) f).0 ≡ entry_in (net_of σ) f k
entry-in σ f k = end-number f _ _

pub target-in : (σ : Network) (f : Phase) (k : ℕ) → (target_of (channel σ (channel_no k)) f).0 ≡ target_in (net_of σ) f k
target-in σ f k = end-number f _ _

-- where channel k may stand

abbrev pub BufferFits : Network → ℕ → ℕ → Type 0
BufferFits σ p k =
    (k < count_of_channels σ)
    × (hops (count_of_nodes σ) p (target_in (net_of σ) (channel σ (channel_no k)).phase k)
    ≤ hops (count_of_nodes σ) (entry_in (net_of σ) (channel σ (channel_no k)).phase k) (target_in (net_of σ) (channel σ (channel_no k)).phase k))

abbrev pub LineFits : Network → ℕ → ℕ → Type 0
LineFits σ p k = (k < count_of_channels σ) × (p ≡ entry_in (net_of σ) (channel σ (channel_no k)).phase k)

buffer-reads : (σ : Network) (p k : ℕ) → (buffer_fits σ (node_no p) (channel_no k) ≡ true) ↔ BufferFits σ p k
buffer-reads σ p k =
    let f = (channel σ (channel_no k)).phase in
    rw (← entry-in σ f k, ← target-in σ f k) (two-read (ltb-reads _ _) (leb_reads _ _))

line_reads : (σ : Network) (p k : ℕ) → (line_fits σ (node_no p) (channel_no k) ≡ true) ↔ LineFits σ p k
line_reads σ p k = rw (← entry-in σ (channel σ (channel_no k)).phase k) (two-read (ltb-reads _ _) (eqb-reads _ _))

-- a sound node

pub record NodeFacts (L : Limits) (σ : Network) (p : ℕ) : Type 0 where
  pub some-slot : 1 ≤ (node σ (node_no p)).slots
  pub slot-limit : (node σ (node_no p)).slots ≤ L.slots
  pub fits : length (node σ (node_no p)).buffer ≤ (node σ (node_no p)).slots
  pub in-buffer : (k : ℕ) → 0 < times_in (node σ (node_no p)).buffer (channel_no k) → BufferFits σ p k
  pub in-line : (k : ℕ) → 0 < times_in (node σ (node_no p)).line (channel_no k) → LineFits σ p k
  pub marked : (node σ (node_no p)).mark ≡ true → occupied (node σ (node_no p)).line ≡ true

node-reads : (L : Limits) (σ : Network) (p : ℕ) → (sound_node L σ (node_no p) ≡ true) ↔ NodeFacts L σ p
unfolding sound_node
node-reads L σ p =
    let r = six-read (leb_reads 1 _) (leb_reads _ _) (leb_reads _ _) (each_of (node σ (node_no p)).buffer (λ k. buffer-reads σ p k.0))
    (each_of (node σ (node_no p)).line (λ k. line_reads σ p k.0)) (only-read itself itself) in (
      λ e. let h = r.0 e in
          record { some-slot = h.0; slot-limit = h.1; fits = h.2; in-buffer = h.3; in-line = h.4; marked = h.5 },
      λ h. r.1 (h.some-slot, h.slot-limit, h.fits, h.in-buffer, h.in-line, h.marked),
    )

-- a sound channel

pub record ChannelFacts (σ : Network) (k : ℕ) : Type 0 where
  pub sender-below : (channel σ (channel_no k)).sender.0 < count_of_nodes σ
  pub receiver-below : (channel σ (channel_no k)).receiver.0 < count_of_nodes σ
  pub once : times_on σ (channel_no k) ≡ one (moving (channel σ (channel_no k)).phase)
  pub ready-bare : (channel σ (channel_no k)).phase ≡ ready → (channel σ (channel_no k)).offer ≡ none
  pub good-offer : good_offer (channel σ (channel_no k)).offer ≡ true
  pub good-carried : good_carried (channel σ (channel_no k)).phase ≡ true

channel-reads : (σ : Network) (k : ℕ) → (sound_channel σ (channel_no k) ≡ true) ↔ ChannelFacts σ k
unfolding sound_channel
channel-reads σ k =
    let r = six-read (ltb-reads _ _) (ltb-reads _ _) (eqb-reads _ _)
    (only-read (ready-reads (channel σ (channel_no k)).phase) (absent-reads (channel σ (channel_no k)).offer)) itself itself in (
      λ e. let h = r.0 e in
          record { sender-below = h.0; receiver-below = h.1; once = h.2; ready-bare = h.3; good-offer = h.4; good-carried = h.5 },
      λ h. r.1 (h.sender-below, h.receiver-below, h.once, h.ready-bare, h.good-offer, h.good-carried),
    )

-- the whole ring, started or not

pub record Facts (L : Limits) (σ : Network) : Type 0 where
  pub node-limit : count_of_nodes σ ≤ L.nodes
  pub channel-limit : count_of_channels σ ≤ L.channels
  pub delivery-limit : σ.deliveries ≤ last_count
  pub each-node : (p : ℕ) → p < count_of_nodes σ → NodeFacts L σ p
  pub each-channel : (k : ℕ) → k < count_of_channels σ → ChannelFacts σ k
  pub at-start : cond σ.started (sound_after σ) (sound_before σ) ≡ true

sound-reads : (L : Limits) (σ : Network) → (sound L σ ≡ true) ↔ Facts L σ
unfolding sound
sound-reads L σ =
    let r = six-read (leb_reads (count_of_nodes σ) L.nodes) (leb_reads (count_of_channels σ) L.channels) (leb_reads σ.deliveries last_count)
    (each_below (count_of_nodes σ) (node-reads L σ)) (each_below (count_of_channels σ) (channel-reads σ)) itself in (
      λ e. let h = r.0 e in
          record { node-limit = h.0; channel-limit = h.1; delivery-limit = h.2; each-node = h.3; each-channel = h.4; at-start = h.5 },
      λ h. r.1 (h.node-limit, h.channel-limit, h.delivery-limit, h.each-node, h.each-channel, h.at-start),
    )

pub facts : (L : Limits) (σ : Network) → sound L σ ≡ true → Facts L σ
facts L σ = (sound-reads L σ).0

pub facts-sound : (L : Limits) (σ : Network) → Facts L σ → sound L σ ≡ true
facts-sound L σ = (sound-reads L σ).1

-- a sound ring that has started: its tables are sound, and its sizes are within the limits

pub record Within (L : Limits) (N : Net) : Type 0 where
  pub node-limit : N.n ≤ L.nodes
  pub channel-limit : N.c ≤ L.channels
  pub slot-limit : (p : ℕ) → p < N.n → N.slots p ≤ L.slots
  pub some-node : 1 ≤ N.n
  pub some-channel : 1 ≤ N.c

pub record Started (L : Limits) (σ : Network) : Type 0 where
  pub running : σ.started ≡ true
  pub within : Within L (net_of σ)
  pub delivery-limit : σ.deliveries ≤ last_count
  pub tables : Sound (net_of σ) (state_of σ)

after-reads : (σ : Network) → (sound_after σ ≡ true) ↔ ((1 ≤ count_of_nodes σ) × (1 ≤ count_of_channels σ) × (count_of_channels σ < slot_count σ))
unfolding sound_after
after-reads σ = three-read (leb_reads 1 _) (leb_reads 1 _) (ltb-reads _ _)

module _ (L : Limits) (σ : Network) where
  pub sound-started : sound L σ ≡ true → σ.started ≡ true → Started L σ
  unfolding sound_after
  sound-started e s =
      let h = facts L σ e in
      let sizes = (after-reads σ).0 (rw s at h.at-start) in
      record {
        running = s;
        within = record {
          node-limit = h.node-limit;
          channel-limit = h.channel-limit;
          slot-limit = λ p l. (h.each-node p l).slot-limit;
          some-node = sizes.0;
          some-channel = sizes.1;
        };
        delivery-limit = h.delivery-limit;
        tables = record {
          sender-below = λ k l. (h.each-channel k l).sender-below;
          receiver-below = λ k l. (h.each-channel k l).receiver-below;
          some-slot = λ p l. (h.each-node p l).some-slot;
          fits = λ p l. rw length-numbers (h.each-node p l).fits;
          once = λ k l. (h.each-channel k l).once;
          in-buffer = λ p l. (h.each-node p l).in-buffer;
          in-line = λ p l. (h.each-node p l).in-line;
          marked = λ p l. rw occupied-numbers (h.each-node p l).marked;
          ready-bare = λ k l. (h.each-channel k l).ready-bare;
          good-offer = λ k l. (h.each-channel k l).good-offer;
          good-carried = λ k l. (h.each-channel k l).good-carried;
          more-slots = sizes.2;
        };
      }

  pub started-sound : Started L σ → sound L σ ≡ true
  unfolding sound_after
  started-sound h =
      let w = h.within in
      let t = h.tables in
      facts-sound L σ
      (record {
        node-limit = w.node-limit;
        channel-limit = w.channel-limit;
        delivery-limit = h.delivery-limit;
        each-node = λ p l. record {
          some-slot = t.some-slot p l;
          slot-limit = w.slot-limit p l;
          fits = rw length-numbers at (t.fits p l);
          in-buffer = t.in-buffer p l;
          in-line = t.in-line p l;
          marked = rw occupied-numbers at (t.marked p l);
        };
        each-channel = λ k l. record {
          sender-below = t.sender-below k l;
          receiver-below = t.receiver-below k l;
          once = t.once k l;
          ready-bare = t.ready-bare k l;
          good-offer = t.good-offer k l;
          good-carried = t.good-carried k l;
        };
        at-start = rw h.running ((after-reads σ).1 (w.some-node, w.some-channel, t.more-slots));
      })
