-- A ring that fits (specs/Fits) holds in its arrays what is read off them, node by node and channel by channel.
use Prim.Native.Nat.{ℕ, ◌*◌, ◌≤◌, ◌<◌}
use mathlib.Core.Path.{◌≡◌, refl, sym}
use mathlib.Core.List.{List, []}
use native.Mathlib.Omega.{arith}
use lib.ListN.{length, get_or, drop}
use borrow.Author.Tests.{lt-ltb, le-ltb}
use Rattle.wire.specs.Record.{record_length}
use Rattle.network.specs.declared.Ring.{Ring}
use Rattle.network.specs.Network.{Network}
use Rattle.network.specs.Layout.{node_room, channel_room, row_length, cell_room, record_room, row, padded, record_at, view}
use Rattle.network.proofs.Ground.Splits.{by_less}
use Rattle.network.proofs.Ground.Counting.{one-most}
use Rattle.network.proofs.Memory.Held.{HeldNode, HeldChannel, Held, no-node, no-channel}
use Rattle.messages.specs.Messages.{Blank}
use Rattle.soundness.specs.Fits.{UsedNode, UsedChannel, Nothing, Fits}
use Rattle.messages.proofs.Zeros.{beyond-row}
use Rattle.messages.proofs.RowsMet.{AllMet, all-met}
use Rattle.soundness.proofs.Codes.{flag-kept, code-kept, carried-is, offered-kept, offer-is}
use Rattle.soundness.proofs.Queues.{queue-kept, row_kept}
use Rattle.soundness.proofs.View.{nodes, channels, begun, node-count-of, channel-count-of, node_of, channel-of}

module _ (ring : Ring) (f : Fits ring) where
  abbrev σ : Network
  σ = view ring

  -- what the test says of what is used

  pub used-node : (p : ℕ) → p < nodes ring →
      UsedNode (begun ring) (get_or ring.head.capacity p 0) (get_or ring.head.used p 0) (get_or ring.head.waiting p 0)
      (get_or ring.head.marks p 0)
  used-node p l = rw (lt-ltb p (nodes ring) l) at (f.nodes.each p (omega (arith, f.counts.nodes-within)))

  blank-node : (p : ℕ) → nodes ring ≤ p → p < node_room →
      Nothing (get_or ring.head.capacity p 0) (get_or ring.head.used p 0) (get_or ring.head.waiting p 0)
      (get_or ring.head.marks p 0)
  blank-node p l m = rw (le-ltb p (nodes ring) l) at (f.nodes.each p m)

  pub used-channel : (k : ℕ) → k < channels ring →
      UsedChannel (begun ring) (nodes ring) (get_or ring.head.senders k 0) (get_or ring.head.receivers k 0)
      (get_or ring.head.phases k 0) (get_or ring.head.offered k 0)
  used-channel k l = rw (lt-ltb k (channels ring) l) at (f.channels.each k (omega (arith, f.counts.channels-within)))

  blank-channel : (k : ℕ) → channels ring ≤ k → k < channel_room →
      Nothing (get_or ring.head.senders k 0) (get_or ring.head.receivers k 0) (get_or ring.head.phases k 0)
      (get_or ring.head.offered k 0)
  blank-channel k l m = rw (le-ltb k (channels ring) l) at (f.channels.each k m)

  pub table : AllMet ring f.messages.met
  table = all-met ring f.counts.channels-within f.messages.met f.messages.marked

  -- beyond what is in use there are zeros

  blank-row : (cells : List ℕ) → length cells ≡ cell_room → Blank (drop (row_length * nodes ring) cells) → (p : ℕ) → nodes ring ≤ p →
      p < node_room → row row_length cells p ≡ padded row_length []
  blank-row = beyond-row row_length node_room (nodes ring) (omega arith)

  blank-record : (cells : List ℕ) → length cells ≡ record_room → Blank (drop (record_length * channels ring) cells) → (k : ℕ) →
      channels ring ≤ k → k < channel_room → row record_length cells k ≡ padded record_length []
  blank-record = beyond-row record_length channel_room (channels ring) (omega arith)

  -- the arrays hold what is read off them

  pub node-held : (p : ℕ) → p < node_room → HeldNode ring σ p
  node-held p l =
      by_less p (nodes ring)
      (λ here.
      let e = node_of ring p here in
      let u = used-node p here in
      let buffer = table.rows.buffers-used p here in
      let line = table.rows.lines-used p here in
      record {
        capacity = rw e;
        used = rw e (queue-kept (channels ring) ring.head.used ring.slots f.messages.slots-whole p l buffer);
        waiting = rw e (queue-kept (channels ring) ring.head.waiting ring.lines f.messages.lines-whole p l line);
        mark = rw e (flag-kept (get_or ring.head.marks p 0) (omega (arith, u.marked-started, one-most (begun ring))));
        buffer-row = rw e (row_kept (channels ring) ring.head.used ring.slots f.messages.slots-whole p l buffer);
        line_row = rw e (row_kept (channels ring) ring.head.waiting ring.lines f.messages.lines-whole p l line);
      })
      (λ past.
      let e = no-node σ p (rw (node-count-of ring) past) in
      let b = blank-node p past l in
      record {
        capacity = rw e b.0;
        used = rw e b.1;
        waiting = rw e b.2;
        mark = rw e b.3;
        buffer-row = rw e (blank-row ring.slots f.messages.slots-whole f.messages.slots-beyond p past l);
        line_row = rw e (blank-row ring.lines f.messages.lines-whole f.messages.lines-beyond p past l);
      })

  pub channel-held : (k : ℕ) → k < channel_room → HeldChannel ring σ k
  channel-held k l =
      by_less k (channels ring)
      (λ here.
      let e = channel-of ring k here in
      let u = (used-channel k here).state in
      record {
        sender = rw e;
        receiver = rw e;
        phase = rw e (code-kept (record_at ring.carried k) (get_or ring.head.phases k 0) u.phase-known);
        offered = rw e (offered-kept (record_at ring.offers k) (get_or ring.head.offered k 0) u.offer-flag);
        offer-row =
            rw (e, offer-is (record_at ring.offers k) (get_or ring.head.offered k 0)) (f.records.offer-fits k here).laid;
        carried_row =
            rw (e, carried-is (record_at ring.carried k) (get_or ring.head.phases k 0) u.phase-known)
            (f.records.carried-fits k here).laid;
      })
      (λ past.
      let e = no-channel σ k (rw (channel-count-of ring) past) in
      let b = blank-channel k past l in
      record {
        sender = rw e b.0;
        receiver = rw e b.1;
        phase = rw e b.2;
        offered = rw e b.3;
        offer-row = rw e (blank-record ring.offers f.records.offers-whole f.records.offers-beyond k past l);
        carried_row = rw e (blank-record ring.carried f.records.carried-whole f.records.carried-beyond k past l);
      })

  pub held : Held ring σ
  unfolding view
  held =
      record {
        started = flag-kept ring.head.started f.counts.started-flag;
        node-count = sym (node-count-of ring);
        channel-count = sym (channel-count-of ring);
        deliveries = refl;
        nodes = node-held;
        channels = channel-held;
        slots-whole = f.messages.slots-whole;
        lines-whole = f.messages.lines-whole;
        offers-whole = f.records.offers-whole;
        carried-whole = f.records.carried-whole;
      }
