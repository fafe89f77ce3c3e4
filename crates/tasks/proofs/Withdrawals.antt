-- The call "withdraw" on a channel of a sound started ring: each refusal by the tests that the code makes, and what an accepted call leaves
-- in memory.
use Prim.Native.Nat.{ℕ, suc, ◌+◌, ◌-◌, ◌*◌, ◌≤◌, ◌<◌}
use mathlib.Core.Path.{◌≡◌, sym, ap, ◌∙◌}
use mathlib.Core.Logic.{◌≢◌}
use mathlib.Core.List.{List}
use native.Mathlib.Numerals.{add-one}
use native.Mathlib.Omega.{arith}
use lib.Dec.{eqb}
use lib.ListN.{length, get_or, take, drop}
use Rattle.std.specs.Prelude.{Option, Some, None}
use Rattle.std.specs.List.{position}
use borrow.Author.Tests.{lt-ltb}
use Rattle.refusal.specs.declared.Refusal.TheVariants.{NotAsking, RequestInBuffer}
use Rattle.numbers.specs.declared.ChannelNo.{ChannelNo}
use Rattle.network.specs.declared.Ring.{Ring}
use Rattle.network.specs.Network.{Network, channel_no, asking, count_of_nodes, node, channel}
use Rattle.network.specs.Sound.{is_asking}
use Rattle.network.specs.Calls.{done, refused, accepted, unless, in_receiver_line, take_back}
use Rattle.network.specs.Calls
use Rattle.network.specs.Runs
use Rattle.network.specs.Layout.{node_room, row_length, cells_of, view, held_outcome, call_ring}
use Rattle.network.proofs.Memory.Rows.{get_d-padded, get_d-row}
use Rattle.network.proofs.Memory.Held.{HeldNode}
use Rattle.updates.specs.Flat.{waiting_at, receiver_at, phase_at, phased_head, shortened, phased}
use Rattle.updates.specs.Known.{AtChannel, CanLeave, FirstAt}
use Rattle.updates.proofs.Lines.{SplitAt, split_at, none-there, first-found, none-found}
use Rattle.updates.proofs.Openings.{sound-called}
use Rattle.updates.proofs.Messages.{taken-back-held}
use Rattle.updates.proofs.Reading.{channel-known, channel-there, channel-numbers, channel-running, asking-code, not-asking-code}

module _ {ring : Ring} {k : ℕ} (h : AtChannel ring k) where
  abbrev σ : Network
  σ = view ring

  abbrev receiver : ℕ
  receiver = receiver_at ring.head k

  abbrev line : List ChannelNo
  line = (node σ (channel σ (channel_no k)).receiver).line

  called : call_ring (Runs.withdraw (channel_no k)) ring
      ≡ held_outcome
      (unless (is_asking (channel σ (channel_no k)).phase) (refused NotAsking)
      (unless (in_receiver_line σ (channel_no k)) (refused RequestInBuffer)
      (accepted done (take_back (channel_no k) σ))))
  unfolding Calls.withdraw
  called = rw (sound-called (Runs.withdraw (channel_no k)) ring h.ok, channel-running h, lt-ltb _ _ (channel-there h))

  pub withdraw-quiet : phase_at ring.head k ≢ 1 → call_ring (Runs.withdraw (channel_no k)) ring ≡ refused NotAsking
  withdraw-quiet quiet =
      called ∙ rw (not-asking-code (channel σ (channel_no k)).phase (λ e. quiet ((channel-numbers h).phase ∙ e)))

  -- the receiver node, and its line in memory
  there : (channel σ (channel_no k)).receiver.0 < count_of_nodes σ
  there = ((channel-known h).facts.each-channel k (channel-there h)).receiver-below

  pub receiver-within : receiver < node_room
  receiver-within = omega (arith, (channel-numbers h).receiver, there, (channel-known h).fits.nodes-fit)

  at-receiver : HeldNode ring σ (channel σ (channel_no k)).receiver.0
  at-receiver = (channel-known h).holds.nodes _ (omega (arith, there, (channel-known h).fits.nodes-fit))

  waits-as : waiting_at ring.head receiver ≡ length line
  waits-as = ap (waiting_at ring.head) (channel-numbers h).receiver ∙ at-receiver.waiting

  pub line-within : waiting_at ring.head receiver ≤ row_length
  line-within = rw waits-as ((channel-known h).fits.line-fits _ there)

  cell-is : (j : ℕ) → j < length line → get_or ring.lines (row_length * receiver + j) 0 ≡ get_or (cells_of line) j 0
  cell-is j l =
      let short : length line ≤ row_length = (channel-known h).fits.line-fits _ there in
      ap (λ p. get_or ring.lines (row_length * p + j) 0) (channel-numbers h).receiver
      ∙ sym (get_d-row row_length ring.lines _ j (omega arith))
      ∙ ap (λ r. get_or r j 0) at-receiver.line_row
      ∙ get_d-padded row_length (cells_of line) j (omega arith)

  -- the cells of the line, searched for the request
  abbrev base : ℕ
  base = row_length * receiver

  abbrev searched : Option ℕ
  searched = position (λ c. eqb c (k + 1)) (take (base + waiting_at ring.head receiver - base) (drop base ring.lines))

  in_line : searched ≡ position (λ c. eqb c (k + 1)) (take (waiting_at ring.head receiver) (drop base ring.lines))
  in_line = ap (λ n. position (λ c. eqb c (k + 1)) (take n (drop base ring.lines))) (omega arith)

  within-lines : base + waiting_at ring.head receiver ≤ length ring.lines
  within-lines = omega (arith, receiver-within, line-within, (channel-known h).holds.lines-whole)

  module _ (asks : phase_at ring.head k ≡ 1) where
    is-asking : (channel σ (channel_no k)).phase ≡ asking
    is-asking = asking-code _ (sym (channel-numbers h).phase ∙ asks)

    -- before the place that was found there is no cell of the channel
    not-before : {i : ℕ} → FirstAt ring.lines base (waiting_at ring.head receiver) (k + 1) i →
        (j : ℕ) → j < i → get_or (cells_of line) j 0 ≢ suc k
    not-before found j l e =
        found.not-before j l (cell-is j (omega (arith, found.within, waits-as)) ∙ e ∙ sym (add-one k))

    pub withdraw-gone : searched ≡ None → call_ring (Runs.withdraw (channel_no k)) ring ≡ refused RequestInBuffer
    withdraw-gone none =
        let found = none-found ring.lines base (waiting_at ring.head receiver) (k + 1) within-lines (sym in_line ∙ none) in
        called ∙ rw (is-asking, none-there k line (λ j l. not-before found j (omega (arith, waits-as))))

    module _ {i : ℕ} (place : searched ≡ Some i) where
      found : (i < waiting_at ring.head receiver)
          × FirstAt ring.lines base (waiting_at ring.head receiver) (k + 1) i
      found = first-found ring.lines base (waiting_at ring.head receiver) (k + 1) within-lines (sym in_line ∙ place)

      stands : SplitAt k line i
      stands =
          split_at k line i (omega (arith, found.0, waits-as)) (not-before found.1)
          (sym (cell-is i (omega (arith, found.0, waits-as))) ∙ found.1.there found.0 ∙ add-one k)

      -- what the code asks before the request leaves the line
      pub can-leave : CanLeave (phased_head ring.head k 0) receiver i
      can-leave = record { there = receiver-within; waits = found.0; within = line-within }

      pub withdraw-done : call_ring (Runs.withdraw (channel_no k)) ring ≡ accepted done (shortened (phased ring k 0) receiver i)
      withdraw-done =
          called
          ∙ rw (is-asking, lt-ltb 0 _ stands.stands)
          (ap (accepted done)
          (sym (taken-back-held σ (channel-known h).fits k (channel-there h) there is-asking i stands)
          ∙ ap (λ r. shortened (phased r k 0) (receiver_at r.head k) i) (channel-known h).laid-out))
