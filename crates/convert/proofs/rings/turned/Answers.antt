-- The tests of the code are those of the definition.
use Rattle.std.proofs.Common.{◌≡◌, Bool, true, false, ℕ, List, length, sym, ap, ◌∙◌, rules}
use Rattle.refusal.specs.declared.Refusal.TheVariants.{UnsoundRing}
use Rattle.wire.specs.Bytes.{Bytes}
use Rattle.network.specs.declared.Ring.{Ring}
use Rattle.network.specs.Answers.{step_of}
use Rattle.network.specs.Calls.{done, refused, accepted}
use Rattle.network.specs.Layout.{record_room, ring_in, sound_ring}
use Rattle.convert.specs.TurnedRing.{sound_in_tenths, turn_ring}
use Rattle.convert.specs.RingPass.{turned_records, records_in_tenths}
use Rattle.convert.proofs.RingTurned.{after, ring-turned, offers-pass, carried-passes, after-sound, ring-refused}
use Rattle.convert.proofs.rings.turned.Goals as goal

-- the records of every ring in memory are bytes, and as many as there should be
record InBytes (ring : Ring) : Type 0 where
  offers-whole : length ring.offers ≡ record_room
  offer-bytes : Bytes ring.offers
  carried-whole : length ring.carried ≡ record_room
  carried-bytes : Bytes ring.carried

module _ (ring : Ring) (h : InBytes ring) where
  -- refused: one of the tests fails, and would pass were the ring sound in tenths
  refuses : {b : Bool} → b ≡ false → (sound_in_tenths ring ≡ true → b ≡ true) → step_of ring (refused UnsoundRing) ≡ step_of ring (turn_ring ring)
  refuses fails would =
      sym (ap (step_of ring) (ring-refused ring h.offers-whole h.offer-bytes h.carried-whole h.carried-bytes fails would))

  offers-told : sound_in_tenths ring ≡ true → records_in_tenths ring.offers ≡ true
  offers-told = offers-pass ring h.offers-whole h.offer-bytes h.carried-whole h.carried-bytes

  carried-told : sound_in_tenths ring ≡ true → records_in_tenths ring.carried ≡ true
  carried-told = carried-passes ring h.offers-whole h.offer-bytes h.carried-whole h.carried-bytes

  -- the ring that the two loops leave
  abbrev made : Ring
  made = after ring h.offers-whole h.offer-bytes h.carried-whole h.carried-bytes

  left : {offers carried : List ℕ} → offers ≡ turned_records ring.offers → carried ≡ turned_records ring.carried →
      ring_in ring.head ring.slots ring.lines offers carried ≡ made
  left offers-are carried-are = λ i. ring_in ring.head ring.slots ring.lines (offers-are i) (carried-are i)

  made-sound : sound_in_tenths ring ≡ true → sound_ring made ≡ true
  made-sound = after-sound ring h.offers-whole h.offer-bytes h.carried-whole h.carried-bytes

pub returns-then-not-turn_records : goal.returns-then-not-turn_records
returns-then-not-turn_records c =
    let h : InBytes c.args.ring = search rules in
    refuses c.args.ring h c.if-not-turn_records.true (λ ok. c.turn_records.ensures.0 ∙ offers-told c.args.ring h ok)

pub returns-then-not-turn_records-2 : goal.returns-then-not-turn_records-2
returns-then-not-turn_records-2 c =
    let h : InBytes c.args.ring = search rules in
    refuses c.args.ring h c.if-not-turn_records-2.true (λ ok. c.turn_records-2.ensures.0 ∙ carried-told c.args.ring h ok)

pub returns-then-not-is_sound : goal.returns-then-not-is_sound
returns-then-not-is_sound c =
    let ring : Ring = c.args.ring in
    let h : InBytes ring = search rules in
    let is-made = left ring h c.turn_records.ensures.1 c.turn_records-2.ensures.1 in
    refuses ring h c.if-not-is_sound.true (λ ok. c.is_sound.ensures ∙ ap sound_ring is-made ∙ made-sound ring h ok)

pub returns : goal.returns
returns c =
    let ring : Ring = c.args.ring in
    let h : InBytes ring = search rules in
    let is-made = left ring h c.turn_records.ensures.1 c.turn_records-2.ensures.1 in
    let offers-in = sym c.turn_records.ensures.0 ∙ c.if-not-turn_records.false in
    let carried-in = sym c.turn_records-2.ensures.0 ∙ c.if-not-turn_records-2.false in
    let ok = sym (c.is_sound.ensures ∙ ap sound_ring is-made) ∙ c.if-not-is_sound.false in
    ap (λ r. step_of ring (accepted done r)) is-made
    ∙ sym (ap (step_of ring)
    (ring-turned ring h.offers-whole h.offer-bytes h.carried-whole h.carried-bytes offers-in carried-in ok))
