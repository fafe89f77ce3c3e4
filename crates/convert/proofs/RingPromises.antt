-- What is promised of every ring that is turned, and the worked rings in memory.
use Prim.Native.Nat.{ℕ}
use mathlib.Core.Path.{◌≡◌, refl, sym, ap, subst, ◌∙◌}
use mathlib.Core.Bool.{Bool, true, false, ◌&&◌, false≢true}
use native.Mathlib.Omega.{arith}
use lib.IntN.{pos}
use lib.ListN.{length-map}
use Rattle.refusal.specs.declared.Refusal.TheVariants.{UnsoundRing}
use Rattle.batch.specs.Good.{every}
use Rattle.numbers.proofs.Splits.{by-test}
use Rattle.network.specs.declared.Ring.{Ring}
use Rattle.network.specs.Network.{Network, Phase, resting, asking, ready, answering, no_channel, channel_no, channel, count_of_channels}
use Rattle.network.specs.Sound.{sound}
use Rattle.network.specs.Calls.{Outcome, done, refused, accepted}
use Rattle.network.specs.Layout.{ring_limits, view, hold, laid_out, sound_ring}
use Rattle.network.proofs.Ground.Splits.{and_left, and_right}
use Rattle.network.proofs.Lists.Clauses.{facts}
use Rattle.network.proofs.Memory.Held.{Fits, CarriedFits, view-hold, held-laid-out, sound-fits, sound-hold, hold-fresh}
use Rattle.network.proofs.Promises.BlankEnds.{held-answers}
use Rattle.network.specs.Worked.BlankEnds.{whole_way, way_back}
use Rattle.convert.specs.TurnedRing.{tenfold_phase, tenfold_ring, offer_in_tenths, phase_in_tenths, channel_in_tenths, sound_in_tenths, turn_ring, TurnedSound, TurnsHeld}
use Rattle.convert.specs.RingExamples.{offering, carrying, Turned, TurnsTo, NotSound, Says25}
use Rattle.convert.proofs.RingBytes.{with-temperature}
use Rattle.convert.proofs.RingTurned.{every-at, channel-tenfold, offer-back, tenths-fit}
use Rattle.convert.proofs.ComputedRings.{TurnsOnLists, on-lists, NotInTenths, none-on-lists}

-- what is accepted
abbrev ring_or : Ring → Outcome Ring → Ring
ring_or r (refused x) = r
ring_or r (accepted e s) = s

abbrev is_accepted : Outcome Ring → Bool
is_accepted (refused x) = false
is_accepted (accepted e s) = true

pub turned-sound : TurnedSound
unfolding turn_ring sound_in_tenths
turned-sound ring after e =
    let σ = tenfold_ring (view ring) in
    by-test (sound_in_tenths ring)
    (λ t.
    let ok : sound ring_limits σ ≡ true = and_right (laid_out ring && every channel_in_tenths (view ring).channels) (sound ring_limits σ) t in
    let same : hold σ ≡ after = ap (ring_or ring) (rw t at e) in
    (subst (λ r. sound_ring r ≡ true) same (sound-hold σ ok), ap view (sym same) ∙ view-hold σ (sound-fits σ (facts ring_limits σ ok))))
    (λ f. absurd (false≢true (ap is_accepted (rw f at e))))

-- ---- a ring laid out
module _ (σ : Network) (fits : Fits σ) where
  read_back : view (hold σ) ≡ σ
  read_back = view-hold σ fits

  pub held-refused : every channel_in_tenths σ.channels ≡ false → turn_ring (hold σ) ≡ refused UnsoundRing
  unfolding turn_ring sound_in_tenths
  held-refused out = rw (read_back, out, held-laid-out (hold σ) (ap hold read_back))

phase-back : (f : Phase) → phase_in_tenths f ≡ true → CarriedFits (tenfold_phase f) → CarriedFits f
phase-back resting e h = tt
phase-back asking e h = tt
phase-back ready e h = tt
phase-back (answering x) e h = with-temperature _ x.temperature h (tenths-fit x.temperature e)

module _ (σ : Network) (in-tenths : every channel_in_tenths σ.channels ≡ true) (ok : sound ring_limits (tenfold_ring σ) ≡ true) where
  after-fits : Fits (tenfold_ring σ)
  after-fits = sound-fits (tenfold_ring σ) (facts ring_limits (tenfold_ring σ) ok)

  as_many : count_of_channels (tenfold_ring σ) ≡ count_of_channels σ
  as_many = length-map σ.channels _

  channel-in : (k : ℕ) → channel_in_tenths (channel σ (channel_no k)) ≡ true
  channel-in k = every-at channel_in_tenths σ.channels k no_channel refl in-tenths

  before-fits : Fits σ
  before-fits = record {
    nodes-fit = after-fits.nodes-fit;
    channels-fit = omega (arith, as_many, after-fits.channels-fit);
    buffer-fits = after-fits.buffer-fits;
    line-fits = after-fits.line-fits;
    offer-fits = λ k l.
        offer-back (channel σ (channel_no k)).offer (and_left (offer_in_tenths (channel σ (channel_no k)).offer) _ (channel-in k))
        (rw (channel-tenfold σ k) at (after-fits.offer-fits k (omega (arith, as_many))));
    carried-fits = λ k l.
        phase-back (channel σ (channel_no k)).phase (and_right (offer_in_tenths (channel σ (channel_no k)).offer) _ (channel-in k))
        (rw (channel-tenfold σ k) at (after-fits.carried-fits k (omega (arith, as_many))));
  }

  held-turned-to : turn_ring (hold σ) ≡ accepted done (hold (tenfold_ring σ))
  unfolding turn_ring sound_in_tenths
  held-turned-to =
      let back = read_back σ before-fits in
      rw (back, in-tenths, ok, held-laid-out (hold σ) (ap hold back))

pub turns-held : TurnsHeld
turns-held σ in-tenths ok = held-turned-to σ in-tenths ok

-- ---- the worked rings
turns-to : {before after : Network} → TurnsOnLists before after → TurnsTo before after
turns-to {before} t =
    turns-held before t.in-tenths (ap (sound ring_limits) t.tenfold ∙ t.is-sound) ∙ ap (λ σ. accepted done (hold σ)) t.tenfold

pub turned : Turned
turned =
    let worked = on-lists in
    record {
      offer = turns-to worked.offer;
      carried = turns-to worked.carried;
      both = turns-to worked.both;
      hottest = turns-to worked.hottest;
      fresh-ring = ap turn_ring (sym hold-fresh) ∙ turns-to worked.fresh-ring ∙ ap (accepted done) hold-fresh;
      offer-delivered = held-answers (offering (pos 6120)) whole_way worked.offer.is-sound ∙ worked.offer-delivered;
      carried-delivered = held-answers (carrying (pos 6120)) way_back worked.carried.is-sound ∙ worked.carried-delivered;
    }

says-25 : {σ : Network} → NotInTenths σ → Says25 σ
says-25 {σ} n = held-refused σ (sound-fits σ (facts ring_limits σ n.is-sound)) n.out

pub not_sound : NotSound
not_sound =
    let worked = none-on-lists in
    record {
      offer-too-hot = says-25 worked.offer-too-hot;
      offer-too-cold = says-25 worked.offer-too-cold;
      carried-too-hot = says-25 worked.carried-too-hot;
      carried-alone = says-25 worked.carried-alone;
      offer-alone = says-25 worked.offer-alone;
      comes-round = says-25 worked.comes-round;
      in-hundredths = says-25 worked.in-hundredths;
    }
