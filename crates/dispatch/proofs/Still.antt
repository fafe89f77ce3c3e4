-- When nothing is on the ring: on a sound ring the search among the phases is the test of the definition.
use Prim.Native.Nat.{ℕ, zero, suc, ◌+◌, ◌≤◌, ◌<◌}
use mathlib.Core.Path.{◌≡◌, refl, sym, ap, ◌∙◌}
use mathlib.Core.Bool.{Bool, true, false, not, ◌||◌}
use mathlib.Core.List.{List}
use native.Mathlib.Omega.{arith}
use lib.Dec.{eqb}
use lib.ListN.{length, get_or, take}
use native.Mathlib.Numerals.{add-one}
use borrow.Author.Tests.{ne_eqb}
use Rattle.std.specs.List.{list_any}
use Rattle.std.proofs.lemmas.List.Folds.{list_any_more}
use Rattle.network.specs.declared.Ring.{Ring}
use Rattle.network.specs.Counting.{one, sum}
use Rattle.network.specs.Network.{Phase, resting, asking, ready, answering, channel_no, count_of_channels, channel, moving}
use Rattle.network.specs.Layout.{channel_room, phase_code, view, hold, hold_head, sound_ring}
use Rattle.network.specs.Dispatch.{still}
use Rattle.network.proofs.Ground.Splits.{both_ways}
use Rattle.network.proofs.Memory.Rows.{length-tabulate}
use Rattle.network.proofs.Memory.Held.{SoundRing, sound-ring}
use Rattle.dispatch.specs.Rounds.{is_moving, none_moving}

-- the number of a phase tells whether its channel's message is on the ring
code-moves : (f : Phase) → is_moving (phase_code f) ≡ moving f
code-moves resting = refl
code-moves asking = refl
code-moves ready = refl
code-moves (answering x) = refl

-- none of the first n is counted where each test fails
none-counted : (phases : List ℕ) (n : ℕ) (f : ℕ → Bool) → n ≤ length phases → ((k : ℕ) → k < n → is_moving (get_or phases k 0) ≡ f k) →
    not (list_any is_moving (take n phases)) ≡ eqb (sum n (λ k. one (f k))) 0
unfolding sum
none-counted phases zero f l same = refl
none-counted phases (suc n) f l same =
    ap (λ m. not (list_any is_moving (take m phases))) (sym (add-one n))
    ∙ ap not (list_any_more is_moving phases n 0 (omega arith))
    ∙ one_more (sum n (λ k. one (f k))) _ (f n) (none-counted phases n f (omega arith) (λ k m. same k (omega arith)))
    (same n (omega arith))
  where
    one_more : (m : ℕ) (some : Bool) {here : Bool} (b : Bool) → not some ≡ eqb m 0 → here ≡ b → not (some || here) ≡ eqb (m + one b) 0
    one_more zero true b none is = both_ways none refl
    one_more zero false true none is = rw is refl
    one_more zero false false none is = rw is refl
    one_more (suc m) true b none is = rw (ne_eqb (suc m + one b) 0 (λ e. omega arith)) refl
    one_more (suc m) false b none is = both_ways (sym none) (ne_eqb (suc m) 0 (λ e. omega arith))

module _ (ring : Ring) (ok : sound_ring ring ≡ true) where
  abbrev s : SoundRing ring
  s = sound-ring ring ok

  pub channels-within : ring.head.channel_count ≤ channel_room
  channels-within = omega (arith, s.holds.channel-count, s.fits.channels-fit)

  phases-whole : length ring.head.phases ≡ channel_room
  unfolding hold hold_head
  phases-whole = ap (λ r. length r.head.phases) (sym s.laid-out) ∙ length-tabulate channel_room _

  pub still-is : none_moving ring.head.phases ring.head.channel_count ≡ still (view ring)
  still-is =
      ap (λ n. not (list_any is_moving (take n ring.head.phases))) s.holds.channel-count
      ∙ none-counted ring.head.phases (count_of_channels (view ring)) (λ k. moving (channel (view ring) (channel_no k)).phase)
      (omega (arith, phases-whole, s.fits.channels-fit))
      (λ k l.
      ap is_moving (s.holds.channels k (omega (arith, l, s.fits.channels-fit))).phase
      ∙ code-moves (channel (view ring) (channel_no k)).phase)
