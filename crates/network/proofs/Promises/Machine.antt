-- What is shown of the ring apart from its layout holds of anything that answers ring calls the same way: a `Machine`. Its runs are
-- runs of the ring that it holds, call for call, so delivery in time and order are carried over, and demand 3 is whole.
use mathlib.Core.Path.{◌≡◌, refl, ap, ◌∙◌}
use mathlib.Core.Logic.{◌⊎◌, inl, inr, ⊎_elim}
use mathlib.Core.Bool.{Bool, true, false}
use mathlib.Core.List.{List, [], ◌∷◌, map}
use Rattle.refusal.specs.declared.Refusal.TheVariants.{UnsoundRing}
use Rattle.batch.specs.declared.BatchRecord.{BatchRecord}
use Rattle.numbers.specs.declared.ChannelNo.{ChannelNo}
use Rattle.network.specs.Network.{Network}
use Rattle.network.specs.Network
use Rattle.network.specs.Sound.{Limits}
use Rattle.network.specs.Sound
use Rattle.network.specs.Calls.{Outcome, refused, accepted}
use Rattle.network.specs.Runs.{Call, enter, move, call, after, is_accepted, count_of, deed_by, offered_by, delivered_by, run, deeds, counted, offered_on, delivered_on}
use Rattle.network.specs.Answers.{said_in, says, answers}
use Rattle.network.specs.Dispatch.{handed_by, deliveries}
use Rattle.network.specs.Demand.{InTime, UnderWay, Served, InOrder, AsDefined, Demand3}

abbrev pub seen_by : {S : Type 0} → (S → Network) → Outcome S → Outcome Network
seen_by seen (refused r) = refused r
seen_by seen (accepted e s) = accepted e (seen s)

-- the same outcome but for what holds the ring: each question about it has the same answer
module _ {S : Type 0} (seen : S → Network) where
  seen-after : (s : S) (o : Outcome S) → seen (after s o) ≡ after (seen s) (seen_by seen o)
  seen-after s (refused r) = refl
  seen-after s (accepted e t) = refl

  seen-accepted : (o : Outcome S) → is_accepted o ≡ is_accepted (seen_by seen o)
  seen-accepted (refused r) = refl
  seen-accepted (accepted e t) = refl

  seen-said : (o : Outcome S) → said_in o ≡ said_in (seen_by seen o)
  seen-said (refused r) = refl
  seen-said (accepted e t) = refl

  seen-deed : (a : Call) (o : Outcome S) → deed_by a o ≡ deed_by a (seen_by seen o)
  seen-deed a (refused r) = refl
  seen-deed a (accepted e t) = refl

  seen-offered : (k : ChannelNo) (a : Call) (o : Outcome S) → offered_by k a o ≡ offered_by k a (seen_by seen o)
  seen-offered k a (refused r) = refl
  seen-offered k a (accepted e t) = refl

  seen-delivered : (k : ChannelNo) (o : Outcome S) → delivered_by k o ≡ delivered_by k (seen_by seen o)
  seen-delivered k (refused r) = refl
  seen-delivered k (accepted e t) = refl

  pub seen-handed : (o : Outcome S) → handed_by o ≡ handed_by (seen_by seen o)
  seen-handed (refused r) = refl
  seen-handed (accepted e t) = refl

pub record Machine (L : Limits) {S : Type 0} (fresh : S) (sound : S → Bool) (seen : S → Network) (step : Call → S → Outcome S) : Type 0 where
  pub fresh-sound : sound fresh ≡ true
  pub fresh-seen : seen fresh ≡ Network.fresh
  pub seen-sound : (s : S) → sound s ≡ true → Sound.sound L (seen s) ≡ true
  pub step-seen : (a : Call) (s : S) → sound s ≡ true → seen_by seen (step a s) ≡ call L a (seen s)
  pub step-sound : (a : Call) (s : S) → sound s ≡ true → sound (after s (step a s)) ≡ true
  pub step-unsound : (a : Call) (s : S) → sound s ≡ false → step a s ≡ refused UnsoundRing

module _ (L : Limits) {S : Type 0} (fresh : S) (sound : S → Bool) (seen : S → Network) (step : Call → S → Outcome S) (M : Machine L fresh sound seen step) where
  open M use {fresh-sound, fresh-seen, seen-sound, step-seen, step-sound, step-unsound}

  pub seen_next : (a : Call) (s : S) → sound s ≡ true → seen (after s (step a s)) ≡ after (seen s) (call L a (seen s))
  seen_next a s h = seen-after seen s (step a s) ∙ ap (after (seen s)) (step-seen a s h)

  pub run_sound : (calls : List Call) (s : S) → sound s ≡ true → sound (run step calls s) ≡ true
  run_sound [] s h = h
  run_sound (a ∷ calls) s h = run_sound calls (after s (step a s)) (step-sound a s h)

  pub run-seen : (calls : List Call) (s : S) → sound s ≡ true → seen (run step calls s) ≡ run (call L) calls (seen s)
  run-seen [] s h = refl
  run-seen (a ∷ calls) s h = run-seen calls (after s (step a s)) (step-sound a s h) ∙ ap (run (call L) calls) (seen_next a s h)

  pub said-seen : (a : Call) (s : S) → sound s ≡ true → said_in (step a s) ≡ said_in (call L a (seen s))
  said-seen a s h = seen-said seen (step a s) ∙ ap said_in (step-seen a s h)

  answers-seen : (calls : List Call) (s : S) → sound s ≡ true → answers step calls s ≡ answers (call L) calls (seen s)
  answers-seen [] s h = refl
  answers-seen (a ∷ calls) s h =
      rw (said-seen a s h, answers-seen calls (after s (step a s)) (step-sound a s h), seen_next a s h)

  as-defined : (s : S) (calls : List Call) → sound s ≡ true → AsDefined fresh sound seen step L s calls
  as-defined s calls h =
      record { same-answers = answers-seen calls s h; same-ring = run-seen calls s h; still-sound = run_sound calls s h }

  -- an unsound ring is refused and stays, so the next call finds it unsound too
  answers-25 : (calls : List Call) (s : S) → sound s ≡ false → answers step calls s ≡ map (λ a. says 25) calls
  answers-25 [] s h = refl
  answers-25 (a ∷ calls) s h = rw (step-unsound a s h, answers-25 calls s h)

  run-stays : (calls : List Call) (s : S) → sound s ≡ false → run step calls s ≡ s
  run-stays [] s h = refl
  run-stays (a ∷ calls) s h = rw (step-unsound a s h, run-stays calls s h)

  deeds-seen : (calls : List Call) (s : S) → sound s ≡ true → deeds step calls s ≡ deeds (call L) calls (seen s)
  deeds-seen [] s h = refl
  deeds-seen (a ∷ calls) s h =
      rw (seen-deed seen a (step a s), step-seen a s h, deeds-seen calls (after s (step a s)) (step-sound a s h), seen_next a s h)

  pub counted-seen : (calls : List Call) (s : S) → sound s ≡ true → counted step calls s ≡ counted (call L) calls (seen s)
  counted-seen calls s h = ap count_of (deeds-seen calls s h)

  pub offered-seen : (k : ChannelNo) (calls : List Call) (s : S) → sound s ≡ true → offered_on step k calls s ≡ offered_on (call L) k calls (seen s)
  offered-seen k [] s h = refl
  offered-seen k (a ∷ calls) s h =
      rw (seen-offered seen k a (step a s), step-seen a s h, offered-seen k calls (after s (step a s)) (step-sound a s h), seen_next a s h)

  handed-seen : (k : ChannelNo) (calls : List Call) (s : S) → sound s ≡ true → delivered_on step k calls s ≡ delivered_on (call L) k calls (seen s)
  handed-seen k [] s h = refl
  handed-seen k (a ∷ calls) s h =
      rw (seen-delivered seen k (step a s), step-seen a s h, handed-seen k calls (after s (step a s)) (step-sound a s h), seen_next a s h)

  pub deliveries-seen : (calls : List Call) (s : S) → sound s ≡ true → deliveries step calls s ≡ deliveries (call L) calls (seen s)
  deliveries-seen [] s h = refl
  deliveries-seen (a ∷ calls) s h =
      rw (seen-handed seen (step a s), step-seen a s h, deliveries-seen calls (after s (step a s)) (step-sound a s h), seen_next a s h)

  accepted-seen : (a : Call) (s : S) → sound s ≡ true → is_accepted (step a s) ≡ is_accepted (call L a (seen s))
  accepted-seen a s h = seen-accepted seen (step a s) ∙ ap is_accepted (step-seen a s h)

  -- what is shown of the definitions, carried over
  module _ (D : Served Network.fresh (Sound.sound L) (λ σ. σ) (call L)) (O : InOrder Network.fresh (Sound.sound L) (λ σ. σ) (call L)) where
    in-time : (s : S) (m : ChannelNo) (x : BatchRecord) (calls : List Call) → sound s ≡ true →
        InTime Network.fresh (Sound.sound L) (λ σ. σ) (call L) (seen s) m x calls → InTime fresh sound seen step s m x calls
    in-time s m x calls h i =
        record {
          up_to = i.up_to;
          rest = i.rest;
          split = i.split;
          first = handed-seen m i.up_to s h ∙ i.first;
          within = rw (counted-seen i.up_to s h) i.within;
        }

    under-way : (s : S) (m : ChannelNo) (calls : List Call) → sound s ≡ true →
        UnderWay Network.fresh (Sound.sound L) (λ σ. σ) (call L) (seen s) m calls → UnderWay fresh sound seen step s m calls
    under-way s m calls h u =
        let on = run_sound calls s h in
        record {
          none_yet = handed-seen m calls s h ∙ u.none_yet;
          fewer = rw (counted-seen calls s h) u.fewer;
          at = u.at;
          next-accepted =
              rw (accepted-seen (enter u.at) _ on, accepted-seen (move u.at) _ on, run-seen calls s h) u.next-accepted;
        }

    pub carried-over : Demand3 fresh sound seen step L
    carried-over =
        record {
          each = as-defined;
          unsound = λ s calls h. record { all-25 = answers-25 calls s h; ring-stays = run-stays calls s h };
          served = λ s m x calls h b e on.
              ⊎_elim (λ i. inl (in-time s m x calls h i)) (λ u. inr (under-way s m calls h u))
              (D (seen s) m x calls (seen-sound s h) b e (rw (deeds-seen calls s h) at on));
          in_order = λ k calls.
              let r = O k calls in
              (r.0, rw (offered-seen k calls fresh fresh-sound, handed-seen k calls fresh fresh-sound, fresh-seen) r.1);
        }
