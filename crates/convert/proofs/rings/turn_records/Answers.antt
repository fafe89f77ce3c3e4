-- A turn of the loop turns the record of channel `k`, which is as it was before.
use Rattle.std.proofs.Common.{◌≡◌, ◌&&◌, ℕ, ◌+◌, ◌<◌, suc, Bool, true, false, List, SFits, refl, sym, ap, ◌∙◌, arith, rules, add-one}
use mir.Syntax.{w16}
use Rattle.std.proofs.lemmas.Int.{to_z-of_z}
use Rattle.batch.specs.Sending.{in_tenths}
use Rattle.batch.specs.declared.BatchRecord.{BatchRecord}
use Rattle.network.specs.Counting.{all_below}
use Rattle.network.specs.Layout.{channel_room, record_at}
use Rattle.updates.specs.Flat.{recorded}
use Rattle.convert.specs.RingPass.{turned_record, records_in_tenths}
use Rattle.convert.proofs.RingBytes.{so_far, none-turned, still-there, one_more, all-turned}
use Rattle.convert.proofs.rings.turn_records.Goals as goal
use Rattle.convert.proofs.rings.turn_records.Goals.{then-not-in_tenths, else-not-in_tenths}

-- one test more
and_none : (a b : Bool) → b ≡ false → false ≡ (a && b)
and_none true b e = sym e
and_none false b e = refl

and-more : (a b : Bool) → b ≡ true → a ≡ (a && b)
and-more true b e = sym e
and-more false b e = refl

pub loop-k-init : goal.loop-k-init
unfolding all_below
loop-k-init c = (omega arith, sym (none-turned c.args.records.now c.requires.1 c.requires.0), refl)

pub loop-k-preserved : goal.loop-k-preserved
unfolding all_below
loop-k-preserved c =
    let b : List ℕ = c.args.records.now in
    let k : ℕ = c.loop-k.k in
    let x : BatchRecord = c.record_of-record.result in
    let below : k < channel_room = omega arith in
    let next : k + 1 ≡ suc k = add-one k in
    let record_is : x ≡ record_at b k =
    c.record_of-record.ensures ∙ ap (λ r. record_at r k) c.loop-k.invariant.1 ∙ still-there b c.requires.1 c.requires.0 k below in
    let fits : SFits w16 x.temperature = search rules in
    let here : Bool = in_tenths (record_at b k).temperature in
    let before : Bool = all_below k (λ j. in_tenths (record_at b j).temperature) in
    let tested : c.in_tenths.result ≡ here =
    (rw (to_z-of_z w16 _ fits) at c.in_tenths.ensures) ∙ ap (λ (y : BatchRecord). in_tenths y.temperature) record_is in
    let turned : c.turned_record.result ≡ turned_record (record_at b k) = c.turned_record.ensures ∙ ap turned_record record_is in (
      omega arith,
      rw next
          (c.set_record.ensures
          ∙ ap (λ r. recorded r k c.turned_record.result) c.loop-k.invariant.1
          ∙ ap (recorded (so_far b k) k) turned
          ∙ one_more b c.requires.1 c.requires.0 k below),
      rw next
          (elim c.if-not-in_tenths.branch [
            | then-not-in_tenths w ↦ w.tenths-is ∙ and_none before here (sym tested ∙ w.if-not-in_tenths.true)
            | else-not-in_tenths w ↦ w.tenths-is ∙ c.loop-k.invariant.2 ∙ and-more before here (sym tested ∙ w.if-not-in_tenths.false)
          ]),
    )

pub returns : goal.returns
unfolding records_in_tenths
returns c =
    let b : List ℕ = c.args.records.now in
    let end : c.loop-k.k ≡ channel_room = omega arith in
    (rw end at c.loop-k.invariant.2, (rw end at c.loop-k.invariant.1) ∙ all-turned b)
