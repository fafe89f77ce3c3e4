-- The records of a ring in their bytes, and the same turned: what is read of the one and of the other, and that either tells the other where
-- every temperature is one in tenths.
use Prim.Native.Nat.{ℕ, suc, ◌-◌, ◌*◌, ◌<◌, ◌≤◌, ◌^◌}
use mathlib.Core.Path.{◌≡◌, refl, sym, ap, ◌∙◌}
use mathlib.Core.Bool.{true, cond}
use mathlib.Core.List.{List, []}
use mathlib.Core.Option.{Option, none, some}
use mathlib.Core.Logic.{◌⊎◌, ⊎_elim}
use native.Mathlib.Omega.{arith}
use lib.Dec.{ltb}
use lib.IntN.{ℤ, pos, negsuc, pos-ne-negsuc}
use lib.Signed.{mag}
use lib.ListN.{length, drop, replicate, length-drop}
use lib.Seq.{take_all, length-take-le}
use borrow.Author.Tests.{lt-ltb, le-ltb, ltb-true, ltb-false}
use Rattle.batch.specs.declared.BatchRecord.{BatchRecord}
use Rattle.batch.specs.Good.{name_limit}
use Rattle.batch.specs.Blank.{no_record}
use Rattle.batch.specs.Sending.{in_tenths, tenfold}
use Rattle.numbers.proofs.Splits.{by-test}
use Rattle.batch.proofs.Temperatures.{below-zero, tenfold-fits}
use Rattle.wire.specs.Bytes.{number, number_at, signed, Bytes}
use Rattle.wire.specs.Record.{record_length, record_bytes, record_in, RecordFits}
use Rattle.wire.proofs.Bytes.{bytes_take, bytes_drop, part-bound}
use Rattle.wire.proofs.Record.{record-writes-back, length-record, blank-record}
use Rattle.network.specs.Layout.{channel_room, record_room, row, rows, padded, record_at, offer_bytes}
use Rattle.network.proofs.Ground.Tests.{all-below, below_all}
use Rattle.network.proofs.Memory.Rows.{padded-whole, padded-none, row-length, row-end, row-rows, rows-length, rows_is, rows_same, rows-put, put_row}
use Rattle.network.proofs.Memory.Held.{record-kept, OfferFits}
use Rattle.updates.specs.Flat.{recorded}
use Rattle.updates.proofs.Records.{recorded_row}
use Rattle.convert.specs.TablePass.{turned_cell}
use Rattle.convert.specs.TurnedRing.{tenfold_record, tenfold_offer, offer_in_tenths}
use Rattle.convert.specs.RingPass.{turned_record, turned_records, records_in_tenths}

-- ---- what is read off 40 bytes fits
signed-fits : (n : ℕ) → n < 65536 → mag (signed n) < 2 ^ 15
unfolding signed
signed-fits n h =
    by-test (ltb n 32768) (λ e. rw e (ltb-true n 32768 e))
    (λ e. let high : 32768 ≤ n = ltb-false n 32768 e in let low : 65535 - n < 32768 = omega arith in rw e low)

record-in-fits : (b : List ℕ) → Bytes b → length b ≡ record_length → RecordFits (record_in b)
unfolding record_in
record-in-fits b s e = record {
  batch = part-bound 0 4 b s (omega arith);
  vessel = part-bound 4 1 b s (omega arith);
  temperature = signed-fits (number_at 5 2 b) (part-bound 5 2 b s (omega arith));
  name-length = part-bound 7 1 b s (omega arith);
  name-width = length-take-le name_limit (drop 8 b) (omega (arith, length-drop 8 b));
  name = bytes_take name_limit (drop 8 b) (bytes_drop 8 b s);
}

-- with another temperature that fits, a record fits
pub with-temperature : (x : BatchRecord) (t : ℤ) → RecordFits x → mag t < 2 ^ 15 →
    RecordFits (record { batch = x.batch; vessel = x.vessel; temperature = t; name_length = x.name_length; name = x.name })
with-temperature x t f h = record {
  batch = f.batch;
  vessel = f.vessel;
  temperature = h;
  name-length = f.name-length;
  name-width = f.name-width;
  name = f.name;
}

-- ten times as many fit where the temperature is one in tenths, and what stays fits as before
turned-fits : (x : BatchRecord) → RecordFits x → RecordFits (turned_record x)
turned-fits x f =
    with-temperature x (turned_cell x.temperature) f
    (by-test (in_tenths x.temperature) (λ e. rw e (tenfold-fits x.temperature e)) (λ e. rw e f.temperature))

pub tenfold-is : (x : BatchRecord) → in_tenths x.temperature ≡ true → turned_record x ≡ tenfold_record x
tenfold-is x e = rw e

-- ---- no record
blank-in : record_in (padded record_length []) ≡ no_record
unfolding record_in padded number signed no_record
blank-in = refl

blank-turned : turned_record no_record ≡ no_record
unfolding no_record
blank-turned = refl

blank-row : padded record_length (record_bytes no_record) ≡ padded record_length []
blank-row = ap (padded record_length) blank-record ∙ padded-whole record_length (replicate record_length 0) refl ∙ sym (padded-none record_length)

-- ten times as many are none only of none
tenfold-none : (z : ℤ) → pos 0 ≡ tenfold z → z ≡ pos 0
tenfold-none (pos n) e = ap pos (omega (arith, ap mag e))
tenfold-none (negsuc n) e = absurd (pos-ne-negsuc _ _ (e ∙ below-zero n))

blank-back : (x : BatchRecord) → no_record ≡ tenfold_record x → x ≡ no_record
unfolding no_record
blank-back x e =
    λ i. record {
      batch = sym (ap (λ (y : BatchRecord). y.batch) e) i;
      vessel = sym (ap (λ (y : BatchRecord). y.vessel) e) i;
      temperature = tenfold-none x.temperature (ap (λ (y : BatchRecord). y.temperature) e) i;
      name_length = sym (ap (λ (y : BatchRecord). y.name_length) e) i;
      name = sym (ap (λ (y : BatchRecord). y.name) e) i;
    }

-- ---- the rows
module _ (b : List ℕ) (s : Bytes b) (whole : length b ≡ record_room) where
  row-whole : (k : ℕ) → k < channel_room → length (row record_length b k) ≡ record_length
  row-whole k l = row-length record_length b k (omega (arith, row-end record_length channel_room k l, whole))

  row-bytes : (k : ℕ) → Bytes (row record_length b k)
  unfolding row
  row-bytes k = bytes_take record_length (drop (record_length * k) b) (bytes_drop (record_length * k) b s)

  pub at-fits : (k : ℕ) → k < channel_room → RecordFits (record_at b k)
  at-fits k l = record-in-fits (row record_length b k) (row-bytes k) (row-whole k l)

  -- a row is the bytes of its record
  row_is : (k : ℕ) → k < channel_room → record_bytes (record_at b k) ≡ row record_length b k
  row_is k l =
      record-writes-back (row record_length b k) (row-bytes k) (omega (arith, row-whole k l))
      ∙ take_all record_length (row record_length b k) (omega (arith, row-whole k l))

  padded-is-row : (k : ℕ) → k < channel_room → padded record_length (record_bytes (record_at b k)) ≡ row record_length b k
  padded-is-row k l = padded-whole record_length _ (length-record (at-fits k l)) ∙ row_is k l

  -- the turned records, read
  pub read-turned : (k : ℕ) → k < channel_room → record_at (turned_records b) k ≡ turned_record (record_at b k)
  unfolding turned_records
  read-turned k l =
      ap record_in (row-rows record_length channel_room (λ j. record_bytes (turned_record (record_at b j))) k l)
      ∙ record-kept _ (turned-fits (record_at b k) (at-fits k l))

  -- From the turned records back: where these are the rows of what is offered, ten times as many, the records are the rows of what is offered.
  module _ (o : ℕ → Option BatchRecord) (is : (k : ℕ) → k < channel_room → (o k ≡ none) ⊎ (o k ≡ some (record_at b k)))
      (tenths : records_in_tenths b ≡ true)
      (e : rows record_length channel_room (λ k. offer_bytes (tenfold_offer (o k))) ≡ turned_records b) where
    in-tenths : (k : ℕ) → k < channel_room → in_tenths (record_at b k).temperature ≡ true
    unfolding records_in_tenths
    in-tenths k l = all-below channel_room (λ j. in_tenths (record_at b j).temperature) tenths k l

    no-offer : (k : ℕ) → k < channel_room → o k ≡ none → record_at b k ≡ no_record
    no-offer k l q =
        let read : record_in (padded record_length (offer_bytes (tenfold_offer (o k)))) ≡ turned_record (record_at b k) =
        ap record_in (sym (row-rows record_length channel_room (λ j. offer_bytes (tenfold_offer (o j))) k l))
        ∙ ap (λ r. record_at r k) e
        ∙ read-turned k l in
        blank-back (record_at b k)
        (sym blank-in
        ∙ ap (λ p. record_in (padded record_length (offer_bytes (tenfold_offer p)))) (sym q)
        ∙ read
        ∙ tenfold-is (record_at b k) (in-tenths k l))

    pub rows_back : rows record_length channel_room (λ k. offer_bytes (o k)) ≡ b
    rows_back =
        rows_is record_length channel_room (λ k. offer_bytes (o k)) b whole (λ k l. ⊎_elim
        (λ q.
        ap (λ p. padded record_length (offer_bytes p)) q
        ∙ sym blank-row
        ∙ ap (λ x. padded record_length (record_bytes x)) (sym (no-offer k l q))
        ∙ padded-is-row k l)
        (λ q. ap (λ p. padded record_length (offer_bytes p)) q ∙ padded-is-row k l)
        (is k l))

-- ---- the loop: the first i records are turned, the others are as they were
module _ (b : List ℕ) where
  abbrev turned_to : ℕ → ℕ → List ℕ
  turned_to i k = cond (ltb k i) (record_bytes (turned_record (record_at b k))) (row record_length b k)

  unfoldable pub so_far : ℕ → List ℕ
  so_far i = rows record_length channel_room (turned_to i)

  -- only record i is turned in turn i
  others : (i k : ℕ) → (k ≡ i → ⊥) → turned_to (suc i) k ≡ turned_to i k
  others i k d =
      by-test (ltb k i)
      (λ e. rw (e, lt-ltb k (suc i) (omega (arith, ltb-true k i e))))
      (λ e. rw (e, le-ltb k (suc i) (omega (arith, d, ltb-false k i e))))

  module _ (s : Bytes b) (whole : length b ≡ record_room) where
    row_stays : (i k : ℕ) → i ≤ k → k < channel_room → padded record_length (turned_to i k) ≡ row record_length b k
    row_stays i k h l = rw (le-ltb k i h) (padded-whole record_length (row record_length b k) (row-whole b s whole k l))

    pub none-turned : so_far 0 ≡ b
    unfolding so_far
    none-turned = rows_is record_length channel_room (turned_to 0) b whole (λ k l. row_stays 0 k (omega arith) l)

    pub still-there : (i : ℕ) → i < channel_room → record_at (so_far i) i ≡ record_at b i
    unfolding so_far
    still-there i l = ap record_in (row-rows record_length channel_room (turned_to i) i l ∙ row_stays i i (omega arith) l)

    pub one_more : (i : ℕ) → i < channel_room → recorded (so_far i) i (turned_record (record_at b i)) ≡ so_far (suc i)
    unfolding so_far
    one_more i l =
        let here : record_bytes (turned_record (record_at b i)) ≡ turned_to (suc i) i = rw (lt-ltb i (suc i) (omega arith)) in
        recorded_row (so_far i) i _ (turned-fits (record_at b i) (at-fits b s whole i l))
        ∙ ap (put_row record_length (so_far i) i) here
        ∙ sym (rows-put record_length channel_room (turned_to i) (turned_to (suc i)) i l (λ k m d. others i k d))

  pub all-turned : so_far channel_room ≡ turned_records b
  unfolding so_far turned_records
  all-turned = rows_same record_length channel_room _ _ (λ k l. rw (lt-ltb k channel_room l))

-- ---- From what is offered on to the turned records: they are the rows of what is offered, ten times as many.
abbrev or_blank : Option BatchRecord → BatchRecord
or_blank none = no_record
or_blank (some x) = x

offer-in : (o : Option BatchRecord) → OfferFits o → record_in (padded record_length (offer_bytes o)) ≡ or_blank o
offer-in none f = blank-in
offer-in (some x) f = record-kept x f

or-blank-tenths : (o : Option BatchRecord) → offer_in_tenths o ≡ true → in_tenths (or_blank o).temperature ≡ true
unfolding no_record
or-blank-tenths none e = refl
or-blank-tenths (some x) e = e

turned-row : (o : Option BatchRecord) → offer_in_tenths o ≡ true →
    padded record_length (record_bytes (turned_record (or_blank o))) ≡ padded record_length (offer_bytes (tenfold_offer o))
turned-row none e = ap (λ x. padded record_length (record_bytes x)) blank-turned ∙ blank-row
turned-row (some x) e = ap (λ y. padded record_length (record_bytes y)) (tenfold-is x e)

module _ (o : ℕ → Option BatchRecord) (fits : (k : ℕ) → k < channel_room → OfferFits (o k))
    (tenths : (k : ℕ) → k < channel_room → offer_in_tenths (o k) ≡ true) where
  abbrev held : List ℕ
  held = rows record_length channel_room (λ k. offer_bytes (o k))

  at_held : (k : ℕ) → k < channel_room → record_at held k ≡ or_blank (o k)
  at_held k l = ap record_in (row-rows record_length channel_room (λ j. offer_bytes (o j)) k l) ∙ offer-in (o k) (fits k l)

  pub held-in-tenths : records_in_tenths held ≡ true
  unfolding records_in_tenths
  held-in-tenths =
      below_all channel_room (λ k. in_tenths (record_at held k).temperature)
      (λ k l. ap (λ (x : BatchRecord). in_tenths x.temperature) (at_held k l) ∙ or-blank-tenths (o k) (tenths k l))

  pub held-turned : turned_records held ≡ rows record_length channel_room (λ k. offer_bytes (tenfold_offer (o k)))
  unfolding turned_records
  held-turned =
      let after = rows record_length channel_room (λ k. offer_bytes (tenfold_offer (o k))) in
      rows_is record_length channel_room (λ k. record_bytes (turned_record (record_at held k))) after
      (rows-length record_length channel_room (λ k. offer_bytes (tenfold_offer (o k))))
      (λ k l.
      ap (λ x. padded record_length (record_bytes (turned_record x))) (at_held k l)
      ∙ turned-row (o k) (tenths k l)
      ∙ sym (row-rows record_length channel_room (λ j. offer_bytes (tenfold_offer (o j))) k l))
