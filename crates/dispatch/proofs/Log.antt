-- The deliveries that a dispatcher call keeps: more are kept after others, and how many there are; kept from none on, they are the
-- deliveries of the answer.
use Prim.Native.Nat.{ℕ, zero, suc, ◌+◌, ◌≤◌, ◌<◌}
use mathlib.Core.Path.{◌≡◌, refl, sym, ap, ◌∙◌}
use mathlib.Core.Logic.{◌≢◌}
use mathlib.Core.List.{List, [], ◌∷◌, ◌++◌, append-nil, append_assoc}
use native.Mathlib.Omega.{arith}
use lib.ListN.{length, get_or, set, replicate, length-map, length-append}
use lib.Seq.{get_or_at}
use Rattle.batch.specs.declared.BatchRecord.{BatchRecord}
use Rattle.batch.specs.Blank.{no_record}
use Rattle.network.specs.declared.Dispatched.{Dispatched}
use Rattle.network.specs.declared.Ring.{Ring}
use Rattle.network.specs.Counting.{tabulate}
use Rattle.network.specs.Calls.{Delivery, done, delivered, hops_are, waiting_are, Outcome, refused, accepted}
use Rattle.network.specs.Answers.{delivered_in, reply_of}
use Rattle.network.specs.Layout.{channel_room}
use Rattle.network.specs.Dispatch.{listed, handed_by}
use Rattle.network.specs.Dispatcher.{filled, channels_of, records_of, answered}
use Rattle.network.proofs.Ground.Numbers.{map-append}
use Rattle.network.proofs.Memory.Rows.{tabulate-put}
use Rattle.dispatch.specs.Log.{logged, logged_all}

pub logged-more : (ds es : List Delivery) (l : Dispatched) → logged_all (ds ++ es) l ≡ logged_all es (logged_all ds l)
logged-more [] es l = refl
logged-more (d ∷ ds) es l = logged-more ds es (logged d l)

pub logged-count : (ds : List Delivery) (l : Dispatched) → (logged_all ds l).count ≡ l.count + length ds
logged-count [] l = omega arith
logged-count (d ∷ ds) l = omega (arith, logged-count ds (logged d l))

-- the rounds that are counted beside the deliveries
abbrev pub in_rounds : ℕ → Dispatched → Dispatched
in_rounds n l = record { rounds = n; count = l.count; channels = l.channels; records = l.records }

pub logged-rounds : (ds : List Delivery) (n : ℕ) (l : Dispatched) → logged_all ds (in_rounds n l) ≡ in_rounds n (logged_all ds l)
logged-rounds [] n l = refl
logged-rounds (d ∷ ds) n l = logged-rounds ds n (logged d l)

pub rounds-stay : (ds : List Delivery) (l : Dispatched) → (logged_all ds l).rounds ≡ l.rounds
rounds-stay [] l = refl
rounds-stay (d ∷ ds) l = rounds-stay ds (logged d l)

-- the delivery in a reply is that of the outcome that it answers
pub handed-in : (o : Outcome Ring) → listed (delivered_in (reply_of o)) ≡ handed_by o
handed-in (refused r) = refl
handed-in (accepted done s) = refl
handed-in (accepted (delivered k x) s) = refl
handed-in (accepted (hops_are h) s) = refl
handed-in (accepted (waiting_are w) s) = refl

-- one more behind the others

others-of {ℓ} : {A : Type ℓ} (xs : List A) (y d : A) (i : ℕ) → i ≢ length xs → get_or (xs ++ (y ∷ [])) i d ≡ get_or xs i d
others-of [] y d zero apart = absurd (apart refl)
others-of [] y d (suc i) apart = refl
others-of (x ∷ xs) y d zero apart = refl
others-of (x ∷ xs) y d (suc i) apart = others-of xs y d i (λ e. apart (ap suc e))

-- another value behind the others changes the one place where it stands
filled_more {ℓ} : {A : Type ℓ} (xs : List A) (y d : A) → length xs < channel_room → filled d (xs ++ (y ∷ [])) ≡ set (filled d xs) (length xs) y
filled_more xs y d room =
    tabulate-put channel_room (λ i. get_or xs i d) (λ i. get_or (xs ++ (y ∷ [])) i d) (length xs) room (λ i l apart. others-of xs y d i apart)
    ∙ ap (set (filled d xs) (length xs)) (get_or_at xs y [] d (length xs) refl)

same_told : {a a' : List ℕ} {b b' : List BatchRecord} {n n' : ℕ} (rounds : ℕ) → n ≡ n' → a ≡ a' → b ≡ b' →
    ◌≡◌ {A = Dispatched} (record { rounds = rounds; count = n; channels = a; records = b })
    (record { rounds = rounds; count = n'; channels = a'; records = b' })
same_told rounds n a b = rw (n, a, b)

kept_more : (rounds : ℕ) (ds : List Delivery) (d : Delivery) → length ds < channel_room →
    logged d (answered rounds ds) ≡ answered rounds (ds ++ (d ∷ []))
kept_more rounds ds d room =
    let channels : filled 0 (channels_of (ds ++ (d ∷ []))) ≡ set (filled 0 (channels_of ds)) (length ds) d.channel.0 =
    ap (filled 0) (map-append (λ (e : Delivery). e.channel.0) ds (d ∷ []))
    ∙ filled_more (channels_of ds) d.channel.0 0 (omega (arith, length-map ds (λ (e : Delivery). e.channel.0)))
    ∙ ap (λ n. set (filled 0 (channels_of ds)) n d.channel.0) (length-map ds (λ (e : Delivery). e.channel.0)) in
    let records : filled no_record (records_of (ds ++ (d ∷ []))) ≡ set (filled no_record (records_of ds)) (length ds) d.«record» =
    ap (filled no_record) (map-append (λ (e : Delivery). e.«record») ds (d ∷ []))
    ∙ filled_more (records_of ds) d.«record» no_record (omega (arith, length-map ds (λ (e : Delivery). e.«record»)))
    ∙ ap (λ n. set (filled no_record (records_of ds)) n d.«record») (length-map ds (λ (e : Delivery). e.«record»)) in
    same_told rounds (sym (length-append ds (d ∷ []))) (sym channels) (sym records)

kept-all : (rounds : ℕ) (ds es : List Delivery) → length es + length ds ≤ channel_room →
    logged_all ds (answered rounds es) ≡ answered rounds (es ++ ds)
kept-all rounds [] es room = ap (answered rounds) (sym (append-nil es))
kept-all rounds (d ∷ ds) es room =
    ap (logged_all ds) (kept_more rounds es d (omega arith))
    ∙ kept-all rounds ds (es ++ (d ∷ [])) (omega (arith, length-append es (d ∷ [])))
    ∙ ap (answered rounds) (append_assoc es (d ∷ []) ds)

-- where nothing is kept yet
abbrev pub blank : Dispatched
blank = record { rounds = 0; count = 0; channels = replicate channel_room 0; records = replicate channel_room no_record }

none_kept : blank ≡ answered 0 []
unfolding tabulate
none_kept = refl

pub kept-from-none : (ds : List Delivery) → length ds ≤ channel_room → logged_all ds blank ≡ answered 0 ds
kept-from-none ds room = ap (logged_all ds) none_kept ∙ kept-all 0 ds [] (omega (arith, room))
