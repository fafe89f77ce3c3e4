-- Ground. Node and channel numbers as plain ones: laws of the numbers of a buffer or a line (`numbers_of`), and of the end that a message
-- comes from.
use Prim.Native.Nat.{ℕ}
use mathlib.Core.Path.{◌≡◌, refl, ap}
use mathlib.Core.Bool.{Bool, true, false, cond}
use mathlib.Core.List.{List, [], ◌∷◌, ◌++◌, map, nil≢cons}
use lib.Dec.{eqb}
use lib.ListN.{length, get_or, length-map}
use Rattle.numbers.specs.declared.NodeNo.{NodeNo}
use Rattle.numbers.specs.declared.ChannelNo.{ChannelNo}
use Rattle.network.specs.Counting.{without_first, occupied}
use Rattle.network.specs.Network.{Phase, resting, asking, ready, answering, channel_no, same_channel, numbers_of, without, from_end}

pub map-append {ℓ κ} : {A : Type ℓ} {B : Type κ} (f : A → B) (xs ys : List A) → map f (xs ++ ys) ≡ map f xs ++ map f ys
map-append f [] ys = refl
map-append f (x ∷ xs) ys = ap (λ r. f x ∷ r) (map-append f xs ys)

pub numbers-snoc : (ks : List ChannelNo) (k : ChannelNo) → numbers_of (ks ++ (k ∷ [])) ≡ numbers_of ks ++ (k.0 ∷ [])
numbers-snoc ks k = map-append (λ (j : ChannelNo). j.0) ks (k ∷ [])

pub length-numbers : (ks : List ChannelNo) → length (numbers_of ks) ≡ length ks
length-numbers ks = length-map ks (λ (k : ChannelNo). k.0)

pub occupied-numbers : (ks : List ChannelNo) → occupied (numbers_of ks) ≡ occupied ks
occupied-numbers [] = refl
occupied-numbers (k ∷ ks) = refl

-- taking a channel out takes its number out
pub numbers-without : (k : ChannelNo) (js : List ChannelNo) → numbers_of (without k js) ≡ without_first (λ j. eqb j k.0) (numbers_of js)
numbers-without k [] = refl
numbers-without k (j ∷ js) = by_first (same_channel j k) (numbers-without k js)
  where
    by_first : (b : Bool) → numbers_of (without k js) ≡ without_first (λ i. eqb i k.0) (numbers_of js) →
        numbers_of (cond b js (j ∷ without k js)) ≡ cond b (numbers_of js) (j.0 ∷ without_first (λ i. eqb i k.0) (numbers_of js))
    by_first true rest = refl
    by_first false rest = ap (λ ns. j.0 ∷ ns) rest

-- a queue whose numbers begin with k begins with channel k
pub numbers-first : (js : List ChannelNo) {k : ℕ} {ks : List ℕ} → numbers_of js ≡ k ∷ ks → (rest : List ChannelNo) × (js ≡ channel_no k ∷ rest)
numbers-first [] e = absurd (nil≢cons e)
numbers-first (j ∷ js) e = (js, ap (λ ns. channel_no (get_or ns 0 0) ∷ js) e)

-- the number of an end is that end of the numbers
pub end-number : (f : Phase) (sender receiver : NodeNo) → (from_end f sender receiver).0 ≡ from_end f sender.0 receiver.0
end-number resting sender receiver = refl
end-number asking sender receiver = refl
end-number ready sender receiver = refl
end-number (answering x) sender receiver = refl
