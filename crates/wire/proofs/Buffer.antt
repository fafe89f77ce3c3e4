-- Laws of a buffer that bytes are put into: a field writer is lent the part of the buffer from its field on, and what it says of
-- that part is said of the whole here; one field after another is both at once.
use Prim.Native.Nat.{ℕ, ◌+◌, ◌-◌, ◌≤◌}
use mathlib.Core.Path.{◌≡◌, ap, ◌∙◌}
use mathlib.Core.List.{List, [], ◌++◌, append_assoc, append-nil}
use native.Mathlib.Nat.{zero-add, le_refl}
use native.Mathlib.Omega.{arith}
use lib.ListN.{length, take, drop, length-append, length-take, length-drop, drop_of_length-le, take-append-drop}
use lib.Seq.{take-add, take_all, take-append_seam, length-take-le}
use lib.Seq.{drop_at, drop-append-add, drop-drop}
use borrow.Rule.Slice.PartMut.{mid_of, put_mid}
use Rattle.wire.specs.Bytes.{overwritten}

-- bytes put at the front
pub front : (buffer new : List ℕ) → overwritten buffer 0 new ≡ new ++ drop (length new) buffer
unfolding overwritten
front buffer new = rw zero-add

-- what a copy to the front of the buffer leaves
pub copied_front : (buffer last new : List ℕ) (k : ℕ) → last ≡ new → length new ≡ k → last ++ drop k buffer ≡ overwritten buffer 0 new
copied_front buffer last new k e long = rw (front buffer new, e, long)

-- putting bytes with room for them keeps the length
pub length-overwritten : (buffer new : List ℕ) (place : ℕ) → place + length new ≤ length buffer
    → length (overwritten buffer place new) ≡ length buffer
unfolding overwritten
length-overwritten buffer new place h = simp (length-append, length-take, length-drop) (omega arith)

-- what stands from the place on afterwards
pub drop-overwritten : (buffer new : List ℕ) (place : ℕ) → place ≤ length buffer
    → drop place (overwritten buffer place new) ≡ new ++ drop (place + length new) buffer
unfolding overwritten
drop-overwritten buffer new place h =
    rw append_assoc (drop_at (take place buffer) _ place (length-take-le place buffer h))

-- bytes put where they stand already
pub put_same : (buffer : List ℕ) (place n : ℕ) → place + n ≤ length buffer
    → overwritten buffer place (take n (drop place buffer)) ≡ buffer
unfolding overwritten
put_same buffer place n h =
    let long : length (take n (drop place buffer)) ≡ n = length-take-le n (drop place buffer) (rw length-drop (omega arith)) in
    rw (long, ← (take-add place n buffer)) (take-append-drop (place + n) buffer)

-- the part from a place on, as it is lent
pub tail : (buffer : List ℕ) (place : ℕ) → mid_of place (length buffer - place) buffer ≡ drop place buffer
tail buffer place = take_all (length buffer - place) (drop place buffer) (rw length-drop (le_refl (length buffer - place)))

-- what the buffer holds when the part from a place on, which was lent, is back with these bytes
abbrev pub back : ℕ → List ℕ → List ℕ → List ℕ
back place buffer last = put_mid place (length buffer - place) buffer last

-- put at the front of the part that was lent: put at its place of the whole
pub lent : (buffer last new : List ℕ) (place : ℕ) → last ≡ overwritten (mid_of place (length buffer - place) buffer) 0 new
    → back place buffer last ≡ overwritten buffer place new
unfolding overwritten
lent buffer last new place e =
    let none : drop (length buffer - place) (drop place buffer) ≡ []
    = drop_of_length-le (drop place buffer) {i = length buffer - place} (rw length-drop (le_refl (length buffer - place))) in
    let rest : List ℕ = drop (place + length new) buffer in
    rw (e, tail buffer place, none, zero-add, drop-drop, append-nil (new ++ rest), append_assoc (take place buffer) new rest)

-- one field, and then the next from the place where it ends
seam : (buffer xs ys : List ℕ) → overwritten (overwritten buffer 0 xs) (length xs) ys ≡ overwritten buffer 0 (xs ++ ys)
unfolding overwritten
seam buffer xs ys =
    let D : List ℕ = drop (length xs) buffer in
    rw (zero-add (length xs), take-append_seam xs D, drop-append-add xs D (length ys), drop-drop)
    (rw (zero-add, length-append, append_assoc xs ys))

pub next : (buffer old last xs ys : List ℕ) → old ≡ overwritten buffer 0 xs
    → last ≡ overwritten (mid_of (length xs) (length old - length xs) old) 0 ys
    → back (length xs) old last ≡ overwritten buffer 0 (xs ++ ys)
next buffer old last xs ys e f = lent old last ys (length xs) f ∙ ap (λ (l : List ℕ). overwritten l (length xs) ys) e ∙ seam buffer xs ys
