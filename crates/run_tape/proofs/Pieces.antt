-- One read or write and then another is both at once.
use Rattle.std.proofs.Common.{ℕ, ◌+◌, ◌≤◌, ◌≡◌, List, [], ◌++◌, length, take, Option, None, Some, refl, sym, ap, ◌∙◌, append_assoc}
use Rattle.std.proofs.lemmas.List.{append-nil, length-take-le, take-append-le}
use Rattle.std.proofs.Math.Seq.{take-append-add}
use Rattle.std.specs.Io.KnownBytes.{Appends, Consumes}

pub none-read : (left : Option (List ℕ)) → Consumes left left []
none-read None = tt
none-read (Some xs) = refl

pub read-on : (a b c : Option (List ℕ)) (xs ys : List ℕ) → Consumes a b xs → Consumes b c ys → Consumes a c (xs ++ ys)
read-on None b c xs ys h k = tt
read-on (Some u) None c xs ys h k = absurd h
read-on (Some u) (Some v) None xs ys h k = k
read-on (Some u) (Some v) (Some w) xs ys h k = h ∙ ap (λ (l : List ℕ). xs ++ l) k ∙ sym (append_assoc xs ys w)

pub none-written : (held : Option (List ℕ)) → Appends held held []
none-written None = tt
none-written (Some xs) = sym (append-nil xs)

pub write-on : (a b c : Option (List ℕ)) (xs ys : List ℕ) → Appends a b xs → Appends b c ys → Appends a c (xs ++ ys)
write-on None b c xs ys h k = tt
write-on (Some u) None c xs ys h k = absurd h
write-on (Some u) (Some v) None xs ys h k = k
write-on (Some u) (Some v) (Some w) xs ys h k = k ∙ ap (λ (l : List ℕ). l ++ ys) h ∙ append_assoc u xs ys

-- what stands at the front of a buffer after a read into its rest
pub front-more : (tape piece rest : List ℕ) (len count : ℕ) → len ≤ length tape → count ≤ length piece
    → take (len + count) (take len tape ++ (piece ++ rest)) ≡ take len tape ++ take count piece
front-more tape piece rest len count h k =
    ap (λ (n : ℕ). take (n + count) (take len tape ++ (piece ++ rest))) (sym (length-take-le len tape h))
    ∙ take-append-add (take len tape) (piece ++ rest) count
    ∙ ap (λ (l : List ℕ). take len tape ++ l) (take-append-le count piece rest k)
