-- What holds of the value of an answer holds of it whatever `map_err` makes of the error.
use Rattle.std.proofs.Common.{◌≡◌, Result, Ok, Err, is_ok, IfOk, MatchResult, true≢false}

pub value-kept : {T D E : Type 0} (r : Result T D) (s : Result T E) (P : T → Type 0) (Q : D → Type 0)
    → MatchResult r (λ x. s ≡ Ok x) Q → is_ok s ≡ is_ok r → IfOk r P → IfOk s P
value-kept (Ok x) s P Q same variant p = rw same p
value-kept (Err d) (Ok x) P Q failed variant p = absurd (true≢false variant)
value-kept (Err d) (Err e) P Q failed variant p = tt
