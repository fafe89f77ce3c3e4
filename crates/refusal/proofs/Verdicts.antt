-- A verdict has passed where the test says so, and where its number is 0.
use mathlib.Core.Path.{◌≡◌, refl}
use mathlib.Core.Bool.{true, false≢true}
use native.Mathlib.Omega.{arith}
use Rattle.std.specs.Prelude.{Ok, Err, is_ok}
use Rattle.refusal.specs.Number.{Verdict, verdict_number}
use Rattle.refusal.proofs.Number.{in-range}

pub has-passed : (v : Verdict) → is_ok v ≡ true → v ≡ Ok tt
has-passed (Ok u) e = refl
has-passed (Err r) e = absurd (false≢true e)

-- no refusal has the number 0
pub zero-passed : (v : Verdict) → verdict_number v ≡ 0 → v ≡ Ok tt
zero-passed (Ok u) e = refl
zero-passed (Err r) e = absurd (omega (arith, in-range r))
