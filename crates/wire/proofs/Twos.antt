-- Two's complement as the machine reads and writes 16 bits (`cast_signed`, `cast_unsigned`) is that of the definitions.
use Prim.Native.Nat.{ℕ}
use mathlib.Core.Path.{◌≡◌, refl}
use native.Mathlib.Omega.{arith}
use lib.IntN.{ℤ, pos, negsuc}
use mir.Syntax.{w16}
use mir.Val.{to_z, of_z}
use mir.Facts.{to_z-of_z}
use Rattle.wire.specs.Bytes.{twos, signed}

pub signed_is : (n : ℕ) → to_z w16 n ≡ signed n
unfolding signed
signed_is n = grind arith

pub twos_is : (z : ℤ) → of_z w16 z ≡ twos z
unfolding twos
twos_is (pos n) = refl
twos_is (negsuc n) = omega arith

-- for the functions that pass a signed number on
pub ruleset passed_on = (to_z-of_z, signed_is, twos_is)
