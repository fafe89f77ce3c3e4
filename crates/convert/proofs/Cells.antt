-- A cell is turned exactly where it is a temperature in tenths.
use mathlib.Core.Path.{◌≡◌}
use lib.IntN.{ℤ}
use Rattle.std.specs.Result.{result_unwrap_or}
use Rattle.batch.specs.declared.sending.Scale.TheVariants.{Tenths}
use Rattle.batch.specs.Sending.{in_tenths, made}
use Rattle.numbers.proofs.Splits.{by-test}
use Rattle.convert.specs.TablePass.{turned_cell}

pub turned_is : (x : ℤ) → result_unwrap_or (made Tenths x) x ≡ turned_cell x
unfolding made
turned_is x = by-test (in_tenths x) (λ e. rw e) (λ e. rw e)
