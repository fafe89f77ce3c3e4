-- Laws of "the same batch".
use mathlib.Core.Path.{ap₂}
use lib.Dec.{eqb}
use borrow.Author.Tests.{eqb-true, eq-eqb}
use Rattle.batch.specs.Same.{same_batch, SameExactly, NumberAlone}

pub same-exactly : SameExactly
unfolding same_batch
same-exactly a b = (eqb-true a.batch.0 b.batch.0, eq-eqb a.batch.0 b.batch.0)

pub number-alone : NumberAlone
unfolding same_batch
number-alone a b a' b' p q = ap₂ eqb p q
