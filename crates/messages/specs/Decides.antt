-- A test and its statement: the answer is true exactly when the statement holds.
use Rattle.std.specs.Prelude.{◌≡◌, Bool, true}

pub record Decides (answer : Bool) (P : Type 0) : Type 0 where
  pub holds : answer ≡ true → P
  pub passes : P → answer ≡ true
