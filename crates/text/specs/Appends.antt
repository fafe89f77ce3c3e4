-- What it means that bytes were appended to a line.
use Rattle.std.specs.Prelude.{ℕ, ◌≤◌, ◌≡◌, List, ◌++◌, length}

-- the line is the one before with these bytes after it, at most so many
pub record Appends (before after bytes : List ℕ) (most : ℕ) : Type 0 where
  pub reads : after ≡ before ++ bytes
  pub within : length bytes ≤ most
