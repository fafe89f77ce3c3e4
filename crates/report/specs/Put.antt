-- A line put into a lent buffer at a place: the whole line where it fits, or nothing.
use Rattle.std.specs.Prelude.{ℕ, ◌+◌, Bool, cond, List, leb, length, Option, Some, None}
use Rattle.text.specs.Fields.{laid}

-- the line ends within the buffer
abbrev pub fits : List ℕ → ℕ → List ℕ → Bool
fits buffer place line = leb (place + length line) (length buffer)

-- the place after the line, or that there is no room for it
unfoldable pub put_answer : List ℕ → ℕ → List ℕ → Option ℕ
put_answer buffer place line = cond (fits buffer place line) (Some (place + length line)) None

-- the buffer afterwards: with the line, or as it was
unfoldable pub put : List ℕ → ℕ → List ℕ → List ℕ
put buffer place line = cond (fits buffer place line) (laid buffer place line) buffer
