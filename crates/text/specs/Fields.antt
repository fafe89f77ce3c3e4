-- What a line is made of, in bytes: a number or a name after a space, and text laid over what stands in a buffer.
use Rattle.std.specs.Prelude.{ℕ, ◌+◌, List, [], ◌∷◌, ◌++◌, length, take, drop}
use Rattle.text.specs.Digits.{decimal}

abbrev pub space : ℕ
space = 0x20

-- a number after a space
abbrev pub field : ℕ → List ℕ
field n = space ∷ decimal n

-- a name after a space, unless it is empty
abbrev pub name_field : List ℕ → List ℕ
name_field [] = []
name_field (byte ∷ bytes) = space ∷ byte ∷ bytes

-- the buffer with these bytes at a place, and all else as it was
abbrev pub laid : List ℕ → ℕ → List ℕ → List ℕ
laid buffer place bytes = take place buffer ++ bytes ++ drop (place + length bytes) buffer
