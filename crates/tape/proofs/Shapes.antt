-- Laws of the shapes of a command, by cases of the shape: a command is as long as its shape says, what was written is read, and what was read
-- is written. The laws of the rows (CommandTable.antt) stand on these.
use Prim.Native.Nat.{ℕ, ◌+◌, ◌<◌, ◌≤◌}
use mathlib.Core.Path.{◌≡◌, refl, sym, ap, ◌∙◌}
use mathlib.Core.Bool.{Bool, true, false, false≢true, cond}
use mathlib.Core.List.{List, ◌++◌}
use native.Mathlib.Omega.{arith}
use lib.ListN.{length, get_or, take, drop, length-drop}
use lib.Seq.{take-add}
use Rattle.batch.specs.declared.sending.Fields.{Fields}
use Rattle.wire.specs.Bytes.{little, part, number_at, Bytes}
use Rattle.wire.specs.Record.{record_length, fields_in, FieldsFit}
use Rattle.wire.proofs.Numbers.{number-little, number-one}
use Rattle.wire.proofs.Bytes.{part-written, bytes_drop}
use Rattle.wire.proofs.Record.{length-record, fields-read-back, fields-write-back}
use Rattle.tape.specs.declared.Parts.{Parts}
use Rattle.tape.specs.declared.Shape.{Shape}
use Rattle.tape.specs.declared.Shape.TheVariants.{Bare, Byte, TwoBytes, ByteAndFields}
use Rattle.tape.specs.Shape.{width_of, carries, fields_with, bytes_with}

-- which operands of one byte a shape has
abbrev pub has_first : Shape → Bool
has_first Bare = false
has_first Byte = true
has_first TwoBytes = true
has_first ByteAndFields = true

abbrev pub has_second : Shape → Bool
has_second Bare = false
has_second Byte = false
has_second TwoBytes = true
has_second ByteAndFields = false

-- each shape takes a byte at least
pub some_bytes : (s : Shape) → 0 < width_of s
some_bytes Bare = omega arith
some_bytes Byte = omega arith
some_bytes TwoBytes = omega arith
some_bytes ByteAndFields = omega arith

-- a shape that carries a record is as wide as a send
pub carried-width : (s : Shape) → carries s ≡ true → width_of s ≡ 42
carried-width Bare e = absurd (false≢true e)
carried-width Byte e = absurd (false≢true e)
carried-width TwoBytes e = absurd (false≢true e)
carried-width ByteAndFields e = refl

-- the record that a shape has is had once
pub fields-once : (s : Shape) (x : Fields) → fields_with s (fields_with s x) ≡ fields_with s x
fields-once Bare x = refl
fields-once Byte x = refl
fields-once TwoBytes x = refl
fields-once ByteAndFields x = refl

pub fields-written : (s : Shape) (p : Parts) (x : Fields) → bytes_with s p (fields_with s x) ≡ bytes_with s p x
unfolding bytes_with
fields-written Bare p x = refl
fields-written Byte p x = refl
fields-written TwoBytes p x = refl
fields-written ByteAndFields p x = refl

module _ (p : Parts) (x : Fields) where
  pub length-with : (s : Shape) → FieldsFit x → length (bytes_with s p x) ≡ width_of s
  unfolding little bytes_with
  length-with Bare h = refl
  length-with Byte h = refl
  length-with TwoBytes h = refl
  length-with ByteAndFields h = rw (length-record h)

  -- what reading finds in the bytes of a command, whatever comes after them
  module _ (rest : List ℕ) where
    abbrev written : Shape → List ℕ
    written s = bytes_with s p x ++ rest

    pub code_read : (s : Shape) → p.code < 256 → get_or (written s) 0 0 ≡ p.code
    unfolding little bytes_with
    code_read Bare h = omega arith
    code_read Byte h = omega arith
    code_read TwoBytes h = omega arith
    code_read ByteAndFields h = omega arith

    pub first_read : (s : Shape) → p.first < 256
        → number_at 1 1 (written s) ≡ cond (has_first s) p.first (number_at 1 1 (written s))
    unfolding little bytes_with
    first_read Bare h = refl
    first_read Byte h = number-little 1 p.first h
    first_read TwoBytes h = number-little 1 p.first h
    first_read ByteAndFields h = number-little 1 p.first h

    pub second-read : (s : Shape) → p.second < 256
        → number_at 2 1 (written s) ≡ cond (has_second s) p.second (number_at 2 1 (written s))
    unfolding little bytes_with
    second-read Bare h = refl
    second-read Byte h = refl
    second-read TwoBytes h = number-little 1 p.second h
    second-read ByteAndFields h = refl

    pub fields_read : (s : Shape) → FieldsFit x → fields_with s (fields_in (drop 2 (written s))) ≡ fields_with s x
    unfolding little bytes_with
    fields_read Bare h = refl
    fields_read Byte h = refl
    fields_read TwoBytes h = refl
    fields_read ByteAndFields h = fields-read-back x rest h

-- what was read, written, is the bytes that it was read from
module _ (t : List ℕ) (b : Bytes t) where
  abbrev pub parts_in : Parts
  parts_in = record { code = get_or t 0 0; first = number_at 1 1 t; second = number_at 2 1 t }

  code-written : 1 ≤ length t → little 1 (get_or t 0 0) ≡ take 1 t
  code-written h = ap (little 1) (sym (number-one 0 t h)) ∙ part-written 0 1 t b h

  pair-written : 2 ≤ length t → little 1 (get_or t 0 0) ++ little 1 (number_at 1 1 t) ≡ take 2 t
  pair-written h = rw (code-written (omega arith), part-written 1 1 t b h, ← (take-add 1 1 t))

  then-written : (n : ℕ) (ys : List ℕ) → 2 ≤ length t → ys ≡ part 2 n t
      → (little 1 (get_or t 0 0) ++ little 1 (number_at 1 1 t)) ++ ys ≡ take (2 + n) t
  then-written n ys h f = rw (pair-written h, f, ← (take-add 2 n t))

  pub bytes-written : (s : Shape) → width_of s ≤ length t → bytes_with s parts_in (fields_in (drop 2 t)) ≡ take (width_of s) t
  unfolding bytes_with
  bytes-written Bare h = code-written h
  bytes-written Byte h = pair-written h
  bytes-written TwoBytes h = then-written 1 _ (omega arith) (part-written 2 1 t b h)
  bytes-written ByteAndFields h =
      then-written record_length _ (omega arith)
      (fields-write-back (drop 2 t) (bytes_drop 2 t b) (rw length-drop (omega arith)))
