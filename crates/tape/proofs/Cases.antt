-- What reading answers, case by case of its tests.
use Prim.Native.Nat.{ℕ, ◌+◌, ◌-◌, ◌<◌, ◌≤◌}
use mathlib.Core.Path.{◌≡◌, refl, sym, ap, ◌∙◌}
use mathlib.Core.List.{List, [], ◌∷◌}
use native.Mathlib.Nat.{add-zero}
use native.Mathlib.Omega.{arith}
use lib.ListN.{length, get_or, drop, length-drop}
use lib.Seq.{get_or-drop}
use borrow.Author.Tests.{lt-ltb, le-ltb, eq-eqb, ne_eqb}
use Rattle.std.specs.Prelude.{Option, Some, None, Ok, Err, ok_or}
use Rattle.std.specs.List.{slice_get, PartBy}
use Rattle.std.proofs.lemmas.Option.{none-some, same_Some}
use Rattle.batch.specs.declared.sending.Fields.{Fields}
use Rattle.wire.specs.Bytes.{number_at}
use Rattle.wire.specs.Record.{fields_in}
use Rattle.refusal.specs.declared.Refusal.{Refusal}
use Rattle.wire.proofs.Buffer.{tail}
use Rattle.refusal.specs.declared.Refusal.TheVariants.{UnknownCommand, CommandCut, PlaceBeyondEnd}
use Rattle.tape.specs.declared.Row as made
use Rattle.tape.specs.Shape.{width_of, fields_with}
use Rattle.tape.specs.Table.{Row, row_of, row_with, command_in}
use Rattle.tape.specs.Tape.{found, read_row, read_at}
use Rattle.tape.proofs.CommandTable.{made_of, not_made}

-- within the bytes, the row of the command byte decides
pub by_row : (bytes : List ℕ) (place : ℕ) → place < length bytes
    → read_at bytes place ≡ read_row (row_of (get_or bytes place 0)) place (drop place bytes)
unfolding read_at
by_row bytes place h = rw (le-ltb (length bytes) place (omega arith), ne_eqb place (length bytes) (omega arith))

module _ (r : Row) (place : ℕ) (b : List ℕ) where
  pub row_cut : length b < width_of r.shape → read_row (Some r) place b ≡ Err CommandCut
  unfolding read_row
  row_cut h = rw (lt-ltb (length b) (width_of r.shape) h)

  pub row-found : width_of r.shape ≤ length b → read_row (Some r) place b ≡ found (place + width_of r.shape) (command_in r b)
  unfolding read_row
  row-found h = rw (le-ltb (length b) (width_of r.shape) h)

-- what `ok_or` refuses with, where there is nothing
pub told : {A : Type 0} (o : Option A) {x r : Refusal} → Err x ≡ ok_or o r → o ≡ None → x ≡ r
told o e none = grind (arith, e, none)

-- ---- the bytes from a place on, and what stands first among them

module _ {A : Type 0} (now : A → List ℕ) (bytes : List ℕ) (place : ℕ) where
  pub missing : (o : Option A) → PartBy now bytes place (length bytes) o → o ≡ None → length bytes < place
  missing None p e = omega (arith, p.0)
  missing (Some x) p e = absurd (none-some x (sym e))

  pub there : (o : Option A) (x : A) → PartBy now bytes place (length bytes) o → o ≡ Some x
      → (place ≤ length bytes) × (now x ≡ drop place bytes)
  there None x p e = absurd (none-some x e)
  there (Some y) x p e = rw (← (same_Some y x e)) (p.0.0, p.0.2 ∙ tail bytes place)

pub beyond : (bytes : List ℕ) (place : ℕ) → length bytes < place → Err PlaceBeyondEnd ≡ read_at bytes place
unfolding read_at
beyond bytes place h = rw (lt-ltb (length bytes) place h)

empty : (t : List ℕ) → None ≡ slice_get t 0 → length t ≡ 0
empty [] e = refl
empty (x ∷ t) e = grind arith

begun : (t : List ℕ) (code : ℕ) → Some code ≡ slice_get t 0 → (0 < length t) × (get_or t 0 0 ≡ code)
begun [] code e = grind arith
begun (x ∷ t) code e = (omega arith, grind arith)

module _ (bytes : List ℕ) (place : ℕ) (t : List ℕ) (is : t ≡ drop place bytes) where
  left : length t ≡ length bytes - place
  left = rw (is, length-drop)

  pub ended : place ≤ length bytes → None ≡ slice_get t 0 → Ok None ≡ read_at bytes place
  unfolding read_at
  ended within none =
      rw (le-ltb (length bytes) place within, eq-eqb place (length bytes) (omega (arith, left, empty t none)))

  module _ (code : ℕ) (first : Some code ≡ slice_get t 0) where
    -- the row of the byte that was found decides
    row_read : read_at bytes place ≡ read_row (row_of code) place t
    row_read =
        let b = begun t code first in
        let begins : get_or bytes place 0 ≡ code
        = rw add-zero at (sym (get_or-drop place bytes 0 0) ∙ ap (λ (l : List ℕ). get_or l 0 0) (sym is) ∙ b.1) in
        by_row bytes place (omega (arith, left, b.0)) ∙ rw (begins, is)

    pub unknown : None ≡ row_with (row_of code) (number_at 1 1 t) (number_at 2 1 t) → Err UnknownCommand ≡ read_at bytes place
    unfolding read_row
    unknown none = rw (row_read, not_made (row_of code) _ _ (sym none))

    -- the row and the width that were read
    module _ {r : made.Row} (row : Some r ≡ row_with (row_of code) (number_at 1 1 t) (number_at 2 1 t)) {wide : ℕ}
        (by : wide ≡ width_of r.shape) where
      pub cut : length t < wide → Err CommandCut ≡ read_at bytes place
      cut short =
          let m = made_of (row_of code) _ _ r (sym row) in
          rw (row_read, m.is) (sym (row_cut m.row place t (rw (m.shape, ← by) short)))

      -- the command that was read is the row's
      pub whole : {x : Fields} → x ≡ fields_with r.shape (fields_in (drop 2 t)) → wide ≤ length t
          → found (place + wide) (record { action = r.action; fields = x }) ≡ read_at bytes place
      unfolding command_in
      whole {x} e fits =
          let m = made_of (row_of code) _ _ r (sym row) in
          rw (row_read, m.is, row-found m.row place t (rw (m.shape, ← by) fits), m.shape, m.action, ← by, ← e)
