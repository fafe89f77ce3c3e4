-- Laws of the table of commands: which row a command byte has, and that rows and actions belong together. The facts of a row and of an action
-- are computed; the rest is by the laws of the shapes.
use Prim.Native.Nat.{ℕ, ◌<◌, ◌≤◌}
use mathlib.Core.Path.{◌≡◌, refl, sym, ap, ◌∙◌}
use mathlib.Core.Bool.{Bool, true, false, cond}
use mathlib.Core.List.{List, [], ◌∷◌, ◌++◌}
use mathlib.Core.Logic.{◌≢◌}
use native.Mathlib.Omega.{arith}
use borrow.Author.Rules.{rules}
use borrow.Author.Tests.{ne_eqb, eqb-true}
use lib.Dec.{eqb}
use lib.ListN.{length, get_or, take, drop}
use Rattle.std.specs.Prelude.{Option, Some, None}
use Rattle.std.proofs.lemmas.Option.{none-some, same_Some}
use Rattle.batch.specs.declared.sending.Fields.{Fields}
use Rattle.batch.specs.declared.sending.Scale.TheVariants.{Tenths, Hundredths}
use Rattle.wire.specs.Bytes.{number_at, Bytes}
use Rattle.wire.specs.Record.{fields_in, FieldsFit}
use Rattle.command.specs.declared.Action.{Action}
use Rattle.command.specs.declared.Action.TheVariants.{AddNode, AddChannel, Start, Receive, Send, Enter, Move, Withdraw}
use Rattle.command.specs.declared.Command.{Command}
use Rattle.tape.specs.declared.Row as found
use Rattle.tape.specs.declared.Shape.{Shape}
use Rattle.tape.specs.Shape.{width_of, fields_with, bytes_with}
use Rattle.tape.specs.Table.{Row, row_of, row_with, find, commands, parts_of, command_in, shape_of, plain, bytes_of, width}
use Rattle.tape.specs.RoundTrip.{OperandsFit}
use Rattle.tape.proofs.Shapes as shape
use Rattle.tape.proofs.Shapes.{has_first, has_second, fields-once, fields-written, length-with, code_read, first_read, second-read, fields_read, bytes-written}

-- a byte that is none of the command bytes, in the form in which a `match` tells it
abbrev OtherThan : ℕ → List Row → Type 0 → Type 0
OtherThan code [] X = X
OtherThan code (r ∷ rows) X = OtherThan code rows (X × (code ≢ r.code))

before : (code : ℕ) (rows : List Row) (X : Type 0) → OtherThan code rows X → X
before code [] X n = n
before code (r ∷ rows) X n = (before code rows (X × (code ≢ r.code)) n).0

none_of : (code : ℕ) (rows : List Row) (X : Type 0) → OtherThan code rows X → find code rows ≡ None
unfolding find
none_of code [] X n = refl
none_of code (r ∷ rows) X n =
    rw (ne_eqb code r.code (before code rows (X × (code ≢ r.code)) n).1) (none_of code rows (X × (code ≢ r.code)) n)

pub unknown : (code : ℕ) → OtherThan code commands (Unit {0}) → row_of code ≡ None
unfolding row_of
unknown code n = none_of code commands (Unit {0}) n

-- ---- a row and the actions that it makes

-- the action's command byte is the row's; written, it has the operands that it was made of; and it is made of no others
record Fair (r : Row) : Type 0 where
  code_is : (a b : ℕ) → (parts_of (r.action a b)).code ≡ r.code
  written : (a b : ℕ) (x : Fields)
      → bytes_with r.shape (parts_of (r.action a b)) x ≡ bytes_with r.shape (record { code = r.code; first = a; second = b }) x
  no-others : (a b c d : ℕ) → r.action (cond (has_first r.shape) a c) (cond (has_second r.shape) b d) ≡ r.action a b

abbrev pub All : (Row → Type 0) → List Row → Type 0
All P [] = Unit {0}
All P (r ∷ rows) = P r × All P rows

all_fair : All Fair commands
unfolding commands bytes_with
all_fair =
    (search rules, (search rules, (search rules, (search rules, (search rules, (search rules, (search rules, (search rules, (search rules, tt)))))))))

-- what holds of all rows holds of the one that was found for a command byte, and that row has the byte
module _ (P : Row → Type 0) (code : ℕ) where
  find-all : (rows : List Row) → All P rows → (r : Row) → find code rows ≡ Some r → P r × (r.code ≡ code)
  unfolding find
  find-all [] all r e = absurd (none-some r e)
  find-all (s ∷ rows) all r e = by_code (eqb code s.code) refl (find-all rows all.1 r) e
    where
      by_code : (b : Bool) → eqb code s.code ≡ b → (find code rows ≡ Some r → P r × (r.code ≡ code))
          → cond b (Some s) (find code rows) ≡ Some r → P r × (r.code ≡ code)
      by_code true q rest h = rw (← (same_Some s r h)) (all.0, sym (eqb-true code s.code q))
      by_code false q rest h = rest h

  found-all : All P commands → {r : Row} → row_of code ≡ Some r → P r × (r.code ≡ code)
  unfolding row_of
  found-all all {r} e = find-all commands all r e

module _ (code : ℕ) {r : Row} (is : row_of code ≡ Some r) where
  fair : Fair r
  fair = (found-all Fair code all_fair is).0

  code-found : r.code ≡ code
  code-found = (found-all Fair code all_fair is).1

  -- the shape of the action that a row makes is the row's
  shape_is : (a b : ℕ) → shape_of (r.action a b) ≡ r.shape
  shape_is a b = rw (fair.code_is a b, code-found, is)

-- ---- an action and its row

record Made (a : Action) : Type 0 where
  is : row_with (row_of (parts_of a).code) (parts_of a).first (parts_of a).second ≡ Some (record { shape = shape_of a; action = a })
  byte : (parts_of a).code < 256

made : (a : Action) → Made a
unfolding row_of find commands
made (AddNode slots) = search rules
made (AddChannel sender receiver) = search rules
made Start = search rules
made (Receive channel) = search rules
made (Send channel Tenths) = search rules
made (Send channel Hundredths) = search rules
made (Enter node) = search rules
made (Move node) = search rules
made (Withdraw channel) = search rules

-- an action's numbers make the action again, in its shape
pub made_again : (a : Action)
    → row_with (row_of (parts_of a).code) (parts_of a).first (parts_of a).second ≡ Some (record { shape = shape_of a; action = a })
made_again a = (made a).is

pub some_bytes : (a : Action) → 0 < width_of (shape_of a)
some_bytes a = shape.some_bytes (shape_of a)

pub code-byte : (a : Action) → (parts_of a).code < 256
code-byte a = (made a).byte

-- a row with operands is made of a row
pub record MadeOf (o : Option Row) (first second : ℕ) (x : found.Row) : Type 0 where
  pub row : Row
  pub is : o ≡ Some row
  pub shape : row.shape ≡ x.shape
  pub action : row.action first second ≡ x.action

pub made_of : (o : Option Row) (first second : ℕ) (x : found.Row) → row_with o first second ≡ Some x → MadeOf o first second x
made_of None first second x e = absurd (none-some x e)
made_of (Some r) first second x e =
    let same = same_Some _ x e in
    record { row = r; is = refl; shape = ap (λ (y : found.Row). y.shape) same; action = ap (λ (y : found.Row). y.action) same }

pub not_made : (o : Option Row) (first second : ℕ) → row_with o first second ≡ None → o ≡ None
not_made None first second e = refl
not_made (Some r) first second e = grind arith

-- the row of an action
pub row_made : (a : Action)
    → MadeOf (row_of (parts_of a).code) (parts_of a).first (parts_of a).second (record { shape = shape_of a; action = a })
row_made a = made_of _ (parts_of a).first (parts_of a).second _ (made_again a)

-- an action that a row makes has the operands that it is made of, or 0
abbrev pub Kept : Row → Type 0
Kept r = (a b : ℕ) → a < 256 → b < 256 → OperandsFit (r.action a b)

all-kept : All Kept commands
unfolding commands
all-kept =
    (search rules, (search rules, (search rules, (search rules, (search rules, (search rules, (search rules, (search rules, (search rules, tt)))))))))

pub operands-kept : (code : ℕ) {r : Row} → row_of code ≡ Some r → Kept r
operands-kept code is = (found-all Kept code all-kept is).0

-- a command is as many bytes as its width
pub length-bytes_of : (c : Command) → FieldsFit c.fields → length (bytes_of c) ≡ width c
unfolding bytes_of width
length-bytes_of c h = length-with (parts_of c.action) c.fields (shape_of c.action) h

-- its bytes begin with its command byte
pub code-first : (c : Command) (rest : List ℕ) → get_or (bytes_of c ++ rest) 0 0 ≡ (parts_of c.action).code
unfolding bytes_of
code-first c rest = code_read (parts_of c.action) c.fields rest (shape_of c.action) (code-byte c.action)

-- its row makes the command of its bytes
pub command-read : (c : Command) (rest : List ℕ) {r : Row} → row_of (parts_of c.action).code ≡ Some r → OperandsFit c.action → FieldsFit c.fields
    → command_in r (bytes_of c ++ rest) ≡ plain c
unfolding command_in bytes_of plain
command-read c rest {r} is f g =
    let p = parts_of c.action in
    let x = c.fields in
    let m = row_made c.action in
    let same : m.row ≡ r = same_Some m.row r (sym m.is ∙ is) in
    let shaped : r.shape ≡ shape_of c.action = ap (λ (y : Row). y.shape) (sym same) ∙ m.shape in
    let again : r.action p.first p.second ≡ c.action = ap (λ (y : Row). y.action p.first p.second) (sym same) ∙ m.action in
    let made_again : r.action (number_at 1 1 (bytes_with r.shape p x ++ rest)) (number_at 2 1 (bytes_with r.shape p x ++ rest)) ≡ c.action
    = rw (first_read p x rest r.shape f.0, second-read p x rest r.shape f.1)
    ((fair p.code is).no-others p.first p.second _ _ ∙ again) in
    rw (← shaped, made_again, fields_read p x rest r.shape g)

-- a row's command has fields only where its action has them, and the row's width
pub row-own : (code : ℕ) (t : List ℕ) {r : Row} → row_of code ≡ Some r
    → (plain (command_in r t) ≡ command_in r t) × (width (command_in r t) ≡ width_of r.shape)
unfolding command_in plain width
row-own code t {r} is =
    let same = shape_is code is (number_at 1 1 t) (number_at 2 1 t) in (
      ap
          (λ (x : Fields). record { action = r.action (number_at 1 1 t) (number_at 2 1 t); fields = x })
          (ap (λ (s : Shape). fields_with s (fields_with r.shape (fields_in (drop 2 t)))) same ∙ fields-once r.shape (fields_in (drop 2 t))),
      ap width_of same,
    )

-- a row's command, written, is the bytes that it was made of
pub row_written : (t : List ℕ) → Bytes t → (code : ℕ) → get_or t 0 0 ≡ code → {r : Row} → row_of code ≡ Some r
    → width_of r.shape ≤ length t → bytes_of (command_in r t) ≡ take (width_of r.shape) t
unfolding command_in bytes_of
row_written t b code e {r} is h =
    let action = r.action (number_at 1 1 t) (number_at 2 1 t) in
    ap (λ (s : Shape). bytes_with s (parts_of action) (fields_with r.shape (fields_in (drop 2 t)))) (shape_is code is _ _)
    ∙ fields-written r.shape (parts_of action) (fields_in (drop 2 t))
    ∙ (fair code is).written (number_at 1 1 t) (number_at 2 1 t) (fields_in (drop 2 t))
    ∙ ap
    (λ (n : ℕ). bytes_with r.shape (record { code = n; first = number_at 1 1 t; second = number_at 2 1 t }) (fields_in (drop 2 t)))
    (code-found code is ∙ sym e)
    ∙ bytes-written t b r.shape h
