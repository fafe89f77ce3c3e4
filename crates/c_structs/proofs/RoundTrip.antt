-- C's commands and the tape's are the same thing in two forms: an action's numbers stand for that action, so the tape's round trips are C's.
use Prim.Native.Nat.{ℕ, ◌<◌}
use mathlib.Core.Path.{◌≡◌, refl, ap, ◌∙◌}
use mathlib.Core.List.{List}
use native.Mathlib.Omega.{arith}
use Rattle.std.specs.Prelude.{Option, Some, None, option_map, Result, Ok, Err}
use Rattle.std.proofs.lemmas.Option.{none-some, same_Some}
use Rattle.refusal.specs.declared.Refusal.{Refusal}
use Rattle.refusal.proofs.Number.{in-range}
use Rattle.wire.specs.Bytes.{Bytes}
use Rattle.command.specs.declared.Action.{Action}
use Rattle.command.specs.declared.Command as made
use Rattle.tape.specs.declared.Reading as read
use Rattle.tape.specs.Table.{Row, row_of, parts_of, shape_of, plain}
use Rattle.tape.specs.Tape.{read_at, write_at, after_write}
use Rattle.tape.specs.RoundTrip.{OperandsFit}
use Rattle.tape.proofs.CommandTable.{row_made, operands-kept}
use Rattle.tape.proofs.Shapes.{fields-once}
use Rattle.tape.proofs.RoundTrip as tape
use Rattle.c_structs.specs.declared.Command.{Command}
use Rattle.c_structs.specs.declared.Writing as told
use Rattle.c_structs.specs.Commands.{command_of, reading_in, wanted_by, action_of, with_fields, writing_in, writes, leaves, writing_to, after_writing}
use Rattle.c_structs.specs.RoundTrip.{written_to, WritesBack, ReadWritesBack, NumbersFit, plain_by, plain_command, WrittenReadsBack}

-- the numbers of an action stand for it
stands-for : (a : Action) → action_of (parts_of a).code (parts_of a).first (parts_of a).second ≡ Some a
stands-for a = let m = row_made a in rw m.is (ap Some m.action)

-- so writing the numbers of a command is writing the command
module _ (bytes : List ℕ) (place : ℕ) (c : made.Command) where
  writes-it : writing_to bytes place (command_of c.action c.fields) ≡ writing_in (write_at bytes place c)
  writes-it = ap (λ (w : Option Action). writes w c.fields bytes place) (stands-for c.action)

  leaves-it : after_writing bytes place (command_of c.action c.fields) ≡ after_write (write_at bytes place c) bytes place c
  leaves-it = ap (λ (w : Option Action). leaves w c.fields bytes place) (stands-for c.action)

-- what was read, by the answer
read_back : (bytes : List ℕ) (place : ℕ) (a : Result (Option read.Reading) Refusal) → Bytes bytes → read_at bytes place ≡ a
    → let r = reading_in a in r.refusal ≡ 0 → r.end ≡ 0 → WritesBack bytes place r
unfolding after_write plain
read_back bytes place (Ok (Some r)) b e accepted on =
    let c = r.command in
    let back = tape.read-writes-back bytes place r.next c b e in
    record {
      answer = writes-it bytes place c ∙ ap writing_in back.0;
      buffer = leaves-it bytes place c ∙ ap (λ (w : Result ℕ Refusal). after_write w bytes place c) back.0 ∙ back.1;
      plain =
          ap (λ (w : Option Action). plain_by w (command_of c.action c.fields)) (stands-for c.action)
          ∙ ap (λ (d : made.Command). command_of c.action d.fields) (tape.read-is-plain bytes place r.next c e).0;
    }
read_back bytes place (Ok None) b e accepted on = absurd (omega (arith, on))
read_back bytes place (Err r) b e accepted on = absurd (omega (arith, accepted, in-range r))

pub read-writes-back : ReadWritesBack
read-writes-back bytes place b = read_back bytes place (read_at bytes place) b refl

-- ---- what was written

-- what is wanted by a command byte and its operands is what its row makes of them, so its operands fit
wanted-fits : (code first second : ℕ) → first < 256 → second < 256 → (o : Option Row) → row_of code ≡ o → {a : Action}
    → option_map (λ (r : Row). r.action first second) o ≡ Some a → OperandsFit a
wanted-fits code first second f g None is {a} e = absurd (none-some a e)
wanted-fits code first second f g (Some r) is {a} e = rw (← (same_Some _ a e)) (operands-kept code is first second f g)

-- written in C's numbers is written
was-written : (w : Result ℕ Refusal) {next : ℕ} → writing_in w ≡ written_to next → w ≡ Ok next
was-written (Ok n) e = ap (λ (x : told.Writing). Ok x.next) e
was-written (Err r) e = absurd (omega (arith, ap (λ (x : told.Writing). x.refusal) e, in-range r))

-- a command of which this is wanted
module _ (bytes : List ℕ) (place next : ℕ) (c : Command) (fits : NumbersFit c) where
  abbrev Back : Option Action → Type 0
  Back w =
      (reading_in (read_at (leaves w c.fields bytes place) place) ≡ record { next = next; refusal = 0; end = 0; command = plain_by w c })
      × (plain_command (plain_by w c) ≡ plain_by w c)

  by-wanted : (w : Option Action) → wanted_by c ≡ w → writes w c.fields bytes place ≡ written_to next → Back w
  unfolding after_write plain
  by-wanted None e done = absurd (omega (arith, ap (λ (x : told.Writing). x.refusal) done))
  by-wanted (Some a) e done =
      let d = with_fields a c.fields in
      let put : write_at bytes place d ≡ Ok next = was-written (write_at bytes place d) done in
      let operands : OperandsFit a = wanted-fits c.code c.first c.second fits.first fits.second (row_of c.code) refl e in
      let again = (tape.written-reads-back bytes place next d operands fits.fields put).0 in (
        rw put (ap reading_in again),
        ap (λ (w : Option Action). plain_by w (plain_by (Some a) c)) (stands-for a) ∙ ap (command_of a) (fields-once (shape_of a) c.fields),
      )

pub written-reads-back : WrittenReadsBack
written-reads-back bytes place next c fits done = by-wanted bytes place next c fits (wanted_by c) refl done
