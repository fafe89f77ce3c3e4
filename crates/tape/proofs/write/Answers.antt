-- Each way out by the tests that led there.
use Rattle.std.proofs.Common.{◌≡◌, ℕ, ◌+◌, ◌-◌, ◌<◌, ◌≤◌, List, length, get_or, sym, ap, subst, ◌∙◌, arith, rules, Fits, w8}
use borrow.Author.Tests.{lt-ltb, le-ltb}
use Rattle.std.proofs.lemmas.Option.{same_Some}
use Rattle.std.specs.Prelude.{Some, Ok, Err}
use borrow.Rule.Slice.PartMut.{mid_of}
use Rattle.wire.specs.Bytes.{overwritten}
use Rattle.wire.specs.Record.{FieldsFit}
use Rattle.wire.proofs.Buffer.{back, lent}
use Rattle.refusal.specs.declared.Refusal.TheVariants.{NoRoomToWrite}
use Rattle.command.specs.declared.Command.{Command}
use Rattle.tape.specs.declared.Parts.{Parts}
use Rattle.tape.specs.declared.Row as made
use Rattle.tape.specs.Shape.{width_of, bytes_with}
use Rattle.tape.specs.Table.{row_of, row_with, parts_of, shape_of, width, bytes_of}
use Rattle.tape.specs.Tape.{write_at, after_write, write_number}
use Rattle.tape.specs.RoundTrip.{OperandsFit}
use Rattle.tape.proofs.CommandTable.{made_again}
use Rattle.tape.proofs.RoundTrip.{reads-back}
use Rattle.tape.proofs.write.Goals as goal

-- the row that the writer finds is the command's
module _ (command : Command) {p : Parts} (parts : p ≡ parts_of command.action) where
  has-row : row_with (row_of p.code) p.first p.second ≡ Some (record { shape = shape_of command.action; action = command.action })
  has-row = rw parts (made_again command.action)

  module _ {r : made.Row} (row : Some r ≡ row_with (row_of p.code) p.first p.second) {wide : ℕ} (by : wide ≡ width_of r.shape) where
    shaped : r.shape ≡ shape_of command.action
    shaped = ap (λ (x : made.Row). x.shape) (same_Some r _ (row ∙ has-row))

    wide_is : wide ≡ width command
    unfolding width
    wide_is = by ∙ ap width_of shaped

    no_room : (bytes : List ℕ) (place : ℕ) → place ≤ length bytes → length bytes - place < wide
        → Err NoRoomToWrite ≡ write_at bytes place command
    unfolding write_at
    no_room bytes place within short = rw (← wide_is, le-ltb _ _ within, lt-ltb _ _ short)

    written : (bytes : List ℕ) (place : ℕ) → place ≤ length bytes → wide ≤ length bytes - place
        → Ok (place + wide) ≡ write_at bytes place command
    unfolding write_at
    written bytes place within fits = rw (← wide_is, le-ltb _ _ within, le-ltb _ _ fits)

    put : (bytes last : List ℕ) (place : ℕ)
        → last ≡ overwritten (mid_of place (length bytes - place) bytes) 0 (bytes_with r.shape p command.fields)
        → back place bytes last ≡ overwritten bytes place (bytes_of command)
    unfolding bytes_of
    put bytes last place e = lent bytes last (bytes_of command) place (rw (e, shaped, parts))

pub unwrap-row-requires : goal.unwrap-row-requires
unwrap-row-requires c = rw (c.row_of.ensures, has-row c.args.command c.parts_of-parts.ensures)

pub returns-then-bytes-place-2-clause-answer : goal.returns-then-bytes-place-2-clause-answer
returns-then-bytes-place-2-clause-answer c =
    no_room c.args.command c.parts_of-parts.ensures (sym c.unwrap-row.ensures ∙ c.row_of.ensures) c.width_of-width.ensures c.args.bytes.now c.args.place
    (omega arith) c.if-bytes-place-2.true

pub returns-then-bytes-place-2-clause-number : goal.returns-then-bytes-place-2-clause-number
returns-then-bytes-place-2-clause-number c = ap write_number (returns-then-bytes-place-2-clause-answer c)

pub returns-clause-answer : goal.returns-clause-answer
returns-clause-answer c =
    written c.args.command c.parts_of-parts.ensures (sym c.unwrap-row.ensures ∙ c.row_of.ensures) c.width_of-width.ensures c.args.bytes.now c.args.place
    (omega arith) c.if-bytes-place-2.false

pub returns-clause-buffer : goal.returns-clause-buffer
unfolding after_write
returns-clause-buffer c =
    put c.args.command c.parts_of-parts.ensures (sym c.unwrap-row.ensures ∙ c.row_of.ensures) c.width_of-width.ensures c.args.bytes.now _ c.args.place
    c.put_command.ensures

pub returns-clause-reads_back : goal.returns-clause-reads_back
unfolding after_write
returns-clause-reads_back c =
    let parts = c.parts_of-parts.result in
    let first_fits : parts.first < 256 = search rules in
    let second_fits : parts.second < 256 = search rules in
    let operands-fit : OperandsFit c.args.command.action
    = subst (λ (p : Parts). (p.first < 256) × (p.second < 256)) c.parts_of-parts.ensures (first_fits, second_fits) in
    let name-fits : (i : ℕ) → Fits w8 (get_or c.args.command.fields.name i 0) = λ (i : ℕ). search rules in
    let fields_fit : FieldsFit c.args.command.fields
    = record {
      batch = search rules;
      vessel = search rules;
      temperature = search rules;
      name-length = search rules;
      name-width = search rules;
      name = λ i. (name-fits i).fits;
    } in
    reads-back c.args.bytes.now _ c.args.place c.args.command _ operands-fit fields_fit (returns-clause-answer c) (returns-clause-buffer c)

pub returns-clause-number : goal.returns-clause-number
returns-clause-number c = ap write_number (returns-clause-answer c)
