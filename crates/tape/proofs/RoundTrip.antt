-- The theorems on reading and writing together. A reading that found a command passed each test on the way, and its command is
-- what the row of the command byte makes of the bytes; the laws of the rows do the rest.
use Prim.Native.Nat.{ℕ, ◌+◌, ◌-◌, ◌<◌, ◌≤◌}
use mathlib.Core.Path.{◌≡◌, refl, sym, ap, ◌∙◌}
use mathlib.Core.Bool.{Bool, true, false, cond}
use mathlib.Core.List.{List, ◌++◌}
use native.Mathlib.Nat.{add-zero}
use native.Mathlib.Omega.{arith}
use lib.Dec.{eqb, ltb}
use lib.ListN.{length, get_or, take, drop, length-append, length-drop}
use lib.Seq.{get_or-drop}
use borrow.Author.Tests.{le-ltb, ltb-false, eqb-false}
use Rattle.std.specs.Prelude.{Option, Some, None, Result, Ok, Err}
use Rattle.command.specs.declared.Command.{Command}
use Rattle.tape.specs.declared.Reading.{Reading}
use Rattle.refusal.specs.declared.Refusal.{Refusal}
use Rattle.refusal.specs.declared.Refusal.TheVariants.{UnknownCommand, CommandCut, PlaceBeyondEnd, NoRoomToWrite}
use Rattle.batch.specs.declared.sending.Fields.{Fields}
use Rattle.wire.specs.Bytes.{Bytes, overwritten}
use Rattle.wire.specs.Record.{FieldsFit}
use Rattle.tape.specs.Shape.{width_of}
use Rattle.tape.specs.Table.{Row, row_of, parts_of, shape_of, command_in, bytes_of, width, plain}
use Rattle.tape.specs.Tape.{found, read_row, read_at, write_at, after_write}
use Rattle.tape.specs.RoundTrip.{OperandsFit, WrittenReadsBack, PlainReadsBack, ReadWritesBack, ReadIsPlain}
use Rattle.tape.specs.RoundTrip.{ReadsBack, WritesBack}
use Rattle.wire.proofs.Buffer.{length-overwritten, drop-overwritten, put_same}
use Rattle.wire.proofs.Bytes.{bytes_drop}
use Rattle.tape.proofs.Cases.{by_row, row-found}
use Rattle.tape.proofs.Shapes.{fields-once, some_bytes}
use Rattle.tape.proofs.CommandTable.{length-bytes_of, code-first, command-read, row-own, row_made, row_written}

-- ---- what an answer tells of the tests on the way to it

-- a test that leads to another answer failed
passed : {A : Type 0} {z : A} (b : Bool) (x y : A) → (x ≡ z → ⊥) → cond b x y ≡ z → (b ≡ false) × (y ≡ z)
passed true x y other e = absurd (other e)
passed false x y other e = (refl, e)

refused≢done : {A : Type 0} (r : Refusal) (x : A) → ◌≡◌ {A = Result A Refusal} (Err r) (Ok x) → ⊥
refused≢done r x e = grind arith

end≢found : (next : ℕ) (c : Command) → Ok None ≡ found next c → ⊥
end≢found next c e = grind arith

same-found : {m n : ℕ} {c d : Command} → found m c ≡ found n d → (m ≡ n) × (c ≡ d)
same-found {m} {n} {c} {d} e =
    let same : ◌≡◌ {A = Reading} (record { command = c; next = m }) (record { command = d; next = n }) = cc in
    (ap (λ (r : Reading). r.next) same, ap (λ (r : Reading). r.command) same)

-- what stands at the place of a command that was read
record Known (bytes : List ℕ) (place next : ℕ) (c : Command) : Type 0 where
  within : place < length bytes
  row : Row
  row-is : row_of (get_or bytes place 0) ≡ Some row
  whole : width_of row.shape ≤ length bytes - place
  next-is : next ≡ place + width_of row.shape
  command-is : c ≡ command_in row (drop place bytes)

module _ (bytes : List ℕ) (place next : ℕ) (c : Command) where
  -- by the row of the command byte
  known_by : (o : Option Row) → row_of (get_or bytes place 0) ≡ o → place < length bytes
      → read_row o place (drop place bytes) ≡ found next c → Known bytes place next c
  unfolding read_row
  known_by None is within e = absurd (refused≢done UnknownCommand _ e)
  known_by (Some r) is within e =
      let t = passed (ltb (length (drop place bytes)) (width_of r.shape)) _ _ (refused≢done CommandCut _) e in
      let same = same-found (sym t.1) in
      record {
        within = within;
        row = r;
        row-is = is;
        whole = rw length-drop at (ltb-false (length (drop place bytes)) (width_of r.shape) t.0);
        next-is = same.0;
        command-is = same.1;
      }

  known : read_at bytes place ≡ found next c → Known bytes place next c
  unfolding read_at
  known e =
      let t1 = passed (ltb (length bytes) place) _ _ (refused≢done PlaceBeyondEnd _) e in
      let t2 = passed (eqb place (length bytes)) _ _ (end≢found next c) t1.1 in
      let within : place < length bytes = omega (arith, ltb-false (length bytes) place t1.0, eqb-false place (length bytes) t2.0) in
      known_by _ refl within t2.1

-- ---- what was read

pub read-is-plain : ReadIsPlain
read-is-plain bytes place next c e =
    let k = known bytes place next c e in
    let own = row-own (get_or bytes place 0) (drop place bytes) k.row-is in
    (rw k.command-is own.0, k.next-is ∙ ap (λ (w : ℕ). place + w) (sym (ap width k.command-is ∙ own.1)))

pub read-writes-back : ReadWritesBack
unfolding write_at
read-writes-back bytes place next c b e =
    let k = known bytes place next c e in
    let t = drop place bytes in
    let n = width_of k.row.shape in
    let wide : width c ≡ n = ap width k.command-is ∙ (row-own (get_or bytes place 0) t k.row-is).1 in
    let code : get_or t 0 0 ≡ get_or bytes place 0 = get_or-drop place bytes 0 0 ∙ rw add-zero in
    let whole : n ≤ length t = rw length-drop k.whole in
    let made = row_written t (bytes_drop place bytes b) (get_or bytes place 0) code k.row-is whole in
    let bytes-are : bytes_of c ≡ take n t = ap bytes_of k.command-is ∙ made in (
      rw (wide, le-ltb (length bytes) place (omega arith), le-ltb (length bytes - place) n k.whole) (ap Ok (sym k.next-is)),
      rw bytes-are (put_same bytes place n (omega arith)),
    )

-- ---- what was written

-- what is known of a buffer that a command was written to
record Room (bytes : List ℕ) (place next : ℕ) (c : Command) : Type 0 where
  within : place ≤ length bytes
  room : place + width c ≤ length bytes
  next-is : next ≡ place + width c

room_of : (bytes : List ℕ) (place next : ℕ) (c : Command) → write_at bytes place c ≡ Ok next → Room bytes place next c
unfolding write_at
room_of bytes place next c e =
    let t1 = passed (ltb (length bytes) place) _ _ (refused≢done PlaceBeyondEnd next) e in
    let t2 = passed (ltb (length bytes - place) (width c)) _ _ (refused≢done NoRoomToWrite next) t1.1 in
    let within : place ≤ length bytes = ltb-false (length bytes) place t1.0 in
    record {
      within = within;
      room = omega (arith, ltb-false (length bytes - place) (width c) t2.0);
      next-is = cc;
    }

row-wide : (c : Command) → width c ≡ width_of (row_made c.action).row.shape
unfolding width
row-wide c = ap width_of (sym (row_made c.action).shape)

-- a plain command stays as it is
plain-once : (c : Command) → plain (plain c) ≡ plain c
unfolding plain
plain-once c =
    ap (λ (x : Fields). record { action = c.action; fields = x }) (fields-once (shape_of c.action) c.fields)

pub written-reads-back : WrittenReadsBack
written-reads-back bytes place next c f g e =
    let k = room_of bytes place next c e in
    let code = (parts_of c.action).code in
    let m = row_made c.action in
    let new = bytes_of c in
    let wide : width c ≡ width_of m.row.shape = row-wide c in
    let long : length new ≡ width c = length-bytes_of c g in
    let buffer = overwritten bytes place new in
    let same : length buffer ≡ length bytes = length-overwritten bytes new place (omega (arith, k.room)) in
    let rest = drop (place + length new) bytes in
    let from : drop place buffer ≡ new ++ rest = drop-overwritten bytes new place k.within in
    let begins : get_or buffer place 0 ≡ code
    = sym (get_or-drop place buffer 0 0 ∙ rw add-zero)
    ∙ ap (λ (l : List ℕ). get_or l 0 0) from
    ∙ code-first c rest in (
      by_row buffer place (omega (arith, k.room, wide, some_bytes m.row.shape))
          ∙ rw (begins, m.is, from)
          (row-found m.row place (new ++ rest) (rw length-append (omega (arith, long, wide)))
          ∙ rw (← wide, ← k.next-is) (ap (found next) (command-read c rest m.is f g))),
      plain-once c,
    )

pub plain-reads-back : PlainReadsBack
plain-reads-back bytes place next c f g p e = (written-reads-back bytes place next c f g e).0 ∙ ap (found next) p

-- ---- the same of an answer that is at hand

pub writes-back : (bytes : List ℕ) (place : ℕ) (r : Result (Option Reading) Refusal) → Bytes bytes → r ≡ read_at bytes place
    → WritesBack r bytes place
writes-back bytes place (Ok (Some r)) b e = read-writes-back bytes place r.next r.command b (sym e)
writes-back bytes place (Ok None) b e = tt
writes-back bytes place (Err x) b e = tt

pub reads-back : (bytes after : List ℕ) (place : ℕ) (c : Command) (w : Result ℕ Refusal) → OperandsFit c.action → FieldsFit c.fields
    → w ≡ write_at bytes place c → after ≡ after_write w bytes place c → ReadsBack w after place c
unfolding after_write
reads-back bytes after place c (Ok next) f g e a = rw a (written-reads-back bytes place next c f g (sym e))
reads-back bytes after place c (Err x) f g e a = tt
