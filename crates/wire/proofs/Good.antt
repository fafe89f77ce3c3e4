-- A good record fits its bytes: each clause of "good" bounds a field. So a good record is read back as it was written.
use Prim.Native.Nat.{ℕ, zero, suc, ◌<◌, ◌^◌}
use mathlib.Core.Path.{◌≡◌}
use mathlib.Core.Bool.{Bool, true, and-eq-true_iff}
use mathlib.Core.List.{List, [], ◌∷◌}
use native.Mathlib.Omega.{arith}
use lib.Dec.{eqb, leb, ltb, lit<}
use lib.IntN.{ℤ, pos, negsuc}
use lib.Signed.{mag, le_z}
use lib.ListN.{length, take, drop, take-append-drop}
use borrow.Author.Tests.{leb-true, ltb-true, eqb-true}
use Rattle.batch.specs.declared.BatchRecord.{BatchRecord}
use Rattle.batch.specs.Good.{every, is_zero, is_character, first_character, last_character, coldest, hottest, name_limit}
use Rattle.batch.specs.Good.{name_cells_good, temp_good, name_length_good, name_good, widths_good, good_record}
use Rattle.batch.proofs.Good.{good-clauses}
use Rattle.wire.specs.Bytes.{Bytes}
use Rattle.wire.specs.Record.{RecordFits}
use Rattle.wire.proofs.Bytes.{bytes-append}

mild-fits : (z : ℤ) → le_z coldest z ≡ true → le_z z hottest ≡ true → mag z < 2 ^ 15
mild-fits (pos n) cold hot = omega (arith, leb-true n _ hot)
mild-fits (negsuc n) cold hot = omega (arith, leb-true n _ cold)

every_byte : (f : ℕ → Bool) → ((x : ℕ) → f x ≡ true → x < 256) → (cells : List ℕ) → every f cells ≡ true → Bytes cells
every_byte f small [] e i = lit< tt
every_byte f small (x ∷ xs) e zero = small x ((and-eq-true_iff (f x) (every f xs)).0 e).0
every_byte f small (x ∷ xs) e (suc i) = every_byte f small xs ((and-eq-true_iff (f x) (every f xs)).0 e).1 i

character-byte : (x : ℕ) → is_character x ≡ true → x < 256
character-byte x e = omega (arith, leb-true x last_character ((and-eq-true_iff (leb first_character x) (leb x last_character)).0 e).1)

zero-byte : (x : ℕ) → is_zero x ≡ true → x < 256
zero-byte x e = omega (arith, eqb-true x 0 e)

name-bytes : (n : ℕ) (cells : List ℕ) → name_cells_good n cells ≡ true → Bytes cells
unfolding name_cells_good
name-bytes n cells e =
    let parts = (and-eq-true_iff (every is_character (take n cells)) (every is_zero (drop n cells))).0 e in
    rw take-append-drop at
    (bytes-append (take n cells) (drop n cells) (every_byte is_character character-byte (take n cells) parts.0)
    (every_byte is_zero zero-byte (drop n cells) parts.1))

pub good-fits : (r : BatchRecord) → good_record r ≡ true → RecordFits r
unfolding temp_good name_length_good name_good widths_good
good-fits r e =
    let passes = good-clauses r e in
    let cells = (and-eq-true_iff _ (eqb (length r.name) name_limit)).0 passes.widths in
    let mild = (and-eq-true_iff (le_z coldest r.temperature) (le_z r.temperature hottest)).0 passes.degrees in
    let numbers = (and-eq-true_iff (ltb r.batch.0 (2 ^ 32)) (ltb r.vessel 256)).0 cells.0 in
    record {
      batch = ltb-true r.batch.0 (2 ^ 32) numbers.0;
      vessel = ltb-true r.vessel 256 numbers.1;
      temperature = mild-fits r.temperature mild.0 mild.1;
      name-length = omega (arith, leb-true r.name_length name_limit passes.size);
      name-width = eqb-true (length r.name) name_limit cells.1;
      name = name-bytes r.name_length r.name passes.name;
    }
