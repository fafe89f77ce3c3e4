-- The two tests of a record's bytes (specs/Fits, `BytesFit`): a good record is written back as its bytes, and zeros are what is laid
-- out where there is none.
use Prim.Native.Nat.{ℕ, zero, suc, ◌-◌, ◌*◌, ◌<◌}
use mathlib.Core.Path.{◌≡◌, refl, sym, ap, ◌∙◌}
use mathlib.Core.Bool.{Bool, true, false, ◌&&◌, false≢true}
use mathlib.Core.List.{List, [], ◌∷◌, ◌++◌}
use native.Mathlib.Omega.{arith}
use lib.ListN.{length, length-append}
use lib.Seq.{take_all}
use borrow.Author.Tests.{eqb-true, eq-eqb}
use Rattle.batch.specs.Good.{every, is_zero, good_record}
use Rattle.wire.specs.Bytes.{Bytes}
use Rattle.wire.specs.Record.{record_length, record_bytes, record_in}
use Rattle.wire.proofs.Record.{record-writes-back}
use Rattle.network.specs.Layout.{padded}
use Rattle.network.proofs.Ground.Splits.{and_left, and_right, and_both}
use Rattle.network.proofs.Memory.Rows.{padded-whole}
use Rattle.messages.specs.Decides.{Decides}
use Rattle.messages.specs.Messages.{Blank}
use Rattle.soundness.specs.Fits.{BytesFit}
use Rattle.messages.proofs.Zeros.{blank-padded, padded-blank}

-- a test of cells that are zero

zeros-blank : (xs : List ℕ) → every is_zero xs ≡ true → Blank xs
zeros-blank [] e i = refl
zeros-blank (x ∷ xs) e zero = eqb-true x 0 (and_left (is_zero x) (every is_zero xs) e)
zeros-blank (x ∷ xs) e (suc i) = zeros-blank xs (and_right (is_zero x) (every is_zero xs) e) i

blank-zeros : (xs : List ℕ) → Blank xs → every is_zero xs ≡ true
blank-zeros [] blank = refl
blank-zeros (x ∷ xs) blank = and_both (is_zero x) (every is_zero xs) (eq-eqb x 0 (blank 0)) (blank-zeros xs (λ i. blank (suc i)))

and-associates : (a b c : Bool) → ((a && b) && c) ≡ (a && (b && c))
and-associates true b c = refl
and-associates false b c = refl

every-append : (xs ys : List ℕ) → every is_zero (xs ++ ys) ≡ (every is_zero xs && every is_zero ys)
every-append [] ys = refl
every-append (x ∷ xs) ys =
    ap (λ rest. is_zero x && rest) (every-append xs ys) ∙ sym (and-associates (is_zero x) (every is_zero xs) (every is_zero ys))

empty : (xs : List ℕ) → length xs ≡ 0 → true ≡ every is_zero xs
empty [] e = refl
empty (x ∷ xs) e = absurd (omega arith)

-- the words of eight cells that are to come: they are zero exactly when all cells are
pub record ToCome (cells rest : List ℕ) (size : ℕ) : Type 0 where
  pub eight : size ≡ 8
  pub whole : (words : ℕ) × (length rest ≡ 8 * words)
  pub same : every is_zero rest ≡ every is_zero cells

module _ {cells rest : List ℕ} {size : ℕ} (t : ToCome cells rest size) where
  module _ (word more : List ℕ) (first : rest ≡ word ++ more) where
    split : every is_zero cells ≡ (every is_zero word && every is_zero more)
    split = sym t.same ∙ ap (every is_zero) first ∙ every-append word more

    pub word-stops : every is_zero word ≡ false → false ≡ every is_zero cells
    word-stops e = sym (split ∙ rw e refl)

    pub word-passed : {after : ℕ} → length word ≡ size → after ≡ size → every is_zero word ≡ true → ToCome cells more after
    word-passed long e none =
        record {
          eight = e ∙ t.eight;
          whole = (t.whole.0 - 1, omega (arith, t.whole.1, ap length first, length-append word more, t.eight));
          same = sym (split ∙ rw none refl);
        }

  pub none-left : length rest < size → true ≡ every is_zero cells
  none-left few = empty rest (omega (arith, t.whole.1, t.eight)) ∙ t.same

-- the two tests of a record

module _ (bytes : List ℕ) (whole : length bytes ≡ record_length) where
  pub decides-there : Bytes bytes → Decides (good_record (record_in bytes)) (BytesFit true bytes)
  decides-there are-bytes =
      let written : record_bytes (record_in bytes) ≡ bytes =
      record-writes-back bytes are-bytes (omega arith) ∙ take_all record_length bytes (omega arith) in
      record {
        holds = λ e. record { good = λ h. e; laid = sym (ap (padded record_length) written ∙ padded-whole record_length bytes whole) };
        passes = λ f. f.good refl;
      }

  pub decides-absent : {blank : Bool} → blank ≡ every is_zero bytes → Decides blank (BytesFit false bytes)
  decides-absent of-bytes =
      rw of-bytes
      record {
        holds = λ e.
            record { good = λ h. absurd (false≢true h); laid = blank-padded record_length bytes whole (zeros-blank bytes e) };
        passes = λ f. blank-zeros bytes (padded-blank record_length f.laid);
      }
