-- When two records are of the same batch: exactly when their batch numbers are equal; the name plays no part.
use Rattle.std.specs.Prelude.{◌≡◌, ◌↔◌, Bool, true, eqb}
use Rattle.batch.specs.declared.BatchRecord.{BatchRecord}

unfoldable pub same_batch : BatchRecord → BatchRecord → Bool
same_batch a b = eqb a.batch.0 b.batch.0

-- exactly when the batch numbers are equal
abbrev pub SameExactly : Type 0
SameExactly = (a b : BatchRecord) → (same_batch a b ≡ true) ↔ (a.batch.0 ≡ b.batch.0)

-- records with the batch numbers of two others answer alike, whatever their other fields: the name plays no part
abbrev pub NumberAlone : Type 0
NumberAlone =
    (a b a' b' : BatchRecord) → a.batch.0 ≡ a'.batch.0 → b.batch.0 ≡ b'.batch.0 → same_batch a b ≡ same_batch a' b'
