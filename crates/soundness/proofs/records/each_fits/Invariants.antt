-- The loop counts the records that do not fit (messages/proofs/Loops).
use Rattle.std.proofs.Common.{ℕ, List, get_or}
use lib.Dec.{eqb}
use Rattle.wire.specs.Record.{record_length}
use Rattle.network.specs.Layout.{row}
use Rattle.soundness.specs.Fits.{BytesFit}
use Rattle.messages.proofs.Loops.{Counting}
use Rattle.soundness.proofs.records.each_fits.Given as goal

abbrev pub RecordAt : List ℕ → ℕ → List ℕ → ℕ → Type 0
RecordAt states state records k = BytesFit (eqb (get_or states k 0) state) (row record_length records k)

abbrev pub invariant-loop-k : goal.invariant-loop-k
invariant-loop-k l = Counting (RecordAt l.states l.with l.records) l.count l.wrong l.k
