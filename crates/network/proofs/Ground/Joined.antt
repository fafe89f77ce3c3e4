-- Ground. Tests joined by "and" and by "only with", and tests of a phase or an offer: what they say, and back. Each of the tests that
-- `sound` is made of has two, three or six clauses, so it is read by one law.
use mathlib.Core.Path.{◌≡◌, refl}
use mathlib.Core.Logic.{◌↔◌}
use mathlib.Core.Bool.{Bool, true, false, false≢true, ◌&&◌, ◌||◌, not}
use mathlib.Core.Option.{Option, none, some}
use borrow.Author.Tests.{not-true}
use Rattle.batch.specs.declared.BatchRecord.{BatchRecord}
use Rattle.network.specs.Network.{Phase, resting, asking, ready, answering}
use Rattle.network.specs.Sound.{is_resting, is_asking, is_ready, absent}
use Rattle.network.proofs.Ground.Splits.{and_left, and_right, and_both}

-- two clauses joined, three, and six: each part of the test read as what it says

pub two-read : {a b : Bool} {A B : Type 0} → (a ≡ true) ↔ A → (b ≡ true) ↔ B → ((a && b) ≡ true) ↔ (A × B)
two-read {a} {b} ra rb = (
  λ e. (ra.0 (and_left a b e), rb.0 (and_right a b e)),
  λ h. and_both a b (ra.1 h.0) (rb.1 h.1),
)

pub three-read : {a b c : Bool} {A B C : Type 0} → (a ≡ true) ↔ A → (b ≡ true) ↔ B → (c ≡ true) ↔ C →
    ((a && b && c) ≡ true) ↔ (A × B × C)
three-read ra rb rc =
    let r = two-read (two-read ra rb) rc in
    (λ e. let h = r.0 e in (h.0.0, h.0.1, h.1), λ h. r.1 ((h.0, h.1), h.2))

pub six-read : {a b c d e f : Bool} {A B C D E F : Type 0} →
    (a ≡ true) ↔ A → (b ≡ true) ↔ B → (c ≡ true) ↔ C → (d ≡ true) ↔ D → (e ≡ true) ↔ E → (f ≡ true) ↔ F →
    ((a && b && c && d && e && f) ≡ true) ↔ (A × B × C × D × E × F)
six-read ra rb rc rd re rf =
    let r = three-read (two-read (three-read ra rb rc) rd) re rf in (
      λ e. let h = r.0 e in let g = h.0.0 in (g.0, g.1, g.2, h.0.1, h.1, h.2),
      λ h. r.1 (((h.0, h.1, h.2), h.3), h.4, h.5),
    )

-- a clause that is its own statement, and the clause "a only with b"
pub itself : {a : Bool} → (a ≡ true) ↔ (a ≡ true)
itself = (λ e. e, λ e. e)

pub only-read : {a b : Bool} {A B : Type 0} → (a ≡ true) ↔ A → (b ≡ true) ↔ B → ((not a || b) ≡ true) ↔ (A → B)
only-read {a} {b} {A} {B} ra rb = (λ e h. rb.0 (only a (ra.1 h) e), λ h. back a (λ t. rb.1 (h (ra.0 t))))
  where
    only : (a : Bool) → a ≡ true → (not a || b) ≡ true → b ≡ true
    only true t e = e
    only false t e = absurd (false≢true t)

    back : (a : Bool) → (a ≡ true → b ≡ true) → (not a || b) ≡ true
    back true h = h refl
    back false h = refl

-- what a test of a phase or an offer says

pub resting-is : (f : Phase) → is_resting f ≡ true → f ≡ resting
resting-is resting e = refl
resting-is asking e = absurd (false≢true e)
resting-is ready e = absurd (false≢true e)
resting-is (answering x) e = absurd (false≢true e)

pub asking-is : (f : Phase) → is_asking f ≡ true → f ≡ asking
asking-is resting e = absurd (false≢true e)
asking-is asking e = refl
asking-is ready e = absurd (false≢true e)
asking-is (answering x) e = absurd (false≢true e)

pub ready-is : (f : Phase) → is_ready f ≡ true → f ≡ ready
ready-is resting e = absurd (false≢true e)
ready-is asking e = absurd (false≢true e)
ready-is ready e = refl
ready-is (answering x) e = absurd (false≢true e)

pub absent-is : (o : Option BatchRecord) → absent o ≡ true → o ≡ none
absent-is none e = refl
absent-is (some x) e = absurd (false≢true e)

pub ready-reads : (f : Phase) → (is_ready f ≡ true) ↔ (f ≡ ready)
ready-reads f = (ready-is f, λ e. rw e refl)

pub absent-reads : (o : Option BatchRecord) → (absent o ≡ true) ↔ (o ≡ none)
absent-reads o = (absent-is o, λ e. rw e refl)

pub resting-reads : (f : Phase) → (is_resting f ≡ true) ↔ (f ≡ resting)
resting-reads f = (resting-is f, λ e. rw e refl)

pub not-reads : (b : Bool) → (not b ≡ true) ↔ (b ≡ false)
not-reads b = (not-true b, λ e. rw e refl)
