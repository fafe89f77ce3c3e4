-- The listing of a tape, printed piece by piece.
use Rattle.std.proofs.Common.{ℕ, ◌<◌, ◌≡◌, true, List, [], ◌++◌, length, take, Option, None, Some, IfSome, Result, Ok, IfOk, sym, ap, ◌∙◌, append_assoc, inl, inr, arith}
use Rattle.std.proofs.lemmas.Result.{IfOk-at_ok}
use Rattle.std.proofs.lemmas.List.{append-nil, length-take, take_all}
use Rattle.std.specs.Io.KnownBytes.{Appends}
use Rattle.std.proofs.lemmas.Bool.{cases_lt}
use Rattle.runner.specs.declared.Session.{Session}
use Rattle.runner.specs.Session.{beginning, longest}
use Rattle.runner.specs.Listing.{to_come, listing_of}
use Rattle.runner.proofs.Counts.{from-the-beginning}
use Rattle.runner.proofs.Lines.{nothing-after, too-long-alone}
use Rattle.run_tape.specs.Input.{IsFront}
use Rattle.run_tape.proofs.Pieces.{none-written, write-on}

-- the bytes that were printed and those that are then to come are together the listing
pub record Printed (tape : List ℕ) (s : Session) (before now : Option (List ℕ)) : Type 0 where
  pub bytes : List ℕ
  pub printed : Appends before now bytes
  pub listing : bytes ++ to_come tape s ≡ listing_of tape

pub begins : (tape : List ℕ) (held : Option (List ℕ)) → Printed tape beginning held held
begins tape held = record { bytes = []; printed = none-written held; listing = from-the-beginning tape }

pub goes_on : {tape : List ℕ} {s t : Session} {before now then : Option (List ℕ)} (piece : List ℕ) → Printed tape s before now
    → piece ++ to_come tape t ≡ to_come tape s → Appends now then piece → Printed tape t before then
goes_on {tape} {s} {t} {before} {now} {then} piece p e w = record {
  bytes = p.bytes ++ piece;
  printed = write-on before now then p.bytes piece p.printed w;
  listing = append_assoc p.bytes piece (to_come tape t) ∙ ap (λ (l : List ℕ). p.bytes ++ l) e ∙ p.listing;
}

pub whole : {tape : List ℕ} {s : Session} {before now : Option (List ℕ)} → Printed tape s before now → s.over ≡ true
    → Appends before now (listing_of tape)
whole {tape} {s} p over =
    let all : p.bytes ≡ listing_of tape
    = sym (append-nil p.bytes) ∙ ap (λ (l : List ℕ). p.bytes ++ l) (sym (nothing-after tape s over)) ∙ p.listing in
    rw (← all) p.printed

-- one byte more than the longest tape is enough of a tape for its listing
pub enough : (bytes : List ℕ) (n : ℕ) → longest < n → listing_of (take n bytes) ≡ listing_of bytes
enough bytes n h =
    elim (cases_lt n (length bytes)) [
      | inl k ↦ too-long-alone (take n bytes) (omega (arith, length-take n bytes)) ∙ sym (too-long-alone bytes (omega arith))
      | inr k ↦ ap listing_of (take_all n bytes k)
    ]

-- what was read is the front of the input, so its listing is the input's
listed : (left before now : Option (List ℕ)) (buffer : List ℕ) (len : ℕ) → IsFront left len buffer → longest < length buffer
    → Appends before now (listing_of (take len buffer)) → IfSome left (λ bytes. Appends before now (listing_of bytes))
listed None before now buffer len e h p = tt
listed (Some bytes) before now buffer len e h p = rw (e, enough bytes (length buffer) h) at p

pub all-listed : {E : Type 0} (left before now : Option (List ℕ)) (buffer : List ℕ) (len : ℕ) (read : Result ℕ E)
    → IfOk read (λ n. IsFront left n buffer) → read ≡ Ok len → longest < length buffer
    → Appends before now (listing_of (take len buffer)) → IfSome left (λ bytes. Appends before now (listing_of bytes))
all-listed left before now buffer len read front e = listed left before now buffer len (IfOk-at_ok _ e front)
