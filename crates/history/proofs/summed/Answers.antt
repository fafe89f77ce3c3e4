-- A turn adds the next reading.
use Rattle.std.proofs.Common.{◌+◌, ◌*◌, ◌^◌, ◌<◌, ℕ, List, get_or, ℤ, pos, ◌+ℤ◌, SFits, to_z, ◌∙◌, arith, rules}
use mir.Syntax.{w16, w32}
use Rattle.std.proofs.Math.Facts.{sfits_widen}
use Rattle.std.proofs.lemmas.Int.{to_z-of_z}
use Rattle.std.specs.Int.Signed.{mag}
use Rattle.history.proofs.Figuring.{told_more, mag-add}
use Rattle.history.proofs.summed.Goals as goal

pub loop-reading-preserved : goal.loop-reading-preserved
loop-reading-preserved c =
    let i : ℕ = c.loop-reading.reading-index in
    let rest : List ℤ = c.in_ok-first.rest.now in
    let x : ℤ = get_or rest i (pos 0) in
    let s : ℤ = to_z w32 c.loop-reading.sum-bits in
    let fits : SFits w16 x = search rules in
    let fits32 : SFits w32 x = sfits_widen {w = w16} {w' = w32} tt fits in
    let larger : mag (s +ℤ x) < (i + 1 + 1) * 2 ^ 15 = omega (arith, mag-add s x, c.loop-reading.invariant.1) in
    let sum_fits : SFits w32 (s +ℤ x) = record { sfits = omega arith } in
    let lowest_fits : SFits w16 c.min-lowest.result = search rules in
    let highest_fits : SFits w16 c.max-highest.result = search rules in
    let lowest_is = simp to_z-of_z at c.min-lowest.ensures.value in
    let highest_is = simp to_z-of_z at c.max-highest.ensures.value in
    simp to_z-of_z (
      c.loop-reading.invariant.0,
      larger,
      rw (lowest_is, highest_is) (c.loop-reading.invariant.2 ∙ told_more rest _ _ s i c.loop-reading-test.true),
    )
