-- The sum of the list is the sum over the nodes.
use Rattle.std.proofs.Common.{ℕ, zero, suc, ◌≡◌, ◌+◌, ◌≤◌, List, length, get_or, take, refl, sym, ap, ◌∙◌, rules, arith, add-one}
use Rattle.std.specs.List as Listed
use Rattle.std.proofs.lemmas.List.Sums.{sum_by_more}
use Rattle.std.proofs.iter.runs.Sources.{sums}
use lib.Seq.{take_all}
use Rattle.network.specs.Counting.{sum}
use Rattle.soundness.proofs.slot_count.Goals as goal

sum-of : (xs : List ℕ) (n : ℕ) → n ≤ length xs → Listed.sum (take n xs) ≡ sum n (λ p. get_or xs p 0)
unfolding sum
sum-of xs zero l = refl
sum-of xs (suc n) l =
    ap (λ m. Listed.sum (take m xs)) (sym (add-one n))
    ∙ sum_by_more (λ x. x) xs n 0 (omega arith)
    ∙ ap (λ m. m + get_or xs n 0) (sum-of xs n (omega arith))

pub sum-requires-clause-fits : goal.sum-requires-clause-fits
sum-requires-clause-fits c = search (rules, sums)

pub returns : goal.returns
returns c =
    let said : c.sum.result ≡ Listed.sum c.args.capacity.now = search (rules, sums) in
    said ∙ ap Listed.sum (sym (take_all 16 c.args.capacity.now (omega arith))) ∙ sum-of c.args.capacity.now 16 (omega arith)
