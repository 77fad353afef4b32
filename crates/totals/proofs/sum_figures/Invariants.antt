-- `totals::sum_figures` meets its contract. The loop's invariant: the sums of the members so far.
use Rattle.std.proofs.Common.{◌≡◌}
use Rattle.totals.specs.Sums.{sum_in}
use Rattle.totals.proofs.sum_figures.Given as goal

abbrev pub invariant-loop-numbers : goal.invariant-loop-numbers
invariant-loop-numbers l = (l.value ≡ sum_in (λ f. f.value) l.worked l.numbers-index) × (l.cost ≡ sum_in (λ f. f.cost) l.worked l.numbers-index) × (l.liability ≡ sum_in (λ f. f.liability) l.worked l.numbers-index)
