-- `totals::work` meets its contract: the figures stand in the used part of the array, and that is summed.
use mathlib.Core.Path.{◌≡◌, ◌∙◌}
use native.Mathlib.Omega.{arith}
use lib.ListN.{length, take}
use Rattle.std.proofs.lemmas.List.{length-take-le}
use Rattle.totals.specs.Sums.{sums_in}
use Rattle.totals.proofs.TotalLaws.{sums_totals}
use Rattle.all_figures.proofs.WorkedLaws.{worked_small, worked_front}
use Rattle.totals.proofs.work.Goals as goal

pub sum_figures-requires : goal.sum_figures-requires
sum_figures-requires c = let a = c.args in
    let n = length a.members.now in
    let w = c.fill_figures.new.worked in
    let used : length (take n w) ≡ n = length-take-le n w (omega (arith, c.requires.few, c.fill_figures.array_long)) in
    let all = worked_front a.p a.rows a.members.now w n c.fill_figures.ensures in
    rw used (c.requires.few, worked_small a.p a.rows a.members.now (take n w) n c.requires all)

pub returns : goal.returns
returns c = let a = c.args in
    let n = length a.members.now in
    let w = c.fill_figures.new.worked in
    let used : length (take n w) ≡ n = length-take-le n w (omega (arith, c.requires.few, c.fill_figures.array_long)) in
    let all = worked_front a.p a.rows a.members.now w n c.fill_figures.ensures in
    let is : c.sum_figures.result ≡ sums_in (take n w) n = rw used at c.sum_figures.ensures in
    record { value = is ∙ sums_totals a.p a.rows a.members.now (take n w) n all; are_worked = c.fill_figures.ensures }
