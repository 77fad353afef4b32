-- `heading::term_line` meets its contract.
use native.Mathlib.Omega.{arith}
use Rattle.walk.specs.Terms.{term_forms}
use Rattle.heading.proofs.LineLaws.{no_form}
use Rattle.heading.proofs.term_line.Goals as goal

pub returns-in-0 : goal.returns-in-0
unfolding term_forms
returns-in-0 c = rw c.in-0.is c.whole_values.ensures

pub returns-in-1 : goal.returns-in-1
unfolding term_forms
returns-in-1 c = rw c.in-1.is c.whole_values-in-1.ensures

pub returns-in-2 : goal.returns-in-2
unfolding term_forms
returns-in-2 c = rw c.in-2.is c.whole_values-in-2.ensures

pub returns-in-3 : goal.returns-in-3
unfolding term_forms
returns-in-3 c = rw c.in-3.is c.word_line.ensures

pub returns-in-4 : goal.returns-in-4
unfolding term_forms
returns-in-4 c = rw c.in-4.is c.whole_values-in-4.ensures

pub returns-in-5 : goal.returns-in-5
unfolding term_forms
returns-in-5 c = rw c.in-5.is c.whole_values-in-5.ensures

pub returns-in-6 : goal.returns-in-6
unfolding term_forms
returns-in-6 c = rw c.in-6.is c.word_line-in-6.ensures

pub returns-in-7 : goal.returns-in-7
unfolding term_forms
returns-in-7 c = rw c.in-7.is c.values_to_amount.ensures

pub returns-in-8 : goal.returns-in-8
unfolding term_forms
returns-in-8 c = rw c.in-8.is c.whole_values-in-8.ensures

pub returns-in_default : goal.returns-in_default
returns-in_default c = no_form _ _ (omega arith) c.unread.ensures
