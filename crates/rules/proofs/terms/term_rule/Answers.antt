-- `rules::terms::term_rule` meets its contract.
use native.Mathlib.Omega.{arith}
use Rattle.rules.proofs.TermLaws.{no_term}
use Rattle.rules.proofs.terms.term_rule.Goals as goal

pub returns-in-2 : goal.returns-in-2
returns-in-2 c = rw c.in-2.is c.pay_rule.ensures

pub returns-in_default : goal.returns-in_default
returns-in_default c = no_term c.args.k c.args.terms.now c.args.v (omega arith)
