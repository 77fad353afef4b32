-- `heading::head_lines` meets its contract. The loop's invariant: k terms are read, and the walk goes on from here.
use Rattle.heading.proofs.HeadLaws.{TermsRead}
use Rattle.heading.proofs.head_lines.Given as goal

abbrev pub invariant-loop-k : goal.invariant-loop-k
invariant-loop-k l = TermsRead l.ranges l.s l.terms l.line l.at l.k
