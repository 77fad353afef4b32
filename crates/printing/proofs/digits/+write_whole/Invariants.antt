-- Each call of itself has a smaller number.
use Rattle.printing.proofs.digits.+write_whole.Given as goal

abbrev pub decreases-write_whole : goal.decreases-write_whole
decreases-write_whole l = l.n
