-- `printing::digits::write_whole` meets its contract. Each call of itself has a smaller number.
use Rattle.std.proofs.Common.{rules, ◌/◌, arith}
use Rattle.printing.proofs.SetsLaws.{◌before◌}
use Rattle.printing.proofs.AmountLaws.{whole_more, whole_four, whole_most}
use Rattle.printing.proofs.digits.+write_whole.Goals as goal

pub returns-then-n-lt10000-clause-puts : goal.returns-then-n-lt10000-clause-puts
returns-then-n-lt10000-clause-puts t c =
    rw (whole_more c.args.n (search rules)) (c.write_small-a.ensures.puts before c.write_two.ensures.puts)

pub write_two-c-requires : goal.write_two-c-requires
write_two-c-requires t c = omega (arith, whole_most 15 (c.args.n / 10000) (search rules))

pub write_two-requires-2 : goal.write_two-requires-2
write_two-requires-2 t c = omega (arith, whole_most 15 (c.args.n / 10000) (search rules))

pub returns-clause-puts : goal.returns-clause-puts
returns-clause-puts t c =
    rw (whole_four c.args.n (search rules))
    (c.write_whole-b.ensures.puts before c.write_two-c.ensures.puts before c.write_two-2.ensures.puts)

pub returns-clause-upper_bound : goal.returns-clause-upper_bound
returns-clause-upper_bound t c = omega (arith, whole_most 15 (c.args.n / 10000) (search rules))
