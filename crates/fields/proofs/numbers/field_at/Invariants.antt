-- `fields::numbers::field_at` meets its contract. The loop's invariant: only digits so far, 12 at most.
use Rattle.fields.proofs.FieldLaws.{Run}
use Rattle.fields.proofs.numbers.field_at.Given as goal

abbrev pub invariant-loop-j : goal.invariant-loop-j
invariant-loop-j l = Run l.s l.i l.j l.n
