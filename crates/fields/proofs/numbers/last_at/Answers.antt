-- `fields::numbers::last_at` meets its contract.
use Rattle.fields.proofs.numbers.last_at.Goals as goal

pub returns-then-amount : goal.returns-then-amount
returns-then-amount c = rw c.if-amount.true c.amount_at.ensures

pub returns-else-amount : goal.returns-else-amount
returns-else-amount c = rw c.if-amount.false c.field_at.ensures
