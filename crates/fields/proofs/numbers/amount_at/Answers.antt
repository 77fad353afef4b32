-- `fields::numbers::amount_at` meets its contract.
use mathlib.Core.Path.{sym, ◌∙◌}
use native.Mathlib.Omega.{arith}
use borrow.Author.Rules.{rules}
use Rattle.fields.specs.Numbers.{whole_of}
use Rattle.fields.proofs.SplitLaws.{rest_part}
use Rattle.fields.proofs.LineLaws.{field_is, field_small}
use Rattle.fields.proofs.AmountLaws.{amount_none, amount_short, amount_end, first_off, second_off, amount_good}
use Rattle.fields.proofs.numbers.amount_at.Goals.{then-not-is_digit-via-then-not-is_digit, then-not-is_digit-via-else-not-is_digit+then-not-is_digit-2, then-not-is_digit-via-else-not-is_digit+else-not-is_digit-2+then-last-ne10}
use Rattle.fields.proofs.numbers.amount_at.Goals as goal

pub returns-in_err-dollars : goal.returns-in_err-dollars
returns-in_err-dollars c = c.from_residual.ensures ∙ amount_none _ _ c.field_at.ensures c.in_err-dollars.was

pub slice_bounds-rest-count : goal.slice_bounds-rest-count
slice_bounds-rest-count c = omega (arith, (field_is whole_of _ _ _ c.field_at.ensures c.in_ok-dollars.was).within)

pub slice_bounds-rest-start : goal.slice_bounds-rest-start
slice_bounds-rest-start c = let within = (field_is whole_of _ _ _ c.field_at.ensures c.in_ok-dollars.was).within in search rules

pub returns-in_default : goal.returns-in_default
returns-in_default c =
    amount_short _ _ c.field_at.ensures c.in_ok-dollars.was (rest_part c.args.s.now c.in_ok-dollars.dollars.end) c.in_default.len_below

pub returns-then-not-is_digit : goal.returns-then-not-is_digit
returns-then-not-is_digit c =
    let part = rest_part c.args.s.now c.in_ok-dollars.dollars.end in
    elim c.then-not-is_digit.branch [
      | then-not-is_digit-via-then-not-is_digit w ↦ first_off _ _ c.field_at.ensures c.in_ok-dollars.was part (sym c.is_digit.ensures.value ∙ w.if-not-is_digit.true)
      | then-not-is_digit-via-else-not-is_digit+then-not-is_digit-2 w ↦
          second_off _ _ c.field_at.ensures c.in_ok-dollars.was part (sym w.is_digit-else-not-is_digit.ensures.value ∙ w.if-not-is_digit-2.true)
      | then-not-is_digit-via-else-not-is_digit+else-not-is_digit-2+then-last-ne10 w ↦ amount_end _ _ c.field_at.ensures c.in_ok-dollars.was part w.if-last-ne10.true
    ]

pub overflow_mul-result : goal.overflow_mul-result
overflow_mul-result c = omega (arith, field_small 46 (omega arith) (λ e. omega arith) _ _ c.field_at.ensures c.in_ok-dollars.was)

pub overflow_add-result : goal.overflow_add-result
overflow_add-result c = omega (arith, c.is_digit.ensures.le_c c.if-not-is_digit.false, field_small 46 (omega arith) (λ e. omega arith) _ _ c.field_at.ensures c.in_ok-dollars.was)

pub overflow_add-result-2 : goal.overflow_add-result-2
overflow_add-result-2 c =
    omega (arith, c.is_digit.ensures.le_c c.if-not-is_digit.false, c.is_digit-else-not-is_digit.ensures.le_c c.if-not-is_digit-2.false, field_small 46 (omega arith) (λ e. omega arith) _ _ c.field_at.ensures c.in_ok-dollars.was)

pub returns : goal.returns
returns c =
    amount_good _ _ c.field_at.ensures c.in_ok-dollars.was (rest_part c.args.s.now c.in_ok-dollars.dollars.end) c.in-len4-up.len_at_least (sym c.is_digit.ensures.value ∙ c.if-not-is_digit.false) (sym c.is_digit-else-not-is_digit.ensures.value ∙ c.if-not-is_digit-2.false) c.if-last-ne10.false
