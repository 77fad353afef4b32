-- The lines after the terms: an amendment, rule 2.11; a row, RULES section 3; a member or the end, section 4. The range rules of an amendment are the crate
-- amendments', those of a row the crate row_rules', those of a member the crate rule_order's.
use Rattle.std.specs.Prelude.{ℕ, ◌+◌, List, [], ◌∷◌, Bool, cond, length, get_or, eqb}
use Rattle.fields.specs.Text.{bytes}
use Rattle.fields.specs.Split.{starts_of}
use Rattle.fields.specs.Numbers.{whole_of, amount_of}
use Rattle.fields.specs.Values.{Values, found, misread, keyed_of}
use Rattle.rates.specs.Table.{first_age}
use Rattle.plan.specs.declared.Member.{Member}
use Rattle.plan.specs.Numbers.{member_from}
use Rattle.rules.specs.Rules.{first_among}
use Rattle.row_rules.specs.Table.{row_rules, row_numbers, weight_before}

-- ---- an amendment
-- rule 2.11: a line after the terms that begins so is an amendment's, and any other the first row's
abbrev pub begins : List ℕ → Bool
begins line = starts_of (bytes "amend=") line

-- rule 2.11: amend=, the number, the number that it rests on, the addition and whether it is struck
unfoldable pub amend_form : List ℕ → Values
amend_form = keyed_of (bytes "amend=") whole_of 3

-- ---- a row
-- the age that is due, and the four numbers after it
abbrev pub in_turn : (age : ℕ) → Values → Values
in_turn age (found (a ∷ row)) = cond (eqb a age) (found row) misread
in_turn age (found []) = misread
in_turn age misread = misread

-- rule 3.1: row=, the age, the three rates and the weight
unfoldable pub row_form : (age : ℕ) → List ℕ → Values
row_form age line = in_turn age (keyed_of (bytes "row=") whole_of 4 line)

-- the age of the row after some rows
abbrev pub due_age : (rows : List (List ℕ)) → ℕ
due_age rows = length rows + first_age

-- rules 3.2, 3.4 and 3.5 of a row after those before it
abbrev pub row_refusal : (before : List (List ℕ)) → (row : List ℕ) → ℕ
row_refusal before row = first_among (row_rules (due_age before) (weight_before before (due_age before)) (row_numbers row))

-- ---- a member, or the end
-- what a line after the rows is
pub data Tail : Type 0 where
  listed : Member → Tail
  end : (count : ℕ) → Tail
  surplus : Tail
  neither : Tail

-- rule 4.1: at most 1,000 members
abbrev pub most_members : ℕ
most_members = 1000

-- rule 4.1: id, person, entry age, age and salary
abbrev pub listed_made : Values → Tail
listed_made (found vs) = listed (member_from vs)
listed_made misread = neither

-- rule 4.6: the count of members
abbrev pub end_made : Values → Tail
end_made (found vs) = end (get_or vs 0 0)
end_made misread = neither

-- rule 12.3, refusal 27: one member= more than 1,000, however it goes on; refusal 20: no member line and no end line, or a wrong form
unfoldable pub tail_of : (full : Bool) → List ℕ → Tail
tail_of full line =
    cond (starts_of (bytes "member=") line)
    (cond full surplus (listed_made (keyed_of (bytes "member=") amount_of 4 line)))
    (end_made (keyed_of (bytes "end=") whole_of 0 line))
