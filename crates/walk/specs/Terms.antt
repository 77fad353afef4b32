-- The heading, RULES section 2: the forms of its lines. The rule of a term is the crate rules' `term_rule` of the same place.
use Rattle.std.specs.Prelude.{ℕ, ◌+◌, List, [], ◌∷◌, cond, get_or, length}
use Rattle.fields.specs.Text.{bytes}
use Rattle.fields.specs.Split.{same_of}
use Rattle.fields.specs.Numbers.{whole_of, amount_of}
use Rattle.fields.specs.Values.{Values, found, misread, keyed_of}
use Rattle.rules.specs.Heading.{term_rule}

-- rules 2.4, 2.7 and 5.4: one of some words, and its code, which is its place among them from 1 on
abbrev pub coded_from : (code : ℕ) → (words : List (List ℕ)) → List ℕ → Values
coded_from code [] line = misread
coded_from code (word ∷ words) line = cond (same_of word line) (found (code ∷ [])) (coded_from (code + 1) words line)

unfoldable pub formula_word : List ℕ → Values
formula_word = coded_from 1 (bytes "formula=flat" ∷ bytes "formula=career" ∷ bytes "formula=final" ∷ [])

unfoldable pub method_word : List ℕ → Values
method_word =
    coded_from 1 (bytes "method=AB" ∷ bytes "method=BD" ∷ bytes "method=BP" ∷ bytes "method=CD" ∷ bytes "method=CP" ∷ [])

-- rule 2.1, the order of the lines: each holds one value
unfoldable pub term_forms : List (List ℕ → Values)
term_forms =
    keyed_of (bytes "interest=") whole_of 0
    ∷ keyed_of (bytes "retire=") whole_of 0
    ∷ keyed_of (bytes "pay=") whole_of 0
    ∷ formula_word
    ∷ keyed_of (bytes "unit=") whole_of 0
    ∷ keyed_of (bytes "average=") whole_of 0
    ∷ method_word
    ∷ keyed_of (bytes "assets=") amount_of 0
    ∷ keyed_of (bytes "years=") whole_of 0
    ∷ []

-- the line with so many terms before it; past the last none is due
abbrev pub term_form : ℕ → List ℕ → Values
term_form k = get_or term_forms k (λ line. misread)

-- what its rule refuses after the terms before it, 0 for nothing
abbrev pub term_refusal : (before : List ℕ) → ℕ → ℕ
term_refusal before v = term_rule (length before) before v
