-- Rule 13.7, the case file of plain values: their first refusal, at line 0, with 30 after all others; or its bytes.
use Rattle.std.specs.Prelude.{◌≡◌, refl, List, [], ℕ}
use Rattle.rules.specs.Refusals.{out_of_range, wrong_weight}
use Rattle.rules.specs.Heading.{head_rules}
use Rattle.row_rules.specs.Table.{row_rules, rows_refusal}
use Rattle.amendments.specs.Judging.{unit_refusal, each_refusal, amendments_refusal}
use Rattle.rule_order.specs.Acceptance.{amended_refusal}
use Rattle.rules.specs.Outcome.{Outcome, refusal, passing}
use Rattle.walk.specs.Walk.{Case}
use Rattle.judging.specs.Refusing.{members_refusal, case_refusal}
use Rattle.written.specs.Written.{written}
use Rattle.fitting.specs.Fitting.{fitting}

unfoldable pub file_of : (room : ℕ) → Case → Outcome (List ℕ)
file_of room c = passing (case_refusal c) 0 (fitting room (written c))

-- ---- computed: in no room, a plan that rule 2.2 refuses, and one that nothing is wrong with but that it has no rows
abbrev sample : (interest : ℕ) → Case
sample interest =
    record {
      plan = record { interest = interest; retire = 65; pay = 1; formula = 1; unit = 0; average = 0; method = 1; assets = 0; years = 1 };
      amends = [];
      rows = [];
      members = [];
    }

pub refused_first : (file_of 0 (sample 2001) ≡ refusal out_of_range 0) × (file_of 0 (sample 2000) ≡ refusal wrong_weight 0)
unfolding head_rules row_rules rows_refusal each_refusal unit_refusal amendments_refusal amended_refusal members_refusal case_refusal file_of
refused_first = (refl, refl)
