-- What the rules say of the printed lines, beside the contracts. Proved in proofs/Statements.antt.
use Rattle.std.specs.Prelude.{◌≡◌, true, false, List, [], ◌∷◌, ◌++◌, ℕ, ◌+◌, ◌≤◌, ◌<◌, length, get_or, take, nat_abs}
use Rattle.fractions.specs.Ratio.{◌over◌, whole, ◌⊕◌, ◌⊘◌}
use Rattle.fractions.specs.Fraction.{Fraction, integer, ◌⊙◌, Apart}
use Rattle.factors.specs.Factors.{S, C*}
use Rattle.factors.specs.Accuracy.{Within}
use Rattle.plan.specs.declared.Plan.{Plan}
use Rattle.plan.specs.declared.Amendment.{Amendment}
use Rattle.plan.specs.declared.Member.{Member}
use Rattle.plan.specs.declared.Method.{Method}
use Rattle.amendments.specs.Force.{in_force, additions}
use Rattle.amendments.specs.Judging.{amendments_refusal}
use Rattle.rule_order.specs.Acceptance.{plan_refusal}
use Rattle.costs.specs.declared.Figures.{Figures}
use Rattle.costs.specs.Costs.{PV*, N*, L*}
use Rattle.costs.specs.Demand3.{FormsAgree, V_limit, N_limit, L_limit, WithinLimits}
use Rattle.costs.specs.Valuation.{method_of, setting_of, figures, valuation, Limited}
use Rattle.fields.specs.Text.{bytes}
use Rattle.fields.specs.Split.{upto_of, starts_of}
use Rattle.rules.specs.Outcome.{values, and_then}
use Rattle.walk.specs.Lines.{begins, listed, end, tail_of}
use Rattle.walk.specs.Step.{headed, amending}
use Rattle.walk.specs.Walk.{Case, valued_plan, walk_from}
use Rattle.walk.specs.Kept.{nobody}
use Rattle.casefile.specs.Answers.{accepting_of, accepted, accepting}
use Rattle.casefile.specs.Stored.{amendments_after, rows_after, members_after}
use Rattle.judging.specs.Refusing.{plain_case, case_refusal}
use Rattle.written.specs.Written.{written}
use Rattle.written.specs.Statements.{FullTable}
use Rattle.printed_lines.specs.Lines.{signed_line}
use Rattle.totals.specs.Totals.{total, total*, totals, unfunded, supplemental}
use Rattle.report.specs.Lines.{figures_line, total_line, printed}
use Rattle.fitting.specs.Fitting.{fitting}
use Rattle.valuation.specs.Answers.{valued_of}
use Rattle.writer.specs.Files.{file_of}
use Rattle.statements.specs.LinesOf.{lines_past, line_at, first_member}

-- ---- an accepted file whose lines fit the buffer
-- what holds of a member m and its printed line: demands 2 and 3
pub record MemberPrinted (c : Case) (m : Member) (line : List ℕ) : Type 0 where
  -- rule 13.2: the line shows its id and its figures, under the plan as it is valued (rule 2.13)
  pub shown : line ++ (10 ∷ []) ≡ figures_line m.id (figures (valued_plan c) c.rows m)
  -- rule 9.11, the same figures as plain values: what value_member answers
  pub alike : valuation c.plan c.amends c.rows m ≡ values (figures (valued_plan c) c.rows m)
  -- rule 10.9: N and L lie within 15 cents of their exact fractions, N of CP within 15 × W(x) / W(y)
  pub limited : Limited (valued_plan c) c.rows m (values (figures (valued_plan c) c.rows m))
  -- the limits by the benefit, which are sharper, and V's
  pub close : WithinLimits (setting_of (valued_plan c) c.rows m) (method_of c.plan.method) m.age
  -- rule 10.8: the two forms of the liability are equal fractions, at each age of the member and by each method
  pub forms : (method : Method) (k : ℕ) → m.entry ≤ k → k ≤ c.plan.retire → FormsAgree (setting_of (valued_plan c) c.rows m) method k

-- rule 13.2, of every member, in its place: the members' lines stand first
abbrev pub EveryMember : Type 0
EveryMember =
    (s out : List ℕ) (room : ℕ) (c : Case) → accepting_of s ≡ values c → valued_of room s ≡ values out
    → (j : ℕ) → j < length c.members → MemberPrinted c (get_or c.members j nobody) (line_at (1 + j) out)

-- rules 4.1 and 4.6, the lines after the table: the members of an accepted file s are its lines that begin with member=, no more and
-- no fewer
pub record MembersStand (c : Case) (s : List ℕ) : Type 0 where
  -- a line that begins with member= is a member's: none is lost
  pub all : (j : ℕ) → starts_of (bytes "member=") (line_at (first_member (length c.amends) + j) s) ≡ true → j < length c.members
  -- member j stands j lines after the first: none is invented
  pub each : (j : ℕ) → j < length c.members → tail_of false (line_at (first_member (length c.amends) + j) s) ≡ listed (get_or c.members j nobody)
  -- and the line after theirs holds their count
  pub counted : tail_of false (line_at (first_member (length c.amends) + length c.members) s) ≡ end (length c.members)

abbrev pub MembersAreLines : Type 0
MembersAreLines = (s : List ℕ) (c : Case) → accepting_of s ≡ values c → MembersStand c s

-- rules 13.1 and 13.2, the plan's three lines, with the true count: all that stands after the members' lines, to the last byte
abbrev pub PlanLines : Type 0
PlanLines =
    (s out : List ℕ) (room : ℕ) (c : Case) → accepting_of s ≡ values c → valued_of room s ≡ values out
    → lines_past (length c.members) out
    ≡ total_line (length c.members) (totals (valued_plan c) c.rows c.members)
    ++ signed_line (bytes "unfunded=") (unfunded (valued_plan c) c.rows c.members)
    ++ signed_line (bytes "supplemental=") (supplemental (valued_plan c) c.rows c.members)

-- ---- plain values and their written file
-- rule 13.8, valued alike: what is printed of the written file are the lines of these values, where they fit; and each member has the figures that it has
-- as plain values
pub record ValuedAlike (room : ℕ) (c : Case) : Type 0 where
  pub file : valued_of room (written c) ≡ fitting room (printed (valued_plan c) c.rows c.members)
  pub member : (j : ℕ) → j < length c.members → valuation c.plan c.amends c.rows (get_or c.members j nobody) ≡ values (figures (valued_plan c) c.rows (get_or c.members j nobody))

-- of all values that rule 5.7 doesn't refuse
abbrev pub AllValuedAlike : Type 0
AllValuedAlike = (room : ℕ) (c : Case) → FullTable c.rows → case_refusal c ≡ 0 → ValuedAlike room c

-- and for a program: what accept_case hands on of a file, a plan and the fronts of its arrays, is written by write_case as that very file
abbrev pub HandedOnIsWritten : Type 0
HandedOnIsWritten =
    (room : ℕ) (s : List ℕ) (p : Plan) (k n : ℕ) (amendments old_amendments rows old_rows members old_members : List (List ℕ))
    → accepted p k n ≡ accepting (accepting_of s) → amendments ≡ amendments_after (accepting_of s) old_amendments → rows ≡ rows_after (accepting_of s) old_rows → members ≡ members_after (accepting_of s) old_members
    → file_of room (plain_case p (take k amendments) rows (take n members)) ≡ fitting room s

-- ---- independence
-- two files agree in all lines before the members, of which `amends` are amendments', and the line of member j in one is that of member j' in the other
pub record Agreeing (amends : ℕ) (s s' : List ℕ) (j j' : ℕ) : Type 0 where
  pub before : (n : ℕ) → 1 ≤ n → n < first_member amends → line_at n s ≡ line_at n s'
  pub member : starts_of (bytes "member=") (line_at (first_member amends + j) s) ≡ true
  pub same : line_at (first_member amends + j) s ≡ line_at (first_member amends + j') s'

-- rule 11.5: whatever the other members are, the same line is printed for the same member.
-- Where `valued_of` has values, the file is accepted and the lines fit; the members' lines stand first among them
abbrev pub Independence : Type 0
Independence =
    (s s' out out' : List ℕ) (room room' j j' : ℕ) (c : Case) → accepting_of s ≡ values c → valued_of room s ≡ values out → valued_of room' s' ≡ values out'
    → Agreeing (length c.amends) s s' j j' → line_at (1 + j) out ≡ line_at (1 + j') out'

-- ---- amendments that add nothing (rule 2.13); of a refusal after them see NoAdditionsMove in walk/specs/Answers.antt
-- in a file, from the state after the list on: after the same terms and before the same bytes, whose first line is no amendment's, such a list changes
-- no byte that is printed
abbrev pub NoAdditionsPrint : Type 0
NoAdditionsPrint =
    (room k : ℕ) (terms : List ℕ) (l : List Amendment) (s : List ℕ) (c : Case) → additions (in_force l) ≡ 0 → begins (upto_of 10 s) ≡ false
    → walk_from true k (amending (headed terms)) s ≡ values c
    → and_then (walk_from true (k + length l) (amending (record { terms = terms; amends = l; rows = [] })) s) (λ d. fitting room (printed (valued_plan d) d.rows d.members))
    ≡ fitting room (printed (valued_plan c) c.rows c.members)

-- and of plain values, where the list is accepted: the same figures, or the same refusal
abbrev pub NoAdditionsAlone : Type 0
NoAdditionsAlone =
    (p : Plan) (l : List Amendment) (rows : List (List ℕ)) (m : Member) → amendments_refusal p l ≡ 0 → additions (in_force l) ≡ 0
    → valuation p l rows m ≡ valuation p [] rows m

-- ---- totals
-- rule 11.1, totals are sums: nothing of no member, a figure of one, and of two lists what the two come to
pub record Sums (p : Plan) (rows : List (List ℕ)) (figure : Figures → ℕ) : Type 0 where
  pub none : total p rows figure [] ≡ 0
  pub one : (m : Member) → total p rows figure (m ∷ []) ≡ figure (figures p rows m)
  pub both : (l l' : List Member) → total p rows figure (l ++ l') ≡ total p rows figure l + total p rows figure l'

abbrev pub TotalsAreSums : Type 0
TotalsAreSums = (p : Plan) (rows : List (List ℕ)) (figure : Figures → ℕ) → Sums p rows figure

-- each total lies within the sum of its members' limits of the sum of the exact fractions
pub record TotalsClose (p : Plan) (rows : List (List ℕ)) (members : List Member) : Type 0 where
  pub value :
      Within (total* (λ m. V_limit (setting_of p rows m)) members) (totals p rows members).value
      (total* (λ m. PV* (setting_of p rows m) m.age) members)
  pub cost :
      Within (total* (λ m. N_limit (setting_of p rows m) (method_of p.method) m.age) members) (totals p rows members).cost
      (total* (λ m. N* (setting_of p rows m) (method_of p.method) m.age) members)
  pub liability :
      Within (total* (λ m. L_limit (setting_of p rows m) (method_of p.method)) members) (totals p rows members).liability
      (total* (λ m. L* (setting_of p rows m) (method_of p.method) m.age) members)

abbrev pub TotalsAccuracy : Type 0
TotalsAccuracy = (s : List ℕ) (c : Case) → accepting_of s ≡ values c → TotalsClose (valued_plan c) c.rows c.members

-- ---- the supplemental cost
-- rule 11.4, the exact supplemental: from the printed unfunded, with the exact C
unfoldable pub supplemental* : Plan → List (List ℕ) → List Member → Fraction
supplemental* p rows members = integer (unfunded p rows members) ⊙ (whole S ⊘ C* p.interest p.years)

-- rule 11.4, how far off the printed one may be: half a cent, and a two-billionth of the unfunded without its sign
abbrev pub SupplementalAccuracy : Type 0
SupplementalAccuracy =
    (p : Plan) (rows : List (List ℕ)) (members : List Member) → plan_refusal p rows ≡ 0
    → Apart (1 over 2 ⊕ nat_abs (unfunded p rows members) over 2000000000) (integer (supplemental p rows members)) (supplemental* p rows members)

-- ---- the form of what is printed: proved in proofs/AmountSizes.antt
-- rule 13.4: every number and amount that is printed of an accepted case is one that is read back (number_texts/specs/Statements.antt): an amount is
-- 999999999999.99 at most, whatever its sign
abbrev pub Fits : ℕ → Type 0
Fits cents = cents < 100000000000000

pub record FiguresFit (f : Figures) : Type 0 where
  pub benefit : Fits f.benefit
  pub value : Fits f.value
  pub cost : Fits f.cost
  pub liability : Fits f.liability

pub record AmountsFit (p : Plan) (rows : List (List ℕ)) (members : List Member) : Type 0 where
  pub id : (j : ℕ) → j < length members → (get_or members j nobody).id < 1000000000000
  pub count : length members < 1000000000000
  pub member : (j : ℕ) → j < length members → FiguresFit (figures p rows (get_or members j nobody))
  pub value : Fits (totals p rows members).value
  pub cost : Fits (totals p rows members).cost
  pub liability : Fits (totals p rows members).liability
  pub unfunded_size : Fits (nat_abs (unfunded p rows members))
  pub supplemental_size : Fits (nat_abs (supplemental p rows members))

abbrev pub PrintedAmountsFit : Type 0
PrintedAmountsFit = (s : List ℕ) (c : Case) → accepting_of s ≡ values c → AmountsFit (valued_plan c) c.rows c.members
