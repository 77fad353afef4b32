-- Plain values and what they are of, rule 5.6: the numbers of a member, of an amendment and of a plan, in the order in which the lines have them, and
-- back.
use Rattle.std.specs.Prelude.{List, [], ◌∷◌, ℕ, get_or}
use Rattle.plan.specs.declared.Plan.{Plan}
use Rattle.plan.specs.declared.Member.{Member}
use Rattle.plan.specs.declared.Amendment.{Amendment}

-- rule 4.1: id, person, entry age, age and salary
abbrev pub member_from : List ℕ → Member
member_from vs =
    record { id = get_or vs 0 0; person = get_or vs 1 0; entry = get_or vs 2 0; age = get_or vs 3 0; salary = get_or vs 4 0 }

-- rule 4.1: the numbers of a member, as a member line has them
abbrev pub numbers_of : Member → List ℕ
numbers_of m = m.id ∷ m.person ∷ m.entry ∷ m.age ∷ m.salary ∷ []

-- rules 2.11 and 5.6, the four numbers of an amendment: its own, the one that it rests on, its addition, and 1 where it is struck
abbrev pub amendment_from : List ℕ → Amendment
amendment_from vs = record { number = get_or vs 0 0; rests = get_or vs 1 0; add = get_or vs 2 0; struck = get_or vs 3 0 }

-- and the numbers back
abbrev pub fields_of : Amendment → List ℕ
fields_of a = a.number ∷ a.rests ∷ a.add ∷ a.struck ∷ []

-- the terms of a plan, in the order of the lines
abbrev pub terms_of : Plan → List ℕ
terms_of p =
    p.interest ∷ p.retire ∷ p.pay ∷ p.formula ∷ p.unit ∷ p.average ∷ p.method ∷ p.assets ∷ p.years ∷ []

-- and the plan of some terms
abbrev pub plan_from : List ℕ → Plan
plan_from t =
    record {
      interest = get_or t 0 0;
      retire = get_or t 1 0;
      pay = get_or t 2 0;
      formula = get_or t 3 0;
      unit = get_or t 4 0;
      average = get_or t 5 0;
      method = get_or t 6 0;
      assets = get_or t 7 0;
      years = get_or t 8 0;
    }
