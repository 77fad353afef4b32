-- The case file of a case, rule 13.6: the lines of RULES sections 1 to 4, made of the case's numbers by what prints numbers. Nothing here knows of reading.
use Rattle.std.specs.Prelude.{◌≡◌, refl, List, [], ◌∷◌, ◌++◌, map, ℕ, zero, suc, length, get_or, drop}
use Rattle.fields.specs.Text.{bytes}
use Rattle.rates.specs.Table.{first_age}
use Rattle.plan.specs.declared.Plan.{Plan}
use Rattle.plan.specs.declared.Amendment.{Amendment}
use Rattle.plan.specs.declared.Member.{Member}
use Rattle.printing.specs.Amounts.{digits, width, whole_number, amount}
use Rattle.walk.specs.Walk.{Case}

-- ---- values
-- rules 2.4, 2.7 and 5.4: the word of a code, which is its place among the words from 1 on. A code that has no word has no bytes
abbrev pub word_of : (words : List (List ℕ)) → (code : ℕ) → List ℕ
word_of words zero = []
word_of words (suc k) = get_or words k []

abbrev pub formula_words : List (List ℕ)
formula_words = bytes "flat" ∷ bytes "career" ∷ bytes "final" ∷ []

abbrev pub method_words : List (List ℕ)
method_words = bytes "AB" ∷ bytes "BD" ∷ bytes "BP" ∷ bytes "CD" ∷ bytes "CP" ∷ []

-- rule 1.6: values, with a comma between two
abbrev pub with_commas : List (List ℕ) → List ℕ
with_commas [] = []
with_commas (v ∷ []) = v
with_commas (v ∷ w ∷ more) = v ++ 44 ∷ with_commas (w ∷ more)

-- ---- lines, without the byte that ends them
-- rule 2.1: the terms
unfoldable pub term_lines : Plan → List (List ℕ)
term_lines p =
    (bytes "interest=" ++ whole_number p.interest)
    ∷ (bytes "retire=" ++ whole_number p.retire)
    ∷ (bytes "pay=" ++ whole_number p.pay)
    ∷ (bytes "formula=" ++ word_of formula_words p.formula)
    ∷ (bytes "unit=" ++ whole_number p.unit)
    ∷ (bytes "average=" ++ whole_number p.average)
    ∷ (bytes "method=" ++ word_of method_words p.method)
    ∷ (bytes "assets=" ++ amount p.assets)
    ∷ (bytes "years=" ++ whole_number p.years)
    ∷ []

-- rule 2.11: an amendment
unfoldable pub amendment_line : Amendment → List ℕ
amendment_line a =
    bytes "amend=" ++ with_commas (whole_number a.number ∷ whole_number a.rests ∷ whole_number a.add ∷ whole_number a.struck ∷ [])

-- rule 3.1: the row of an age, its rates of death, withdrawal and disability, and its weight
unfoldable pub row_line : (age : ℕ) → (row : List ℕ) → List ℕ
row_line age row =
    bytes "row=" ++ with_commas (whole_number age ∷ whole_number (get_or row 0 0) ∷ whole_number (get_or row 1 0) ∷ whole_number (get_or row 2 0) ∷ whole_number (get_or row 3 0) ∷ [])

-- the rows of the ages from one on
unfoldable pub row_lines : (age : ℕ) → (rows : List (List ℕ)) → List (List ℕ)
row_lines age [] = []
row_lines age (row ∷ rows) = row_line age row ∷ row_lines (suc age) rows

-- rule 4.1: a member
unfoldable pub member_line : Member → List ℕ
member_line m =
    bytes "member=" ++ with_commas (whole_number m.id ∷ whole_number m.person ∷ whole_number m.entry ∷ whole_number m.age ∷ amount m.salary ∷ [])

-- rule 4.6: the end, with the count of the members
unfoldable pub end_line : (count : ℕ) → List ℕ
end_line count = bytes "end=" ++ whole_number count

-- ---- the file
-- rule 1.7: the terms, the amendments, the rows, the members, the end
unfoldable pub case_lines : Case → List (List ℕ)
case_lines c =
    term_lines c.plan
    ++ map amendment_line c.amends
    ++ row_lines first_age c.rows
    ++ map member_line c.members
    ++ end_line (length c.members) ∷ []

-- rule 1.2: byte 10 closes each line, the last one too
unfoldable pub closed_lines : List (List ℕ) → List ℕ
closed_lines [] = []
closed_lines (line ∷ lines) = line ++ 10 ∷ closed_lines lines

unfoldable pub written : Case → List ℕ
written c = closed_lines (case_lines c)

-- ---- computed
abbrev sample_member : Member
sample_member = record { id = 1011; person = 28; entry = 22; age = 34; salary = 4387505 }

abbrev sample_amendment : Amendment
sample_amendment = record { number = 7; rests = 3; add = 10; struck = 0 }

abbrev sample_plan : Plan
sample_plan =
    record { interest = 525; retire = 67; pay = 12; formula = 3; unit = 160; average = 3; method = 5; assets = 7; years = 20 }

pub record Sampled : Type 0 where
  pub member : member_line sample_member ≡ bytes "member=1011,28,22,34,43875.05"
  pub amendment : amendment_line sample_amendment ≡ bytes "amend=7,3,10,0"
  pub rows :
      row_lines 99 ((1 ∷ 20 ∷ 300 ∷ 1000 ∷ []) ∷ (4 ∷ 0 ∷ 0 ∷ 1001 ∷ []) ∷ [])
      ≡ bytes "row=99,1,20,300,1000" ∷ bytes "row=100,4,0,0,1001" ∷ []
  pub plan :
      term_lines sample_plan
      ≡ bytes "interest=525"
      ∷ bytes "retire=67"
      ∷ bytes "pay=12"
      ∷ bytes "formula=final"
      ∷ bytes "unit=160"
      ∷ bytes "average=3"
      ∷ bytes "method=CP"
      ∷ bytes "assets=0.07"
      ∷ bytes "years=20"
      ∷ []
  -- two members and two amendments, in their order
  pub case :
      drop 9 (case_lines (record { plan = sample_plan; amends = sample_amendment ∷ sample_amendment ∷ []; rows = (1 ∷ 2 ∷ 3 ∷ 4 ∷ []) ∷ []; members = record { id = 5; person = 1; entry = 15; age = 16; salary = 0 } ∷ sample_member ∷ [] }))
      ≡ bytes "amend=7,3,10,0"
      ∷ bytes "amend=7,3,10,0"
      ∷ bytes "row=15,1,2,3,4"
      ∷ bytes "member=5,1,15,16,0.00"
      ∷ bytes "member=1011,28,22,34,43875.05"
      ∷ bytes "end=2"
      ∷ []
  -- rule 5.4: no word has code 0, or a code past the last
  pub no_word : (word_of formula_words 0 ≡ []) × (word_of formula_words 4 ≡ []) × (word_of method_words 6 ≡ [])
  pub closed : closed_lines (bytes "end=2" ∷ bytes "x" ∷ []) ≡ bytes "end=2" ++ (10 ∷ []) ++ bytes "x" ++ (10 ∷ [])

pub sampled : Sampled
unfolding digits width whole_number amount term_lines amendment_line row_line row_lines member_line end_line case_lines closed_lines
sampled = record { member = refl; amendment = refl; rows = refl; plan = refl; case = refl; no_word = (refl, refl, refl); closed = refl }
