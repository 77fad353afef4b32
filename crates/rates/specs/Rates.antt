-- The rates of a row, each for one cause alone (rule 3.2), and what they make of a million at its age: staying, and leaving.
use Rattle.std.specs.Prelude.{◌≡◌, refl, true, cond, List, [], ◌∷◌, ℕ, ◌+◌, ◌-◌, ◌*◌, ◌≤◌, ◌<◌, get_or, ltb}
use Rattle.rounding.specs.Nearest.{nearest}
use Rattle.rates.specs.ByHand.{Figure, ◌is◌, all_are}

-- rule 3.1, the rates of a row, in millionths
abbrev pub death : List ℕ → ℕ
death row = get_or row 0 0

abbrev pub withdrawal : List ℕ → ℕ
withdrawal row = get_or row 1 0

abbrev pub disability : List ℕ → ℕ
disability row = get_or row 2 0

-- rule 8.2, a, below r: those whom neither death nor disability takes; the first rounding
unfoldable pub able : List ℕ → ℕ
able row = nearest ((1000000 - death row) * (1000000 - disability row)) 1000000

-- rule 8.2, below r: those of a who don't withdraw, and so stay in service; the second rounding
unfoldable pub serves : List ℕ → ℕ
serves row = nearest (able row * (1000000 - withdrawal row)) 1000000

-- rule 8.10, leaving, below r: a less staying
unfoldable pub leaves : List ℕ → ℕ
leaves row = able row - serves row

-- rule 8.2, staying at age k, by its row: below r those whom none of the three causes takes, from r on a million less death
unfoldable pub stays : List ℕ → ℕ → ℕ → ℕ
stays row r k = cond (ltb k r) (serves row) (1000000 - death row)

-- rules 8.2 and 8.10, whatever the row holds: below r leaving and staying are a together; leaving is a at most, and a and staying are
-- each a million at most
pub record LeavingAndStaying : Type 0 where
  pub together : (row : List ℕ) (r k : ℕ) → k < r → leaves row + stays row r k ≡ able row
  pub leaving_most : (row : List ℕ) → leaves row ≤ able row
  pub able_most : (row : List ℕ) → able row ≤ 1000000
  pub staying_most : (row : List ℕ) (r k : ℕ) → stays row r k ≤ 1000000

-- rule 14.19, a row whose rates sum to 1000001, and rule 14.20, a row with two halves
abbrev pub crowded : List ℕ
crowded = 400000 ∷ 300000 ∷ 300001 ∷ 1100 ∷ []

abbrev halved : List ℕ
halved = 1000 ∷ 1000 ∷ 500 ∷ 1100 ∷ []

-- a, staying at 64 and at 65 where r is 65, and leaving, of both; and that the two of rule 14.20 lie at a half. They stand with the
-- definitions, so that a wrong one is refused here
unfoldable pub rates : List Figure
rates =
    (able crowded is 419999)
    ∷ (stays crowded 65 64 is 293999)
    ∷ (stays crowded 65 65 is 600000)
    ∷ (leaves crowded is 126000)
    ∷ (2 * ((1000000 - death halved) * (1000000 - disability halved)) is 1997001 * 1000000)
    ∷ (able halved is 998500)
    ∷ (2 * (able halved * (1000000 - withdrawal halved)) is 1995003 * 1000000)
    ∷ (stays halved 65 64 is 997502)
    ∷ (stays halved 65 65 is 999000)
    ∷ (leaves halved is 998)
    ∷ []

pub rates_are : all_are rates ≡ true
unfolding rates able serves leaves stays nearest
rates_are = refl
