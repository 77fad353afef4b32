-- Lines and the bytes that they make: rule 1.2, byte 10 closes each.
use mathlib.Core.Path.{◌≡◌, refl, sym, ap, ◌∙◌}
use mathlib.Core.Bool.{Bool, true, false}
use mathlib.Core.List.{List, [], ◌∷◌, ◌++◌, append_assoc, append-nil}
use Prim.Native.Nat.{ℕ}
use lib.Dec.{eqb}
use borrow.Author.Tests.{eqb-true}
use Rattle.fields.specs.Split.{has_of, upto_of, past_of}
use Rattle.fields.proofs.SplitLaws.{lacks, after, here}
use Rattle.walk.specs.Walk.{longer, lines_of, rest_of}
use Rattle.walk.proofs.LineLaws.{split, found, later}
use Rattle.written.specs.Written.{closed_lines}

-- ---- of some lines
-- none of them has a byte 10
abbrev pub AllLack : List (List ℕ) → Type 0
AllLack [] = Unit {0}
AllLack (line ∷ lines) = (lacks 10 line ≡ true) × AllLack lines

pub lack_both : (a b : List (List ℕ)) → AllLack a → AllLack b → AllLack (a ++ b)
lack_both [] b h k = k
lack_both (line ∷ a) b h k = (h.0, lack_both a b h.1 k)

-- some lines and then others
pub closed_both : (a b : List (List ℕ)) → closed_lines (a ++ b) ≡ closed_lines a ++ closed_lines b
unfolding closed_lines
closed_both [] b = refl
closed_both (line ∷ a) b = rw (closed_both a b) (sym (append_assoc line (10 ∷ closed_lines a) (closed_lines b)))

-- they are the lines of their bytes, and nothing is left
pub closed_lines_lem : (lines : List (List ℕ)) → AllLack lines → (lines_of (closed_lines lines) ≡ lines) × (rest_of (closed_lines lines) ≡ [])
unfolding closed_lines lines_of rest_of
closed_lines_lem [] h = (refl, refl)
closed_lines_lem (line ∷ lines) h =
    let t = closed_lines lines in
    let f = after 10 line (10 ∷ t) h.0 in
    let g = here 10 t in
    let upto : upto_of 10 (line ++ 10 ∷ t) ≡ line = f.upto ∙ rw g.upto (append-nil line) in
    let past : past_of 10 (line ++ 10 ∷ t) ≡ t = f.past ∙ g.past in
    let s = split (line ++ 10 ∷ t) true (f.has ∙ g.has) in
    let on = closed_lines_lem lines h.1 in
    (s.lines ∙ rw (upto, past, on.0), s.rest ∙ rw past on.1)

-- ---- of some bytes
-- they are their lines, closed, and what is left
pub lines_closed : (s : List ℕ) → closed_lines (lines_of s) ++ rest_of s ≡ s
unfolding closed_lines lines_of rest_of
lines_closed [] = refl
lines_closed (b ∷ s) = pick (eqb b 10) refl (has_of 10 s) refl (lines_closed s)
  where
    -- a byte in front of the first line
    front : (lines : List (List ℕ)) (line rest : List ℕ) → closed_lines (longer b (line ∷ lines)) ++ rest ≡ b ∷ (closed_lines (line ∷ lines) ++ rest)
    front lines line rest = refl

    pick : (t : Bool) → eqb b 10 ≡ t → (h : Bool) → has_of 10 s ≡ h → closed_lines (lines_of s) ++ rest_of s ≡ s → closed_lines (lines_of (b ∷ s)) ++ rest_of (b ∷ s) ≡ b ∷ s
    pick true is h has on = rw (is, (found b s is).0) (rw (eqb-true b 10 is) (ap (λ (u : List ℕ). 10 ∷ u) on))
    pick false is true has on =
        let q = split s true has in
        let l = later b s is in
        rw (is, l.0, has, q.lines) (ap (λ (u : List ℕ). b ∷ u) (rw q.lines at on))
    pick false is false has on =
        let q = split s false has in
        let l = later b s is in
        rw (is, l.0, has, q.lines)
