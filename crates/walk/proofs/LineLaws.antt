-- The lines of some bytes, one at a time.
use Prim.Native.Nat.{ℕ, suc, ◌+◌}
use mathlib.Core.Path.{◌≡◌, refl, sym, ◌∙◌}
use mathlib.Core.List.{List, [], ◌∷◌}
use mathlib.Core.Bool.{Bool, true, false, cond}
use lib.ListN.{length}
use lib.Dec.{eqb, leb-suc-suc}
use native.Mathlib.Omega.{arith}
use native.Mathlib.Numerals.{add-one}
use native.Mathlib.Nat.{add-zero}
use borrow.Author.Tests.{lt-ltb}
use Rattle.fields.specs.Split.{has_of, upto_of, past_of}
use Rattle.fields.proofs.SplitLaws.{off}
use Rattle.fields.proofs.LineLaws.{upto_all}
use Rattle.rules.specs.Outcome.{Outcome, and_then}
use Rattle.walk.specs.Step.{State, step}
use Rattle.walk.specs.Walk.{Case, lines_of, rest_of, next_of, closed, folded, walk_from}
use Rattle.walk.proofs.OutcomeLaws.{then_then}

-- the first line and the lines after it; with no byte 10 no line, and all the bytes left
pub record Split (s : List ℕ) (b : Bool) : Type 0 where
  pub lines : lines_of s ≡ cond b (upto_of 10 s ∷ lines_of (past_of 10 s)) []
  pub rest : rest_of s ≡ cond b (rest_of (past_of 10 s)) s

-- a byte before the first line, which is byte 10 (an empty line) or makes it longer
pub found : (x : ℕ) (s : List ℕ) → eqb x 10 ≡ true → (has_of 10 (x ∷ s) ≡ true) × (upto_of 10 (x ∷ s) ≡ []) × (past_of 10 (x ∷ s) ≡ s)
unfolding has_of upto_of past_of
found x s e = (simp e (lt-ltb 0 (suc (length s)) (omega arith)), rw e, rw e)

pub later : (x : ℕ) (s : List ℕ) → eqb x 10 ≡ false → (has_of 10 (x ∷ s) ≡ has_of 10 s) × (upto_of 10 (x ∷ s) ≡ x ∷ upto_of 10 s) × (past_of 10 (x ∷ s) ≡ past_of 10 s)
unfolding has_of upto_of past_of
later x s e = (simp (e, leb-suc-suc), rw e, simp (e, add-one))

pub split : (s : List ℕ) (b : Bool) → has_of 10 s ≡ b → Split s b
unfolding lines_of rest_of has_of
split [] true e = off (sym e)
split [] false e = record { lines = refl; rest = refl }
split (x ∷ s) b e = go (eqb x 10) refl b e (λ c h. split s c h)
  where
    go : (t : Bool) → eqb x 10 ≡ t → (b : Bool) → has_of 10 (x ∷ s) ≡ b → ((c : Bool) → has_of 10 s ≡ c → Split s c) → Split (x ∷ s) b
    go true is true h on = let q = found x s is in record { lines = simp (is, q.1, q.2); rest = simp (h, q.2) }
    go true is false h on = off (sym (found x s is).0 ∙ h)
    go false is true h on =
        let q = later x s is in
        let f = on true (sym q.0 ∙ h) in
        record { lines = simp (is, q.1, q.2, f.lines); rest = simp (h, q.2, f.rest) }
    go false is false h on =
        let q = later x s is in
        let f = on false (sym q.0 ∙ h) in
        record { lines = simp (is, f.lines); rest = simp h }

-- the line after the first, as far as it goes
ahead_of : (s : List ℕ) → next_of (rest_of s) (lines_of s) ≡ upto_of 10 s
ahead_of s = pick (has_of 10 s) refl
  where
    pick : (b : Bool) → has_of 10 s ≡ b → next_of (rest_of s) (lines_of s) ≡ upto_of 10 s
    pick true h = let f = split s true h in rw f.lines
    pick false h = let f = split s false h in rw (f.lines, f.rest) (sym (upto_all 10 s h))

-- ---- the walk from line k on: its next line
-- some lines and the bytes after them
abbrev pub along : (ranges : Bool) → (rest : List ℕ) → (k : ℕ) → State → (lines : List (List ℕ)) → Outcome Case
along ranges rest k state lines = and_then (folded ranges rest k state lines) (closed (k + length lines) rest)

pub along_cons : (ranges : Bool) (rest : List ℕ) (k : ℕ) (state : State) (line : List ℕ) (lines : List (List ℕ)) → along ranges rest k state (line ∷ lines) ≡ and_then (step ranges k state line (next_of rest lines)) (λ next. along ranges rest (k + 1) next lines)
unfolding folded
along_cons ranges rest k state line lines =
    let place : k + suc (length lines) ≡ k + 1 + length lines = omega arith in
    rw place (then_then (step ranges k state line (next_of rest lines)) _ _)

module _ (ranges : Bool) (k : ℕ) (state : State) (s : List ℕ) where
  pub from_line : has_of 10 s ≡ true → walk_from ranges k state s ≡ and_then (step ranges k state (upto_of 10 s) (upto_of 10 (past_of 10 s))) (λ next. walk_from ranges (k + 1) next (past_of 10 s))
  unfolding walk_from
  from_line h =
      let f = split s true h in
      rw (f.lines, f.rest, ← ahead_of (past_of 10 s))
      (along_cons ranges (rest_of (past_of 10 s)) k state (upto_of 10 s) (lines_of (past_of 10 s)))

  pub from_end : has_of 10 s ≡ false → walk_from ranges k state s ≡ closed k s state
  unfolding walk_from folded
  from_end h = let f = split s false h in rw (f.lines, f.rest, add-zero k)
