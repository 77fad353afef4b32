-- The lines are written where they fit.
use mathlib.Core.Path.{◌≡◌, refl, sym, ◌∙◌, ap}
use mathlib.Core.Bool.{Bool, true, false}
use mathlib.Core.List.{List, ◌++◌}
use Prim.Native.Nat.{ℕ, ◌+◌, ◌*◌, ◌≤◌, ◌<◌}
use native.Mathlib.Omega.{arith}
use borrow.Author.Tests.{leb-true, leb-false, le-leb, lt-leb}
use lib.Dec.{leb}
use lib.ListN.{length, length-append}
use lib.Seq.{sets-eq}
use Rattle.printing.specs.Puts.{PutsAt}
use Rattle.rules.specs.Outcome.{values, refusal}
use Rattle.fitting.specs.Fitting.{fitting, answer, buffer}

pub too_long : (old lines : List ℕ) → length old < length lines → (refusal 30 0 ≡ answer (fitting (length old) lines)) × (old ≡ buffer (fitting (length old) lines) old)
unfolding fitting
too_long old lines long = rw (lt-leb (length lines) (length old) long) (refl, refl)

pub written : {old out lines : List ℕ} {end : ℕ} → length lines ≤ length old → PutsAt old 0 lines out end → (values end ≡ answer (fitting (length old) lines)) × (out ≡ buffer (fitting (length old) lines) old)
unfolding fitting
written {old} {lines = lines} fits w =
    let none : 0 + length lines ≡ length lines = omega arith in
    let at_start = rw none at (sets-eq lines old 0 (omega arith)) in
    rw (le-leb (length lines) (length old) fits) (ap values (w.ends ∙ none), w.holds ∙ at_start)

-- the same from the answer to whether they fit
pub too_long_by : (old lines : List ℕ) {t : Bool} → t ≡ leb (length lines) (length old) → t ≡ false → (refusal 30 0 ≡ answer (fitting (length old) lines)) × (old ≡ buffer (fitting (length old) lines) old)
too_long_by old lines is not = too_long old lines (leb-false (length lines) (length old) (sym is ∙ not))

pub written_by : {old out lines : List ℕ} {end : ℕ} {t : Bool} → t ≡ leb (length lines) (length old) → t ≡ true → PutsAt old 0 lines out end → (values end ≡ answer (fitting (length old) lines)) × (out ≡ buffer (fitting (length old) lines) old)
written_by {old} {lines = lines} is fits w = written (leb-true (length lines) (length old) (sym is ∙ fits)) w

-- lines that are no longer than the longest surely fit
pub surely : (lines plan : List ℕ) (n room : ℕ) → length lines ≤ 64 * n → length plan ≤ 145 → 64 * n + 145 ≤ room → true ≡ leb (length (lines ++ plan)) room
surely lines plan n room short few fits = sym (le-leb (length (lines ++ plan)) room (simp length-append (omega arith)))

-- and others are measured in a buffer `none`
pub measured : {none lines after : List ℕ} {needed : ℕ} (room : ℕ) → PutsAt none 0 lines after needed → leb needed room ≡ leb (length lines) room
measured {lines = lines} {needed} room p = let is : needed ≡ length lines = omega (arith, p.ends) in ap (λ (n : ℕ). leb n room) is
