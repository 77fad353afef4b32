-- The laws of the rows in order.
use mathlib.Core.Path.{◌≡◌, sym, ◌∙◌}
use mathlib.Core.List.{List, [], ◌∷◌}
use Prim.Native.Nat.{ℕ, suc, ◌+◌, ◌-◌, ◌≤◌}
use native.Mathlib.Omega.{arith}
use borrow.Author.Tests.{lt-ltb}
use Rattle.rates.specs.Table.{weight}
use Rattle.row_rules.specs.declared.Row.{Row}
use Rattle.rules.specs.Rules.{first_among}
use Rattle.row_rules.specs.Table.{row_rules, row_of, weight_before, rows_refusal}
use Rattle.rules.proofs.RuleLaws.{first_refuses, first_passes, first_alone}

-- ---- the rows from age k on
module _ (rows : List (List ℕ)) (k : ℕ) (there : k ≤ 120) where
  abbrev here : ℕ
  here = first_among (row_rules k (weight_before rows k) (row_of rows k))

  abbrev later : ℕ
  later = rows_refusal rows (k + 1) (121 - (k + 1))

  -- what the code judges by is what the definition does
  pub judged : {w : ℕ} {row : Row} → w ≡ weight_before rows k → row ≡ row_of rows k → first_among (row_rules k w row) ≡ here
  judged e f = λ i. first_among (row_rules k (e i) (f i))

  unfolds : rows_refusal rows k (121 - k) ≡ first_among (here ∷ later ∷ [])
  unfolding rows_refusal
  unfolds =
      let more : 121 - k ≡ suc (121 - (k + 1)) = omega arith in
      let next : suc k ≡ k + 1 = omega arith in
      rw (more, next)

  pub rows_refused : {n : ℕ} → n ≡ here → (n ≡ 0 → ⊥) → n ≡ rows_refusal rows k (121 - k)
  rows_refused e h = e ∙ sym (unfolds ∙ first_refuses here (later ∷ []) (λ z. h (e ∙ z)))

  pub rows_passed : here ≡ 0 → rows_refusal rows k (121 - k) ≡ later
  rows_passed e = unfolds ∙ first_passes here (later ∷ []) e ∙ first_alone later

  pub weight_passed : 15 ≤ k → weight rows k ≡ weight_before rows (k + 1)
  weight_passed h = let same : k + 1 - 1 ≡ k = omega arith in simp (lt-ltb 15 (k + 1) (omega arith), same)

pub rows_done : (rows : List (List ℕ)) (k : ℕ) {n : ℕ} → n ≡ 0 → rows_refusal rows k n ≡ 0
unfolding rows_refusal
rows_done rows k e = rw e
