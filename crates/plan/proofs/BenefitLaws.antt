-- The benefit as whole numbers: the exact pay of several ages is the salary times their summed weights, over the weight of the member's own age.
use mathlib.Core.Path.{◌≡◌, refl, sym, ap, ◌∙◌}
use mathlib.Core.Logic.{⊎_elim}
use mathlib.Core.List.{List}
use Prim.Native.Nat.{ℕ, zero, suc, ◌+◌, ◌-◌, ◌*◌, ◌≤◌, ◌<◌, min}
use native.Mathlib.Nat.{mul-one, mul-pos, eq-or-lt_of_le}
use native.Mathlib.Omega.{arith}
use borrow.Author.Tests.{le-leb, lt-leb, eq-eqb, ne_eqb}
use Rattle.rounding.specs.Nearest.{nearest}
use Rattle.rounding.proofs.NearestLaws.{nearest_exact, nearest_cross}
use Rattle.fractions.specs.Ratio.{Ratio, ◌over◌, whole, ◌⊕◌, ◌⊗◌, ◌⊘◌, inverse, ◌≈◌}
use Rattle.fractions.proofs.RatioLaws.{over_proper, whole_proper, whole_positive, ⊗-proper, inverse_proper}
use Rattle.fractions.proofs.EqualLaws.{≈-refl, ◌∙≈◌, ⊕-cong, ⊗-cong}
use Rattle.rates.specs.Table.{weight}
use Rattle.plan.specs.declared.Plan.{Plan}
use Rattle.plan.specs.declared.Member.{Member}
use Rattle.plan.specs.declared.Formula.{Formula}
use Rattle.plan.specs.declared.Formula.TheVariants.{Flat, Career, Final}
use Rattle.plan.specs.Weights.{summed}
use Rattle.plan.specs.Benefit.{formula_of, pay, pays, exact_benefit, B}

-- ---- which code a formula has
pub not_flat : (code : ℕ) {f : Formula} → formula_of code ≡ f → (Flat ≡ f → ⊥) → code ≡ 1 → ⊥
unfolding formula_of
not_flat code e other one = other (sym (simp (eq-eqb code 1 one)) ∙ e)

not_career : (code : ℕ) → formula_of code ≡ Final → code ≡ 2 → ⊥
unfolding formula_of
not_career code e two =
    let z : Career ≡ Final = sym (simp (ne_eqb code 1 (λ one. omega arith), eq-eqb code 2 two)) ∙ e in
    let never : ◌≡◌ {A = ℕ} 0 1 = cc in
    omega arith

pub flat_career : Flat ≡ Career → ⊥
flat_career e = let never : ◌≡◌ {A = ℕ} 0 1 = cc in omega arith

pub flat_final : Flat ≡ Final → ⊥
flat_final e = let never : ◌≡◌ {A = ℕ} 0 1 = cc in omega arith

pub final_code : (code : ℕ) → 1 ≤ code → code ≤ 3 → formula_of code ≡ Final → code ≡ 3
final_code code low high e =
    ⊎_elim
    (λ (q : 1 ≡ code). absurd (not_flat code e flat_final (sym q)))
    (λ (l : 1 < code). ⊎_elim (λ (q : 2 ≡ code). absurd (not_career code e (sym q))) (λ (l : 2 < code). omega arith) (eq-or-lt_of_le l))
    (eq-or-lt_of_le low)

-- equal fractions are rounded alike
alike : {a b : Ratio} → a ≈ b → nearest a.upper a.lower ≡ nearest b.upper b.lower
alike {a} {b} e = nearest_cross a.upper a.lower b.upper b.lower e.left.above e.right.above e.cross

-- nothing, the sums and the products of such fractions
nothing : (x w : ℕ) → 0 < w → whole 0 ≈ (x * 0) over w
unfolding whole ◌over◌
nothing x w h = record { left = record { above = omega arith }; right = record { above = h }; cross = omega arith }

joined : (s x y w : ℕ) → 0 < w → (s * x) over w ⊕ (s * y) over w ≈ (s * (x + y)) over w
unfolding ◌over◌ ◌⊕◌
joined s x y w h = record { left = record { above = mul-pos h h }; right = record { above = h }; cross = omega arith }

times : (u c x w : ℕ) → 0 < c → 0 < w → u over c ⊗ x over w ≈ (u * x) over (c * w)
unfolding ◌over◌ ◌⊗◌
times u c x w hc hw =
    record { left = record { above = mul-pos hc hw }; right = record { above = mul-pos hc hw }; cross = refl }

mean : (u y x n w : ℕ) → 0 < n → 0 < w → u over 10000 ⊗ whole y ⊗ (x over w ⊘ whole n) ≈ (u * y * x) over (10000 * (n * w))
unfolding ◌over◌ whole ◌⊗◌ inverse
mean u y x n w hn hw =
    let above : 0 < n * w = mul-pos hn hw in
    record { left = record { above = omega arith }; right = record { above = omega arith }; cross = omega arith }

one_whole : (n : ℕ) → nearest n 1 ≡ n
one_whole n = ap (λ (x : ℕ). nearest x 1) (sym (mul-one n)) ∙ nearest_exact n 1 (omega arith)

module _ (p : Plan) (rows : List (List ℕ)) (m : Member) (weighty : 0 < weight rows m.age) where
  pay_is : (k : ℕ) → pay p rows m k ≈ (m.salary * weight rows k) over weight rows m.age
  unfolding pay
  pay_is k = ≈-refl (over_proper (m.salary * weight rows k) weighty)

  abbrev paid : ℕ → ℕ → Ratio
  paid k n = (m.salary * summed (weight rows) k n) over weight rows m.age

  pays_is : (k n : ℕ) → pays p rows m k n ≈ paid k n
  unfolding pays summed
  pays_is k zero = nothing m.salary (weight rows m.age) weighty
  pays_is k (suc n) =
      ⊕-cong (pay_is k) (pays_is (suc k) n)
      ∙≈ joined m.salary (weight rows k) (summed (weight rows) (suc k) n) (weight rows m.age) weighty

  career_is : (k : ℕ) → exact_benefit p rows m Career k ≈ (p.unit * (m.salary * summed (weight rows) m.entry (k - m.entry))) over (10000 * weight rows m.age)
  unfolding exact_benefit
  career_is k =
      ⊗-cong (≈-refl (over_proper p.unit (omega arith))) (pays_is m.entry (k - m.entry))
      ∙≈ times p.unit 10000 (m.salary * summed (weight rows) m.entry (k - m.entry)) (weight rows m.age) (omega arith) weighty

  final_is : (k : ℕ) → 0 < min p.average (k - m.entry) → let n = min p.average (k - m.entry) in
      exact_benefit p rows m Final k ≈ (p.unit * (k - m.entry) * (m.salary * summed (weight rows) (k - n) n)) over (10000 * (n * weight rows m.age))
  unfolding exact_benefit
  final_is k some =
      let n = min p.average (k - m.entry) in
      ⊗-cong (≈-refl (⊗-proper (over_proper p.unit {d = 10000} (omega arith)) (whole_proper (k - m.entry))))
      (⊗-cong (pays_is (k - n) n) (≈-refl (inverse_proper (whole_positive some))))
      ∙≈ mean p.unit (k - m.entry) (m.salary * summed (weight rows) (k - n) n) n (weight rows m.age) some weighty

  -- ---- B(k) by formula
  pub none_at_entry : (k : ℕ) → k ≤ m.entry → B p rows m k ≡ 0
  unfolding B
  none_at_entry k h = simp (le-leb k m.entry h)

  later : (k : ℕ) (f : Formula) → m.entry < k → formula_of p.formula ≡ f → B p rows m k ≡ nearest (exact_benefit p rows m f k).upper (exact_benefit p rows m f k).lower
  unfolding B
  later k f h e = simp (lt-leb k m.entry h, e)

  pub flat_benefit : (k : ℕ) → m.entry < k → formula_of p.formula ≡ Flat → B p rows m k ≡ p.unit * (k - m.entry)
  unfolding exact_benefit whole ◌over◌
  flat_benefit k h e = later k Flat h e ∙ one_whole (p.unit * (k - m.entry))

  pub career_benefit : (k : ℕ) → m.entry < k → formula_of p.formula ≡ Career
      → B p rows m k ≡ nearest (p.unit * (m.salary * summed (weight rows) m.entry (k - m.entry))) (10000 * weight rows m.age)
  unfolding ◌over◌
  career_benefit k h e = later k Career h e ∙ alike (career_is k)

  pub final_benefit : (k : ℕ) → m.entry < k → formula_of p.formula ≡ Final → let n = min p.average (k - m.entry) in 0 < n
      → B p rows m k ≡ nearest (p.unit * (k - m.entry) * (m.salary * summed (weight rows) (k - n) n)) (10000 * (n * weight rows m.age))
  unfolding ◌over◌
  final_benefit k h e some = later k Final h e ∙ alike (final_is k some)
