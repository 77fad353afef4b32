-- Of the members before a line, its refusal rests on their count, the last id and the sum of the line's own person.
use Prim.Native.Nat.{ℕ, zero, suc}
use mathlib.Core.Path.{◌≡◌, refl}
use mathlib.Core.List.{List, [], ◌∷◌, ◌++◌}
use mathlib.Core.Bool.{Bool, true, false, cond}
use lib.ListN.{length}
use lib.Dec.{leb, eqb, eqb-suc-zero}
use native.Mathlib.Omega.{arith}
use Rattle.plan.specs.declared.Member.{Member}
use Rattle.rules.specs.Refusals.{wrong_count}
use Rattle.rules.specs.Outcome.{values, refusal, passing}
use Rattle.walk.specs.Settled.{settled}
use Rattle.walk.specs.Lines.{Tail, listed, end, surplus, neither, most_members, tail_of}
use Rattle.walk.specs.Step.{Head, State, people, ended, wrong, right, last_id, sum_in, refusal_after, tail_line, judged, verdict_of, step}
use Rattle.walk.specs.Answers.{RestsOnIdAndSum}

-- a number refuses a line whatever state would come after it
any_state : (number k n l : ℕ) (one other : State) → passing number k (values one) ≡ refusal n l → passing number k (values other) ≡ refusal n l
any_state zero k n l one other e = let z : ◌≡◌ {A = ℕ} 0 1 = cc in absurd (omega arith)
any_state (suc number) k n l one other e = rw (eqb-suc-zero number) (rw (eqb-suc-zero number) at e)

module _ (ranges : Bool) (k : ℕ) (h : Head) (some others : List Member) (many : length some ≡ length others) (id : last_id some ≡ last_id others) where
  tail : (n l : ℕ) (x : Tail) → ((m : Member) → x ≡ listed m → sum_in h m.person some ≡ sum_in h m.person others) → judged ranges k (tail_line h some x) ≡ refusal n l → judged ranges k (tail_line h others x) ≡ refusal n l
  tail n l (listed m) sum e =
      let same : refusal_after h some m ≡ refusal_after h others m = rw (id, sum m refl) in
      any_state (settled ranges (refusal_after h others m)) k n l _ (people h (others ++ m ∷ [])) (rw same at e)
  tail n l (end c) sum e = pick (eqb c (length others)) (rw many at e)
    where
      pick : (b : Bool) → judged ranges k (cond b (right 0 (ended h some)) (wrong 0 wrong_count)) ≡ refusal n l → judged ranges k (cond b (right 0 (ended h others)) (wrong 0 wrong_count)) ≡ refusal n l
      pick true e = any_state (settled ranges 0) k n l (ended h some) (ended h others) e
      pick false e = e
  tail n l surplus sum e = e
  tail n l neither sum e = e

pub rests_on_id_and_sum : RestsOnIdAndSum
unfolding step verdict_of
rests_on_id_and_sum ranges k h some others line ahead many id sum n l e =
    tail ranges k h some others many id n l (tail_of (leb most_members (length others)) line) sum (rw many at e)
