-- Demand 3, both parts (rules 10.8 and 10.9), for every sound setting of a member, each of the five methods and each age k from y through r; and roll-forward, at the ages below r.
use Rattle.std.specs.Prelude.{ℕ, ◌+◌, ◌*◌, ◌≤◌, ◌<◌}
use Rattle.fractions.specs.Ratio.{Ratio, ◌over◌, whole, ◌⊕◌, ◌⊗◌, ◌≈◌}
use Rattle.fractions.specs.Fraction.{fraction, ◌⊖◌, ◌≐◌}
use Rattle.factors.specs.Factors.{S, step*}
use Rattle.factors.specs.Accuracy.{Within}
use Rattle.plan.specs.declared.Method.{Method}
use Rattle.plan.specs.declared.Method.TheVariants.{AB, BD, BP, CD, CP}
use Rattle.costs.specs.Setting.{Setting, SoundSetting}
use Rattle.costs.specs.Costs.{r, W, PV, PV*, N, N*, L, L*, future}

-- rule 10.4: what holds of every sound setting, each method and each age k from y through r
abbrev pub OfEverySound : (Setting → Method → ℕ → Type 0) → Type 0
OfEverySound P = (c : Setting) → SoundSetting c → (m : Method) (k : ℕ) → c.y ≤ k → k ≤ r c → P c m k

-- rule 10.8: the part already earned is the benefits less the future normal costs, equal fractions by cross products
abbrev pub FormsAgree : Setting → Method → ℕ → Type 0
FormsAgree c m k = fraction (L* c m k) ≐ fraction (PV* c k) ⊖ fraction (future c m k)

abbrev pub EqualForms : Type 0
EqualForms = OfEverySound FormsAgree

-- a year forward: the liability and the year's normal cost are the year step of the next year's liability
abbrev pub RollForward : Type 0
RollForward =
    (c : Setting) → SoundSetting c → (m : Method) (k : ℕ) → c.y ≤ k → k < r c
    → L* c m k ⊕ N* c m k ≈ step* c.basis k (L* c m (k + 1))

-- ---- limits by the benefit, in cents
-- b, the benefit at retirement in cents over S: 0.1 at most
abbrev pub b : Setting → Ratio
b c = c.B (r c) over S

-- how far V may stray: 0.5 + 53 b
unfoldable pub V_limit : Setting → Ratio
V_limit c = 1 over 2 ⊕ whole 53 ⊗ b c

-- and N at age k: AB 0.5 + 53 b; BD, BP 1 + 53 b; CD 0.5 + 88.5 b; CP (1 + 53.0355 b) × W(k) / W(y)
unfoldable pub N_limit : Setting → Method → ℕ → Ratio
N_limit c AB k = 1 over 2 ⊕ whole 53 ⊗ b c
N_limit c BD k = whole 1 ⊕ whole 53 ⊗ b c
N_limit c BP k = whole 1 ⊕ whole 53 ⊗ b c
N_limit c CD k = 1 over 2 ⊕ 885 over 10 ⊗ b c
N_limit c CP k = (whole 1 ⊕ 530355 over 10000 ⊗ b c) ⊗ W c k over W c c.y

-- and L: AB 0.5 + 53 b; BD, BP 1 + 53 b; CD 1 + 124 b; CP 1 + 53.071 b
unfoldable pub L_limit : Setting → Method → Ratio
L_limit c AB = 1 over 2 ⊕ whole 53 ⊗ b c
L_limit c BD = whole 1 ⊕ whole 53 ⊗ b c
L_limit c BP = whole 1 ⊕ whole 53 ⊗ b c
L_limit c CD = whole 1 ⊕ whole 124 ⊗ b c
L_limit c CP = whole 1 ⊕ 53071 over 1000 ⊗ b c

-- V, N and L at age k lie within these limits of their exact fractions
pub record WithinLimits (c : Setting) (m : Method) (k : ℕ) : Type 0 where
  pub value : Within (V_limit c) (PV c k) (PV* c k)
  pub cost : Within (N_limit c m k) (N c m k) (N* c m k)
  pub liability : Within (L_limit c m) (L c m k) (L* c m k)

abbrev pub SharpLimits : Type 0
SharpLimits = OfEverySound WithinLimits

-- ---- the limit that is demanded, which follows
-- rule 10.9: 15 cents, and for the N of CP 15 × W(k) / W(y), which is no rounded number
unfoldable pub N_most : Setting → Method → ℕ → Ratio
N_most c AB k = 15 over 1
N_most c BD k = 15 over 1
N_most c BP k = 15 over 1
N_most c CD k = 15 over 1
N_most c CP k = (15 * W c k) over W c c.y

abbrev pub WithinDemand : Setting → Method → ℕ → Type 0
WithinDemand c m k = Within (N_most c m k) (N c m k) (N* c m k) × Within (15 over 1) (L c m k) (L* c m k)

abbrev pub Limits : Type 0
Limits = OfEverySound WithinDemand
