-- `division::start` meets its contract.
use Rattle.std.proofs.Common.{◌≡◌, ℕ, ◌∙◌, arith}
use Rattle.division.specs.declared.words.Wide.{Wide}
use Rattle.division.specs.Words.{value}
use Rattle.division.specs.Division.{undivided}
use Rattle.division.proofs.start.Goals as goal
use Rattle.division.proofs.start.Goals.{After-step-one}

first : (w : Wide) (d : ℕ) → undivided d (record { quotient = 0; left = w }) ≡ value w
unfolding undivided
first w d = omega arith

one : (c : After-step-one) → undivided c.args.d c.step-one.result ≡ value c.args.w
one c = c.step-one.ensures.same ∙ first c.args.w c.args.d

pub step-one-requires : goal.step-one-requires
step-one-requires c = (c.requires.0, rw (first c.args.w c.args.d) c.requires.1)

pub step-requires : goal.step-requires
step-requires c = (c.requires.0, rw (one c.before) c.requires.1)

pub returns-then-d-ge-LARGE : goal.returns-then-d-ge-LARGE
returns-then-d-ge-LARGE c = c.step.ensures.same ∙ one c.before.before

pub returns : goal.returns
returns c = one c.before
