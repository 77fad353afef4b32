-- `shared_engine::temporary` meets its contract: T and Z are cases of the one factor, and don't look at how often a pension is paid.
use Rattle.std.proofs.Common.{List, ℕ, ◌≤◌, arith}
use Rattle.rates.specs.Table.{Table}
use Rattle.plan.specs.declared.Plan.{Plan}
use Rattle.plan.specs.declared.Member.{Member}
use Rattle.plan.specs.Ranges.{MemberRanges}
use Rattle.factors.specs.Basis.{basis}
use Rattle.factors.specs.Factors.{T, Z}
use Rattle.factors.proofs.Bases.{T_payable, Z_payable}
use Rattle.year_steps.specs.Filled.{paid_of, factor}
use Rattle.columns.proofs.ColumnLaws.{working_is, pay_is}
use Rattle.costs.proofs.Needs.{facts}
use Rattle.shared_engine.proofs.temporary.Goals as goal

-- what the columns ask for, but for what they hold
asked : (p : Plan) (rows : List (List ℕ)) (m : Member) → MemberRanges p rows m → (e : ℕ) → m.entry ≤ e → e ≤ p.retire → Table rows × (p.interest ≤ 2000) × (15 ≤ m.entry) × (m.entry ≤ e) × (e ≤ 75)
asked p rows m accepted e from to =
    let f = facts p rows m accepted in
    (f.table, f.head.interest, accepted.in_range.grown, from, omega (arith, f.head.retire.1))

pub between-requires : goal.between-requires
unfolding factor paid_of T
between-requires c = let a = c.args in
    let q = asked a.p a.rows.now a.m c.requires.0 a.e c.requires.1 c.requires.2 in
    (q.0, omega (arith, q.1), q.2, q.3, q.4, rw (T_payable a.p.pay (basis a.rows.now a.p.retire a.p.interest)) at (rw c.in-CD.is at c.requires.3))

pub between-requires-in-CP : goal.between-requires-in-CP
unfolding factor paid_of Z
between-requires-in-CP c = let a = c.args in
    let q = asked a.p a.rows.now a.m c.requires.0 a.e c.requires.1 c.requires.2 in
    (q.0, omega (arith, q.1), q.2, q.3, q.4, rw (Z_payable a.p.pay (basis a.rows.now a.p.retire a.p.interest)) at (rw c.in-CP.is at c.requires.3))

pub returns-in-CD-clause-value : goal.returns-in-CD-clause-value
returns-in-CD-clause-value c = let a = c.args in
    rw (c.in-CD.is, T_payable a.p.pay (basis a.rows.now a.p.retire a.p.interest)) (working_is _ _ _ c.between.ensures.value)

pub returns-in-CD-clause-filled_columns : goal.returns-in-CD-clause-filled_columns
unfolding factor paid_of T
returns-in-CD-clause-filled_columns c = let a = c.args in
    rw (c.in-CD.is, T_payable a.p.pay (basis a.rows.now a.p.retire a.p.interest)) c.between.ensures.filled_columns

pub returns-in-CP-clause-value : goal.returns-in-CP-clause-value
returns-in-CP-clause-value c = let a = c.args in
    rw (c.in-CP.is, Z_payable a.p.pay (basis a.rows.now a.p.retire a.p.interest)) (pay_is _ _ _ c.between-in-CP.ensures.value)

pub returns-in-CP-clause-filled_columns : goal.returns-in-CP-clause-filled_columns
unfolding factor paid_of Z
returns-in-CP-clause-filled_columns c = let a = c.args in
    rw (c.in-CP.is, Z_payable a.p.pay (basis a.rows.now a.p.retire a.p.interest)) c.between-in-CP.ensures.filled_columns
