-- What accepted plain values leave of their lists, and the answers by whether their file fits.
use mathlib.Core.Path.{◌≡◌, refl, sym}
use mathlib.Core.Bool.{Bool, true, false}
use mathlib.Core.List.{List}
use Prim.Native.Nat.{ℕ, ◌≤◌}
use native.Mathlib.Omega.{arith}
use borrow.Author.Tests.{le-leb, ne_eqb}
use lib.Dec.{leb}
use lib.ListN.{length, length-map}
use Rattle.plan.specs.Numbers.{amendment_from, member_from}
use Rattle.amendments.specs.Force.{amendments_from}
use Rattle.amendments.proofs.Keeping.{list_kept, few_listed}
use Rattle.rule_order.proofs.ValuedLaws.{amended_kept}
use Rattle.plan.specs.declared.Plan.{Plan}
use Rattle.rules.specs.Outcome.{values, refusal as refused-at}
use Rattle.walk.specs.Walk.{Case}
use Rattle.printing.specs.Puts.{PutsAt}
use Rattle.judging.specs.Refusing.{plain_case, case_refusal}
use Rattle.judging.proofs.OrderLaws.{none_refused}
use Rattle.judging.proofs.Exactly.{refused_exactly}
use Rattle.written.specs.Written.{written}
use Rattle.written.specs.Statements.{most_written}
use Rattle.written.proofs.Lengths.{written_most}
use Rattle.fitting.specs.Fitting.{answer, buffer}
use Rattle.fitting.proofs.FittingLaws.{too_long_by, written_by}
use Rattle.writer.specs.Files.{file_of}

-- 20 amendments and 1,000 members at most
pub few_of : (p : Plan) (amendments rows members : List (List ℕ)) → case_refusal (plain_case p amendments rows members) ≡ 0 → (length amendments ≤ 20) × (length members ≤ 1000)
few_of p amendments rows members none =
    let k = (none_refused (plain_case p amendments rows members)).0 none in
    let list = amended_kept p (amendments_from amendments) rows k.0 in
    (omega (arith, few_listed (amendments_from amendments) (list_kept p (amendments_from amendments) list.1).0, length-map amendments amendment_from), omega (arith, k.1, length-map members member_from))

-- where the longest file would fit, this one does
pub surely_fits : (c : Case) (room : ℕ) → length c.rows ≡ 106 → case_refusal c ≡ 0 → most_written ≤ room → true ≡ leb (length (written c)) room
surely_fits c room full none enough =
    sym (le-leb (length (written c)) room (omega (arith, written_most c ((refused_exactly c full).0 none))))

module _ (c : Case) (old : List ℕ) where
  -- refused by a rule
  pub file_refused : {refusal : ℕ} → refusal ≡ case_refusal c → (refusal ≡ 0 → ⊥) → (refused-at refusal 0 ≡ answer (file_of (length old) c)) × (old ≡ buffer (file_of (length old) c) old)
  unfolding file_of
  file_refused {refusal} is some =
      let refused = ne_eqb refusal 0 some in
      let outcome : file_of (length old) c ≡ refused-at refusal 0 = rw (← is, refused) in
      rw outcome (refl, refl)

  -- or else by the room
  pub file_too_long : {fits : Bool} → case_refusal c ≡ 0 → fits ≡ leb (length (written c)) (length old) → fits ≡ false → (refused-at 30 0 ≡ answer (file_of (length old) c)) × (old ≡ buffer (file_of (length old) c) old)
  unfolding file_of
  file_too_long none is not = rw none (too_long_by old (written c) is not)

  -- or written
  pub file_written : {fits : Bool} {out : List ℕ} {end : ℕ} → case_refusal c ≡ 0 → fits ≡ leb (length (written c)) (length old) → fits ≡ true → PutsAt old 0 (written c) out end → (values end ≡ answer (file_of (length old) c)) × (out ≡ buffer (file_of (length old) c) old)
  unfolding file_of
  file_written none is fits w = rw none (written_by is fits w)
