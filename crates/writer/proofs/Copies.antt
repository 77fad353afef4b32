-- The statements of specs/Statements.antt.
use mathlib.Core.Path.{◌≡◌, refl, sym, ap, subst}
use mathlib.Core.Bool.{Bool, true, false, cond}
use mathlib.Core.List.{List}
use Prim.Native.Nat.{ℕ}
use native.Mathlib.Omega.{arith}
use lib.Dec.{leb, eqb}
use lib.ListN.{length}
use borrow.Author.Tests.{eqb-true, le-leb}
use Rattle.rules.specs.Outcome.{values, refusal}
use Rattle.walk.specs.Walk.{walk_of}
use Rattle.walk.proofs.OutcomeLaws.{no_values, values_one, passed}
use Rattle.walk.proofs.Accepted.{accepted_keeps}
use Rattle.judging.specs.Refusing.{case_refusal}
use Rattle.judging.proofs.Exactly.{refused_exactly}
use Rattle.written.specs.Written.{written}
use Rattle.written.proofs.Lengths.{written_most}
use Rattle.written.proofs.Theorems.{written_is_accepted, read_is_written}
use Rattle.fitting.specs.Fitting.{fitting}
use Rattle.writer.specs.Files.{file_of}
use Rattle.writer.specs.Statements.{WrittenReadsBack, CleanCopy, RoomEnough}

-- what fits is written whole
fits_whole : (room : ℕ) (text file : List ℕ) → fitting room text ≡ values file → file ≡ text
unfolding fitting
fits_whole room text file e = pick (leb (length text) room) e
  where
    pick : (b : Bool) → cond b (values text) (refusal 30 0) ≡ values file → file ≡ text
    pick true e = sym (values_one e)
    pick false e = no_values e

pub written_reads_back : WrittenReadsBack
unfolding file_of
written_reads_back room c file full e =
    let p = passed (case_refusal c) 0 (fitting room (written c)) e in
    subst (λ (s : List ℕ). walk_of true s ≡ values c) (sym (fits_whole room (written c) file p.1)) (written_is_accepted c full ((refused_exactly c full.all_ages).0 p.0))

pub clean_copy : CleanCopy
unfolding file_of
clean_copy room file c e =
    let w = read_is_written true file c e in
    let none : case_refusal c ≡ 0 = (refused_exactly c w.1.all_ages).1 (accepted_keeps file c e).1 in
    rw none (ap (fitting room) (sym w.0))

pub room_enough : RoomEnough
unfolding file_of fitting
room_enough room c number line full enough e = pick (eqb (case_refusal c) 0) refl
  where
    pick : (b : Bool) → eqb (case_refusal c) 0 ≡ b → (number ≡ case_refusal c) × (line ≡ 0)
    pick true none =
        let kept = (refused_exactly c full.all_ages).0 (eqb-true (case_refusal c) 0 none) in
        let fits = le-leb (length (written c)) room (omega (arith, written_most c kept)) in
        no_values (sym (rw (none, fits) at e))
    pick false some = let same = rw some at e in (cc, cc)
