-- A line after the rows, from the answers of the readers; and what such an answer says of the bytes.
use Prim.Native.Nat.{ℕ}
use mathlib.Core.Path.{◌≡◌, refl, sym, ap, ◌∙◌}
use mathlib.Core.List.{List}
use lib.ListN.{get_or}
use mathlib.Core.Bool.{Bool, true, false, cond}
use Rattle.std.specs.Prelude.{Result, Ok, Err}
use Rattle.std.specs.Result.{IsErrAnd}
use Rattle.fields.specs.declared.Fault.{Fault}
use Rattle.fields.specs.declared.Fault.TheVariants.{Wrong, Cut as FaultCut}
use Rattle.fields.specs.Text.{bytes}
use Rattle.fields.specs.Split.{seek_of, has_of, upto_of, starts_of}
use Rattle.fields.specs.Numbers.{whole_of, amount_of}
use Rattle.fields.specs.Values.{Values, found, misread, keyed_of, line_of}
use Rattle.fields.proofs.KeyLaws.{starts_line}
use Rattle.fields.proofs.AnswerLaws.{GoodLine, good_line, is_good, is_wrong, is_cut}
use Rattle.plan.specs.declared.Member.{Member}
use Rattle.plan.specs.Numbers.{member_from}
use Rattle.walk.specs.Lines.{Tail as Line, listed, end, surplus, neither, listed_made, end_made, tail_of}
use Rattle.tails.specs.declared.Tail.{Tail}
use Rattle.tails.specs.declared.Tail.TheVariants.{Listed, End}
use Rattle.tails.specs.declared.TailFault.{TailFault}
use Rattle.tails.specs.declared.TailFault.TheVariants.{Surplus, Neither, Cut}
use Rattle.tails.specs.Tails.{kind_at, kind_of, fault_of, surplus_of}

-- an error of which one thing is known
pub err_is : {A : Type 0} (r : Result A TailFault) (f : TailFault) → IsErrAnd r (λ g. g ≡ f) → r ≡ Err f
err_is (Ok a) f is = absurd is
err_is (Err g) f is = ap Err is

-- ---- from what was read of the line
module _ (full : Bool) (s : List ℕ) (holds : List ℕ → Values) (made : Values → Line) (way : tail_of full (upto_of 10 s) ≡ made (holds (upto_of 10 s))) {r : Result (List ℕ × ℕ) Fault} (read : r ≡ line_of holds s) where
  made_read : {a : List ℕ × ℕ} → r ≡ Ok a → kind_at (made (found a.0)) a.1 ≡ kind_of full s
  unfolding kind_of
  made_read is = let g = is_good holds s read is in rw (g.line.has, way, g.is, g.line.place)

  made_fault : made misread ≡ neither → (f : Fault) → r ≡ Err f → Err (fault_of f) ≡ kind_of full s
  unfolding kind_of
  made_fault bad Wrong is = let w = is_wrong holds s read is in rw (w.0, way, w.1, bad)
  made_fault bad FaultCut is = rw (is_cut holds s read is)

module _ (s : List ℕ) {b : Bool} (tested : b ≡ starts_of (bytes "member=") s) where
  key : {t : Bool} → b ≡ t → starts_of (bytes "member=") (upto_of 10 s) ≡ t
  key is = starts_line (bytes "member=") s refl ∙ sym tested ∙ is

  -- a member
  module _ {full : Bool} (on : b ≡ true) (room : full ≡ false) {r : Result (List ℕ × ℕ) Fault} (read : r ≡ line_of (keyed_of (bytes "member=") amount_of 4) s) where
    member_way : tail_of full (upto_of 10 s) ≡ listed_made (keyed_of (bytes "member=") amount_of 4 (upto_of 10 s))
    unfolding tail_of
    member_way = rw (key on, room)

    pub member_read : {a : List ℕ × ℕ} {m : Member} → r ≡ Ok a → m ≡ member_from a.0 → Ok (Listed m, a.1) ≡ kind_of full s
    member_read {a} is of = ap (λ (m : Member). Ok (Listed m, a.1)) of ∙ made_read full s (keyed_of (bytes "member=") amount_of 4) listed_made member_way read is

    pub member_fault : {f : Fault} → r ≡ Err f → Err (fault_of f) ≡ kind_of full s
    member_fault {f} is = made_fault full s (keyed_of (bytes "member=") amount_of 4) listed_made member_way read refl f is

  -- the end
  module _ (full : Bool) (off : b ≡ false) {r : Result (List ℕ × ℕ) Fault} (read : r ≡ line_of (keyed_of (bytes "end=") whole_of 0) s) where
    end_way : tail_of full (upto_of 10 s) ≡ end_made (keyed_of (bytes "end=") whole_of 0 (upto_of 10 s))
    unfolding tail_of
    end_way = rw (key off)

    pub end_read : {a : List ℕ × ℕ} → r ≡ Ok a → Ok (End (get_or a.0 0 0), a.1) ≡ kind_of full s
    end_read is = made_read full s (keyed_of (bytes "end=") whole_of 0) end_made end_way read is

    pub end_fault : {f : Fault} → r ≡ Err f → Err (fault_of f) ≡ kind_of full s
    end_fault {f} is = made_fault full s (keyed_of (bytes "end=") whole_of 0) end_made end_way read refl f is

  -- one more than 1,000
  pub surplus_line : {full : Bool} {f : TailFault} → b ≡ true → full ≡ true → f ≡ surplus_of s → Err f ≡ kind_of full s
  unfolding kind_of tail_of
  surplus_line {full} {f} on more is = is_surplus (has_of 10 s) refl
    where
      is_surplus : (h : Bool) → has_of 10 s ≡ h → Err f ≡ kind_of full s
      is_surplus true has = rw (is, has, key on, more)
      is_surplus false none = rw (is, none)

-- ---- what such an answer says: of a member, or the end
same_member : {m o : Member} → Listed m ≡ Listed o → listed o ≡ listed m
same_member is = cc

same_count : {n k : ℕ} → End n ≡ End k → end k ≡ end n
same_count is = cc

not_both : {m : Member} {n : ℕ} → Listed m ≡ End n → ⊥
not_both is = cc

pub record TailLine (full : Bool) (s : List ℕ) (line : Line) (e : ℕ) : Type 0 where
  pub good : GoodLine s e
  pub is : tail_of full (upto_of 10 s) ≡ line

module _ (full : Bool) (s : List ℕ) {r : Result (Tail × ℕ) TailFault} (answered : r ≡ kind_of full s) where
  pub tail_cut : r ≡ Err Cut → has_of 10 s ≡ false
  unfolding kind_of
  tail_cut is = pick (has_of 10 s) (tail_of full (upto_of 10 s)) (sym is ∙ answered)
    where
      pick : (h : Bool) (x : Line) → Err Cut ≡ cond h (kind_at x (seek_of 10 s)) (Err Cut) → h ≡ false
      pick true (listed m) e = cc
      pick true (end n) e = cc
      pick true surplus e = cc
      pick true neither e = cc
      pick false x e = refl

  pub tail_surplus : r ≡ Err Surplus → (has_of 10 s ≡ true) × (tail_of full (upto_of 10 s) ≡ surplus)
  unfolding kind_of
  tail_surplus is = pick (has_of 10 s) (tail_of full (upto_of 10 s)) (sym is ∙ answered)
    where
      pick : (h : Bool) (x : Line) → Err Surplus ≡ cond h (kind_at x (seek_of 10 s)) (Err Cut) → (h ≡ true) × (x ≡ surplus)
      pick true (listed m) e = absurd (cc)
      pick true (end n) e = absurd (cc)
      pick true surplus e = (refl, refl)
      pick true neither e = absurd (cc)
      pick false x e = absurd (cc)

  pub tail_neither : r ≡ Err Neither → (has_of 10 s ≡ true) × (tail_of full (upto_of 10 s) ≡ neither)
  unfolding kind_of
  tail_neither is = pick (has_of 10 s) (tail_of full (upto_of 10 s)) (sym is ∙ answered)
    where
      pick : (h : Bool) (x : Line) → Err Neither ≡ cond h (kind_at x (seek_of 10 s)) (Err Cut) → (h ≡ true) × (x ≡ neither)
      pick true (listed m) e = absurd (cc)
      pick true (end n) e = absurd (cc)
      pick true surplus e = absurd (cc)
      pick true neither e = (refl, refl)
      pick false x e = absurd (cc)

  pub tail_listed : {m : Member} {e : ℕ} → r ≡ Ok (Listed m, e) → TailLine full s (listed m) e
  unfolding kind_of
  tail_listed {m} {e} is = let p = pick (has_of 10 s) (tail_of full (upto_of 10 s)) (sym is ∙ answered) in record { good = good_line s p.0 p.1; is = p.2 }
    where
      pick : (h : Bool) (x : Line) → Ok (Listed m, e) ≡ cond h (kind_at x (seek_of 10 s)) (Err Cut) → (h ≡ true) × (e ≡ seek_of 10 s) × (x ≡ listed m)
      pick true (listed o) q = let same : (Listed m, e) ≡ (Listed o, seek_of 10 s) = cc in (refl, ap (λ (p : Tail × ℕ). p.1) same, same_member (ap (λ (p : Tail × ℕ). p.0) same))
      pick true (end n) q = let same : (Listed m, e) ≡ (End n, seek_of 10 s) = cc in absurd (not_both (ap (λ (p : Tail × ℕ). p.0) same))
      pick true surplus q = absurd (cc)
      pick true neither q = absurd (cc)
      pick false x q = absurd (cc)

  pub tail_end : {n e : ℕ} → r ≡ Ok (End n, e) → TailLine full s (end n) e
  unfolding kind_of
  tail_end {n} {e} is = let p = pick (has_of 10 s) (tail_of full (upto_of 10 s)) (sym is ∙ answered) in record { good = good_line s p.0 p.1; is = p.2 }
    where
      pick : (h : Bool) (x : Line) → Ok (End n, e) ≡ cond h (kind_at x (seek_of 10 s)) (Err Cut) → (h ≡ true) × (e ≡ seek_of 10 s) × (x ≡ end n)
      pick true (listed m) q = let same : (End n, e) ≡ (Listed m, seek_of 10 s) = cc in absurd (not_both (sym (ap (λ (p : Tail × ℕ). p.0) same)))
      pick true (end k) q = let same : (End n, e) ≡ (End k, seek_of 10 s) = cc in (refl, ap (λ (p : Tail × ℕ). p.1) same, same_count (ap (λ (p : Tail × ℕ). p.0) same))
      pick true surplus q = absurd (cc)
      pick true neither q = absurd (cc)
      pick false x q = absurd (cc)

  pub tail_good : {a : Tail × ℕ} → r ≡ Ok a → GoodLine s a.1
  unfolding kind_of
  tail_good {a} is = let p = pick (has_of 10 s) (tail_of full (upto_of 10 s)) (sym is ∙ answered) in good_line s p.0 p.1
    where
      pick : (h : Bool) (x : Line) → Ok a ≡ cond h (kind_at x (seek_of 10 s)) (Err Cut) → (h ≡ true) × (a.1 ≡ seek_of 10 s)
      pick true (listed m) q = let same : a ≡ (Listed m, seek_of 10 s) = cc in (refl, ap (λ (p : Tail × ℕ). p.1) same)
      pick true (end n) q = let same : a ≡ (End n, seek_of 10 s) = cc in (refl, ap (λ (p : Tail × ℕ). p.1) same)
      pick true surplus q = absurd (cc)
      pick true neither q = absurd (cc)
      pick false x q = absurd (cc)
