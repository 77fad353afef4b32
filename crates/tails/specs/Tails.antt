-- Rules 4.1, 4.6 and 12.3, what the code answers of a line after the rows: what it is, with the place of its byte 10; or it is cut off before one.
use Rattle.std.specs.Prelude.{ℕ, List, Bool, cond, Result, Ok, Err}
use Rattle.fields.specs.declared.Fault.{Fault}
use Rattle.fields.specs.declared.Fault.TheVariants.{Wrong, Cut as FaultCut}
use Rattle.fields.specs.Split.{seek_of, has_of, upto_of}
use Rattle.walk.specs.Lines.{Tail as Line, listed, end, surplus, neither, tail_of}
use Rattle.tails.specs.declared.Tail.{Tail}
use Rattle.tails.specs.declared.Tail.TheVariants.{Listed, End}
use Rattle.tails.specs.declared.TailFault.{TailFault}
use Rattle.tails.specs.declared.TailFault.TheVariants.{Surplus, Neither, Cut}

abbrev pub kind_at : Line → ℕ → Result (Tail × ℕ) TailFault
kind_at (listed m) e = Ok (Listed m, e)
kind_at (end n) e = Ok (End n, e)
kind_at surplus e = Err Surplus
kind_at neither e = Err Neither

unfoldable pub kind_of : (full : Bool) → List ℕ → Result (Tail × ℕ) TailFault
kind_of full s = cond (has_of 10 s) (kind_at (tail_of full (upto_of 10 s)) (seek_of 10 s)) (Err Cut)

-- a line that isn't read as a member's or the end's is neither, if it is whole
abbrev pub fault_of : Fault → TailFault
fault_of Wrong = Neither
fault_of FaultCut = Cut

-- a line that begins as a member's after 1,000 members
abbrev pub surplus_of : List ℕ → TailFault
surplus_of s = cond (has_of 10 s) Surplus Cut
