-- Rule 6.4: every rounded quotient is made from the one pair of what it divides.
use mathlib.Core.Path.{◌≡◌, ◌∙◌}
use Prim.Native.Nat.{ℕ, ◌*◌, ◌<◌}
use Rattle.division.specs.Words.{value}
use Rattle.rounding.specs.Nearest.{nearest}
use Rattle.rounding.specs.OnePair.{FromOnePair, RoundedFromOnePair}
use Rattle.division.proofs.Pairs.{pair, divides, same_pair}
use Rattle.rounding.proofs.HalfEven.{of_pair}
use Rattle.rounding.proofs.SignedLaws.{signed_size, signed_sign}

-- the rule makes the rounded quotient from the one pair that there is
from_one_pair : (n d r : ℕ) → 0 < d → r ≡ nearest n d → FromOnePair n d r
from_one_pair n d r h e =
    record {
      pair = pair n d;
      divides = divides n d h;
      only = λ s hs. same_pair s (pair n d) hs (divides n d h);
      made = e ∙ of_pair n d (pair n d) (divides n d h);
    }

pub rounded_from_one_pair : RoundedFromOnePair
rounded_from_one_pair =
    record {
      div_nearest = from_one_pair;
      wide_div_nearest = λ w. from_one_pair (value w);
      mul_div_nearest = λ a b. from_one_pair (a * b);
      mul_mul_div_nearest = λ a b c. from_one_pair (a * b * c);
      signed_mul_div_nearest = λ a b d r h e. record {
        size = from_one_pair (a.size * b) d r.size h (signed_size a b d r h e);
        sign = signed_sign a b d r h e;
      };
    }
