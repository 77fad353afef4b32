-- Numbers and lines of values, computed from the definitions.
use Prim.Native.String.{String}
use mathlib.Core.Path.{◌≡◌, refl}
use mathlib.Core.List.{[], ◌∷◌}
use Rattle.fields.specs.Text.{bytes}
use Rattle.fields.specs.Split.{has_of, upto_of, past_of}
use Rattle.fields.specs.Numbers.{Number, value, malformed, digits_of, whole_of, amount_of}
use Rattle.fields.specs.Values.{Values, found, misread, values_of, keyed_of}

-- ---- numbers
abbrev whole : String → Number
whole text = whole_of (bytes text)

abbrev amount : String → Number
amount text = amount_of (bytes text)

pub record Numbers : Type 0 where
  -- rule 1.3: no zero in front of others, and 1 to 12 digits
  pub zero_alone : whole "0" ≡ value 0
  pub no_zero_in_front : whole "07" ≡ malformed
  pub no_zero_twice : whole "00" ≡ malformed
  pub none : whole "" ≡ malformed
  pub twelve : whole "999999999999" ≡ value 999999999999
  pub thirteen : whole "1000000000000" ≡ malformed
  -- rule 1.5: no sign and no blank
  pub signed : whole "-7" ≡ malformed
  pub blank : whole "7 " ≡ malformed
  -- rule 1.4: a whole number, a point and two digits
  pub assets : amount "20.00" ≡ value 2000
  pub largest : amount "999999999999.99" ≡ value 99999999999999
  pub no_dollars : amount ".50" ≡ malformed
  pub one_digit : amount "1.5" ≡ malformed
  pub zero_in_front : amount "01.00" ≡ malformed
  pub no_point : amount "20" ≡ malformed
  -- rule 14.14: a good beginning with something after it
  pub tail : amount "4125.50.75" ≡ malformed

pub numbers_are : Numbers
unfolding has_of upto_of past_of digits_of whole_of amount_of
numbers_are =
    record {
      zero_alone = refl;
      no_zero_in_front = refl;
      no_zero_twice = refl;
      none = refl;
      twelve = refl;
      thirteen = refl;
      signed = refl;
      blank = refl;
      assets = refl;
      largest = refl;
      no_dollars = refl;
      one_digit = refl;
      zero_in_front = refl;
      no_point = refl;
      tail = refl;
    }

-- ---- lines of values
-- rule 4.1: four whole numbers and an amount
abbrev member : String → Values
member text = keyed_of (bytes "member=") amount_of 4 (bytes text)

-- rule 3.1: an age, three rates and a weight
abbrev row : String → Values
row text = keyed_of (bytes "row=") whole_of 4 (bytes text)

pub record Lines : Type 0 where
  pub of_a_member : member "member=7,1,63,64,0.00" ≡ found (7 ∷ 1 ∷ 63 ∷ 64 ∷ 0 ∷ [])
  pub of_a_row : row "row=65,1000000,0,0,1100" ≡ found (65 ∷ 1000000 ∷ 0 ∷ 0 ∷ 1100 ∷ [])
  -- rule 1.6: a value reaches to the next comma, so none is missing and none is left over
  pub comma_too_few : member "member=7,1,63,640.00" ≡ misread
  pub comma_too_many : member "member=7,1,63,64,0,0.00" ≡ misread
  pub row_too_short : row "row=65,1000000,0,1100" ≡ misread
  pub row_too_long : row "row=65,1000000,0,0,1100,0" ≡ misread
  pub nothing_between : member "member=7,,63,64,0.00" ≡ misread
  pub nothing_after : row "row=65,1000000,0,0," ≡ misread
  -- rule 14.14
  pub tail : member "member=7,1,63,64,4125.50.75" ≡ misread
  pub other_key : member "Member=7,1,63,64,0.00" ≡ misread

pub lines_are : Lines
unfolding has_of upto_of past_of digits_of whole_of amount_of values_of keyed_of
lines_are =
    record {
      of_a_member = refl;
      of_a_row = refl;
      comma_too_few = refl;
      comma_too_many = refl;
      row_too_short = refl;
      row_too_long = refl;
      nothing_between = refl;
      nothing_after = refl;
      tail = refl;
      other_key = refl;
    }
