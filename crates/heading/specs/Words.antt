-- Rules 2.4, 2.7 and 5.4, what the code answers of a line that is a word: the code of the formula or of the method.
use Rattle.std.specs.Prelude.{ℕ, List, [], ◌∷◌, Bool, cond, Option, Some, None}
use Rattle.fields.specs.Values.{Values, found, misread}
use Rattle.walk.specs.Terms.{formula_word, method_word}

abbrev pub coded : Option ℕ → Values
coded None = misread
coded (Some code) = found (code ∷ [])

abbrev pub word_of : (method : Bool) → List ℕ → Values
word_of method line = cond method (method_word line) (formula_word line)
