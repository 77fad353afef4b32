-- Where a byte first stands, and the parts before and after it: byte 10 ends a line (rule 1.2), byte 44, a comma, a field (rule 1.6).
use Rattle.std.specs.Prelude.{ℕ, suc, ◌+◌, List, [], ◌∷◌, Bool, true, false, cond, ◌&&◌, length, take, drop, eqb, ltb}

-- the place of the first b, or the length where there is none
abbrev pub seek_of : ℕ → List ℕ → ℕ
seek_of b [] = 0
seek_of b (x ∷ s) = cond (eqb x b) 0 (suc (seek_of b s))

-- there is a b; the bytes before the first; the bytes after it. With no b: all the bytes, and none
unfoldable pub has_of : ℕ → List ℕ → Bool
has_of b s = ltb (seek_of b s) (length s)

unfoldable pub upto_of : ℕ → List ℕ → List ℕ
upto_of b s = take (seek_of b s) s

unfoldable pub past_of : ℕ → List ℕ → List ℕ
past_of b s = drop (seek_of b s + 1) s

-- s begins with the key
abbrev pub starts_of : List ℕ → List ℕ → Bool
starts_of [] s = true
starts_of (k ∷ ks) [] = false
starts_of (k ∷ ks) (x ∷ s) = eqb x k && starts_of ks s

-- s is the key and nothing more
unfoldable pub same_of : List ℕ → List ℕ → Bool
same_of key s = starts_of key s && eqb (length s) (length key)
