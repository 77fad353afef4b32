-- A number of two words.
use Rattle.std.specs.Prelude.{ℕ, ◌+◌, ◌*◌, ◌^◌}
use Rattle.division.specs.declared.words.Wide.{Wide}

-- the number that two words make
unfoldable pub value : Wide → ℕ
value w = w.high * 2 ^ 64 + w.low
