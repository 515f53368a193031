-- For contracts of inner functions only: the tests of being one byte, and of being another.
use Rattle.std.specs.Prelude.{ℕ, Bool}
use Rattle.octets.specs.Choice.{◌is◌, ◌isn't◌}

-- the test of being b
unfoldable pub equals : ℕ → ℕ → Bool
equals b x = x is b

-- the test of being another than b
unfoldable pub differs : ℕ → ℕ → Bool
differs b x = x isn't b
