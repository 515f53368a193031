-- Signed numbers from one to another. `le_z a b`, the library's, tests that a is at most b.
use Rattle.std.specs.Prelude.{Bool, ◌&&◌, ℤ}
use Rattle.std.specs.Int.Signed.{le_z}

-- lo to hi, both counted
abbrev pub from_to : ℤ → ℤ → ℤ → Bool
from_to lo hi z = le_z lo z && le_z z hi
