-- Yes and no as C has them.
use Rattle.std.specs.Prelude.{ℕ, Bool, if◌then◌else◌}

-- 1 for yes, 0 for no
abbrev pub truth : Bool → ℕ
truth b = if b then 1 else 0
