-- Request 10: the serial error status register between runs, and through one.
use Rattle.std.specs.Prelude.{ℕ, Bool, true, not, ◌&&◌, List, [], ◌∷◌, if◌then◌else◌}
use Rattle.octets.specs.Choice.{◌is◌}
use Rattle.register.specs.Register.{CLEARED, is_register, driven_by}
use Rattle.body.specs.Body.{Block}
use Rattle.board.specs.Settings.{with_errors}
use Rattle.board.specs.declared.Settings.{Settings}
use Rattle.effects.specs.Recording.{fault_noted}
use Rattle.keeping.specs.Keeping.{clears}
use Rattle.sign.specs.declared.Driven.{Driven}

-- what the port driver's call answers: number and settings
abbrev pub driven_as : ℕ → Settings → Driven
driven_as n s = record { number = n; settings = s }

-- "Parity, framing and time-out bits come from the port driver through a call, which ignores other bits."; "1 for a register whose
-- fixed bits are not as the table has them", with the settings as they were. It looks at nothing else.
unfoldable pub port_errors : Settings → ℕ → Driven
port_errors s bits =
    if is_register s.errors then driven_as 0 (with_errors s (driven_by s.errors bits))
    else driven_as 1 s

-- the register behind a block of that number: E "4" and F "*" clear it where they are done; every other block leaves it with the bit of its
-- number, if that has one
unfoldable pub errors_behind : ℕ → Block → ℕ → ℕ
errors_behind r k n = if n is 0 && clears k.command k.text then CLEARED else fault_noted r n

-- and behind blocks of these numbers, in order
unfoldable pub errors_through : ℕ → List Block → List ℕ → ℕ
errors_through r [] ns = r
errors_through r (k ∷ ks) [] = r
errors_through r (k ∷ ks) (n ∷ ns) = errors_through (errors_behind r k n) ks ns

-- a frame holds no command that clears the register
unfoldable pub clears_none : List Block → Bool
clears_none [] = true
clears_none (k ∷ ks) = not (clears k.command k.text) && clears_none ks
