-- Request 10: what a block leaves in the serial error status register.
use Rattle.std.specs.Prelude.{ℕ, ◌||◌, if◌then◌else◌}
use Rattle.octets.specs.Choice.{◌is◌}
use Rattle.register.specs.Register.{ILLEGAL, CHECKSUM, noted}
use Rattle.board.specs.Settings.{with_errors}
use Rattle.board.specs.declared.Settings.{Settings}
use Rattle.board.specs.Board.{with_settings}
use Rattle.effects.specs.Effects.{Effect, effect}

-- the register with what is noted of a block of that number: "A block refused with 20 sets the checksum bit; 21 or 23 sets the illegal command or
-- label bit; a bit stays until cleared."
unfoldable pub fault_noted : ℕ → ℕ → ℕ
fault_noted r n =
    if n is 20 then noted r CHECKSUM
    else if n is 21 || n is 23 then noted r ILLEGAL
    else r

-- the settings with that register
abbrev pub with_fault : Settings → ℕ → Settings
with_fault s n = with_errors s (fault_noted s.errors n)

-- "A refused block now changes nothing but this register": the effect of a command, with its number noted
abbrev pub recorded : Effect → Effect
recorded e = effect e.number (with_settings e.after (with_fault e.after.settings e.number)) e.reply
