-- For contracts of inner functions only: a setting by itself, as it is read from the data of an E, and what it makes of the settings.
use Rattle.std.specs.Prelude.{Result, Ok, Err}
use Rattle.board.specs.Settings.{with_time, with_date, with_format, with_speaker, with_address, with_offset, cleared}
use Rattle.board.specs.declared.Settings.{Settings}
use Rattle.effects.specs.InnerLeaving.{number}
use Rattle.effects.specs.declared.Changed.{Changed}
use Rattle.effects.specs.declared.Refusal.{Refusal}
use Rattle.special.specs.Special.{to}
use Rattle.special.specs.declared.special.Setting.{Setting}
use Rattle.special.specs.declared.special.Setting.TheVariants.{Time, Date, Speaker, Format, Address, Offset, NoErrors}

-- the settings with it
abbrev pub put : Settings → Setting → Settings
put s (Time h n) = with_time s h n
put s (Date m d y) = with_date s m d y
put s (Speaker v) = with_speaker s v
put s (Format f) = with_format s f
put s (Address a) = with_address s a
put s (Offset t) = with_offset s t
put s NoErrors = cleared s

-- what is answered of settings by what was read
abbrev pub put_read : Settings → Result Setting Refusal → Changed
put_read s (Ok x) = to (put s x)
put_read s (Err e) = record { number = number e; settings = s }
