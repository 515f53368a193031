-- Request 6, "negative when the second is earlier": which of two dates is the earlier one.
use Rattle.std.specs.Prelude.{Bool, if◌then◌else◌}
use Rattle.octets.specs.Choice.{◌is◌, ◌<?◌}
use Rattle.renewal.specs.declared.Date.{Date}

-- by year; in one year by month; in one month by day
unfoldable pub is_earlier : Date → Date → Bool
is_earlier a b =
    if a.year is b.year
    then (if a.month is b.month then a.day <? b.day else a.month <? b.month)
    else a.year <? b.year
