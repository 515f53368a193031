-- Request 6: the day after a date, for what is said of weekdays and days between dates.
use Rattle.std.specs.Prelude.{◌+◌, if◌then◌else◌}
use Rattle.octets.specs.Choice.{◌<?◌}
use Rattle.renewal.specs.Counting.{date}
use Rattle.renewal.specs.Stays.{last_day}
use Rattle.renewal.specs.declared.Date.{Date}

-- the month's next day, or the next month's first, or the next year's
unfoldable pub following : Date → Date
following d =
    if d.day <? last_day d then date d.year d.month (d.day + 1)
    else if d.month <? 12 then date d.year (d.month + 1) 1
    else date (d.year + 1) 1 1
