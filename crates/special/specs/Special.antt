-- The special functions: E sets, F tells.
use Rattle.std.specs.Prelude.{ℕ, Bool, not, ◌&&◌, ◌||◌, List, [], ◌∷◌, ◌++◌, length, drop, if◌then◌else◌}
use Rattle.octets.specs.Choice.{◌is◌, ◌≤?◌, ◌!◌, none, all}
use Rattle.octets.specs.Hex.{in_hex4}
use Rattle.octets.specs.Carried.{is_carried2, carried2}
use Rattle.octets.specs.Decimal.{is_decimal, decimal2, in_decimal2}
use Rattle.octets.specs.Bytes.{COMMA, ZERO, E, F}
use Rattle.temperature.specs.Offset.{is_signed_digit, signed_digit}
use Rattle.board.specs.Settings.{FORMAT-S, FORMAT-M, OFF, ON, in_date, with_time, with_date, with_format, with_speaker, with_address, with_offset, cleared}
use Rattle.board.specs.Files.{heads}
use Rattle.board.specs.Board.{Board, with_settings, files_on}
use Rattle.board.specs.declared.Settings.{Settings}
use Rattle.effects.specs.Reply.{reply_of}
use Rattle.effects.specs.Effects.{Effect, replied, refuse, change}
use Rattle.effects.specs.declared.Changed.{Changed}
use Rattle.configuration.specs.Configuration.{configure}

-- label 20H
abbrev pub TIME : ℕ
TIME = 0x20

-- "!"
abbrev pub SPEAKER : ℕ
SPEAKER = 0x21

-- "#"
abbrev pub POOL : ℕ
POOL = 0x23

-- "$"
abbrev pub CONFIGURATION : ℕ
CONFIGURATION = 0x24

-- "'"
abbrev pub FORMAT : ℕ
FORMAT = 0x27

-- "*"
abbrev pub ERRORS : ℕ
ERRORS = 0x2A

-- "4"
abbrev pub CLEAR : ℕ
CLEAR = 0x34

-- "7"
abbrev pub ADDRESS : ℕ
ADDRESS = 0x37

-- ";"
abbrev pub DATE : ℕ
DATE = 0x3B

-- "T"
abbrev pub OFFSET : ℕ
OFFSET = 0x54

-- what a special function makes of the settings is its number, and the settings after it: done, with these
abbrev pub to : Settings → Changed
to s = record { number = 0; settings = s }

-- refused, with those that were: 22 "data missing, in excess, or malformed", 21 "unknown .. function label"
abbrev pub malformed : Settings → Changed
malformed s = record { number = 22; settings = s }

abbrev pub unknown : Settings → Changed
unknown s = record { number = 21; settings = s }

-- "four digits HhMm, 00:00 to 23:59"
unfoldable pub set_time : Settings → List ℕ → Changed
set_time s d =
    if length d is 4 && (all is_decimal d && (decimal2 d ≤? 23 && decimal2 (drop 2 d) ≤? 59))
    then to (with_time s (decimal2 d) (decimal2 (drop 2 d)))
    else malformed s

-- ""00" speaker on, "FF" off"
unfoldable pub set_speaker : Settings → List ℕ → Changed
set_speaker s d =
    if length d is 2 && (d ! 0 is ZERO && d ! 1 is ZERO) then to (with_speaker s ON)
    else if length d is 2 && (d ! 0 is F && d ! 1 is F) then to (with_speaker s OFF)
    else malformed s

-- ""S" or "M""
unfoldable pub set_format : Settings → List ℕ → Changed
set_format s d = if length d is 1 && (d ! 0 is FORMAT-S || d ! 0 is FORMAT-M) then to (with_format s (d ! 0)) else malformed s

-- "six digits MmDdYy"; request 1, of a date that does not exist: "A date that breaks this is malformed."
unfoldable pub set_date : Settings → List ℕ → Changed
set_date s d =
    if length d is 6 && (all is_decimal d && in_date (decimal2 d) (decimal2 (drop 2 d)) (decimal2 (drop 4 d)))
    then to (with_date s (decimal2 d) (decimal2 (drop 2 d)) (decimal2 (drop 4 d)))
    else malformed s

-- "two hex digits, the serial address from the next frame on"
unfoldable pub set_address : Settings → List ℕ → Changed
set_address s d = if length d is 2 && is_carried2 d then to (with_address s (carried2 d)) else malformed s

-- request 9, Set Temperature Offset: "a sign and one digit 0 to 9, so -9 to 9, on every type"
unfoldable pub set_offset : Settings → List ℕ → Changed
set_offset s d = if is_signed_digit d then to (with_offset s (signed_digit (d ! 0) (d ! 1))) else malformed s

-- request 10, Clear Serial Error Status Register: "22 for data in excess"
unfoldable pub clear_errors : Settings → List ℕ → Changed
clear_errors s d = if none d then to (cleared s) else malformed s

-- a command to set the serial address, right or not
abbrev pub sets_address : ℕ → List ℕ → Bool
sets_address c d = c is E && d ! 0 is ADDRESS

-- E, but for "$"
unfoldable pub set_by : Settings → ℕ → List ℕ → Changed
set_by s label d =
    if label is TIME then set_time s d
    else if label is SPEAKER then set_speaker s d
    else if label is FORMAT then set_format s d
    else if label is DATE then set_date s d
    else if label is ADDRESS then set_address s d
    else if label is OFFSET then set_offset s d
    else if label is CLEAR then clear_errors s d
    else unknown s

-- E: "a known command without its label is 22"
unfoldable pub write_special : Board → List ℕ → Effect
write_special b [] = refuse 22 b
write_special b (label ∷ d) = if label is CONFIGURATION then configure b d else change b (set_by b.settings label d)

-- ""00" speaker on, "FF" off"
unfoldable pub tell_speaker : Settings → List ℕ
tell_speaker s = if s.speaker is ON then ZERO ∷ ZERO ∷ [] else F ∷ F ∷ []

-- ""#" gives POOL,pool, total and unused, four hex digits each"; request 3: the amount that the settings keep
unfoldable pub tell_pool : Board → List ℕ
tell_pool b = in_hex4 (length b.memory) ++ (COMMA ∷ in_hex4 b.settings.unused)

-- the time and the date, as they are set
unfoldable pub tell_time : Settings → List ℕ
tell_time s = in_decimal2 s.hour ++ in_decimal2 s.minute

unfoldable pub tell_date : Settings → List ℕ
tell_date s = in_decimal2 s.month ++ (in_decimal2 s.day ++ in_decimal2 s.year)

-- "F: labels 20H, "!", "'", ";", "$" and "#""; request 10: and "*"
unfoldable pub is_told : ℕ → Bool
is_told label =
    label is TIME || label is SPEAKER || label is FORMAT || label is DATE || label is CONFIGURATION || label is POOL || label is ERRORS

-- "Replies use the layouts above"; request 10, of "*": "returns one bitmapped ASCII character", the register as it is
unfoldable pub tell : Board → ℕ → List ℕ
tell b label =
    if label is TIME then tell_time b.settings
    else if label is SPEAKER then tell_speaker b.settings
    else if label is FORMAT then b.settings.format ∷ []
    else if label is DATE then tell_date b.settings
    else if label is CONFIGURATION then heads (files_on b)
    else if label is ERRORS then b.settings.errors ∷ []
    else tell_pool b

-- "This register is set to its default value .. for the following Command Codes: (1) Read Serial Error Status Register": once it is
-- told, "*" clears the register; every other label leaves the settings
unfoldable pub after_told : Settings → ℕ → Settings
after_told s label = if label is ERRORS then cleared s else s

-- F: 21 "unknown .. function label"; "without data", else 22; the write code of its reply is E
unfoldable pub read_special : Board → List ℕ → Effect
read_special b [] = refuse 22 b
read_special b (label ∷ d) =
    if not (is_told label) then refuse 21 b
    else if not (none d) then refuse 22 b
    else replied (with_settings b (after_told b.settings label)) (reply_of E label (tell b label))
