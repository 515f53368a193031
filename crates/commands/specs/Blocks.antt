-- One block on a board: the command by its byte, the sum before it.
use Rattle.std.specs.Prelude.{ℕ, not, List, if◌then◌else◌}
use Rattle.octets.specs.Choice.{◌is◌}
use Rattle.octets.specs.Bytes.{A, B, E, F, G, H}
use Rattle.body.specs.Body.{Block}
use Rattle.board.specs.Files.{TEXT, STRING}
use Rattle.board.specs.Board.{Board}
use Rattle.effects.specs.Effects.{Effect, refuse}
use Rattle.effects.specs.Recording.{recorded}
use Rattle.commands.specs.Commands.{write_file, read_file}
use Rattle.special.specs.Special.{write_special, read_special}

-- "What each command does", by its byte; the reply to B is written with A, that to H with G; 21 "unknown command byte"
unfoldable pub command : Board → ℕ → List ℕ → Effect
command b c d =
    if c is A then write_file TEXT b d
    else if c is G then write_file STRING b d
    else if c is B then read_file TEXT A b d
    else if c is H then read_file STRING G b d
    else if c is E then write_special b d
    else if c is F then read_special b d
    else refuse 21 b

-- 20 "wrong checksum"
unfoldable pub do_block : Board → Block → Effect
do_block b k = if not k.right then refuse 20 b else command b k.command k.text

-- request 10: with its number noted in the register
unfoldable pub run_block : Board → Block → Effect
run_block b k = recorded (do_block b k)
