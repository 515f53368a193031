-- Making a fresh board.
use Rattle.std.specs.Prelude.{ℕ, not, List, length, replicate, pos, if◌then◌else◌}
use Rattle.octets.specs.Buffer.{zeros}
use Rattle.header.specs.Addressing.{is_own_type}
use Rattle.register.specs.Register.{CLEARED}
use Rattle.board.specs.Settings.{FORMAT-S, OFF, settings}
use Rattle.board.specs.Index.{ENTRIES, no_entries}
use Rattle.board.specs.Board.{Board, board}
use Rattle.board.specs.Soundness.{is_memory}
use Rattle.board.specs.declared.Settings.{Settings}
use Rattle.sign.specs.declared.Made.{Made}

-- what the call answers and leaves: its number, and the board
pub record Making : Type 0 where
  pub number : ℕ
  pub made : Board

-- such a making
abbrev pub makes : ℕ → Board → Making
makes n b = record { number = n; made = b }

-- by an answer and memory
abbrev pub making : Made → List ℕ → Making
making r m = makes r.number (board r.settings m)

-- "settings from 10 or 11 all zero"
abbrev pub all_zero : Settings
all_zero = settings 0 0 0 0 0 0 0 0 0 0 0 (replicate ENTRIES 0) (pos 0) 0

-- "A fresh board has 00:00, 01 01 00, format S, speaker off, address 00, no files", and its own type; request 3: all of its memory,
-- so many bytes, is unused; request 7: no label has a record; request 9: "Fresh boards hold 0."; request 10: "A fresh register is a
-- cleared one."
abbrev pub fresh_settings : ℕ → ℕ → Settings
fresh_settings t n = settings 0 0 1 1 0 FORMAT-S OFF 0 t 0 n no_entries (pos 0) CLEARED

-- a fresh board: "memory all zero"; "Fresh: 10, 11": 10 "wrong type", 11 "wrong memory length", with "memory untouched"
unfoldable pub fresh : ℕ → List ℕ → Making
fresh t m =
    if not (is_own_type t) then makes 10 (board all_zero m)
    else if not (is_memory (length m)) then makes 11 (board all_zero m)
    else makes 0 (board (fresh_settings t (length m)) (zeros (length m)))
