-- A board is one value: its settings and its memory. What is said of boards is said of that value.
use Rattle.std.specs.Prelude.{ℕ, List}
use Rattle.board.specs.Files.{File, files_of}
use Rattle.board.specs.declared.Settings.{Settings}

pub record Board : Type 0 where
  pub settings : Settings
  pub memory : List ℕ

-- such a board
abbrev pub board : Settings → List ℕ → Board
board s m = record { settings = s; memory = m }

-- with other settings; with another memory
abbrev pub with_settings : Board → Settings → Board
with_settings b s = board s b.memory

abbrev pub with_memory : Board → List ℕ → Board
with_memory b m = board b.settings m

-- its files, as many as the settings have
abbrev pub files_on : Board → List File
files_on b = files_of b.settings.files b.memory
