-- What every command keeps: a sound board sound, every byte of a file that it does not name, and where it is refused the board, but for
-- the serial error status register.
use Rattle.std.specs.Prelude.{ℕ, ◌≤◌, ◌≡◌, List, [], Bool, true, false, ◌&&◌, ◌||◌, length, get_or, if◌then◌else◌}
use Rattle.octets.specs.Choice.{◌is◌, ◌!◌, all}
use Rattle.octets.specs.Bytes.{A, E, F, G, is_plain}
use Rattle.body.specs.Body.{is_read}
use Rattle.register.specs.Register.{CLEARED}
use Rattle.board.specs.Settings.{cleared}
use Rattle.board.specs.Files.{File, heads}
use Rattle.board.specs.Board.{Board, with_settings, files_on}
use Rattle.board.specs.Soundness.{holds_files, sound}
use Rattle.effects.specs.Reply.{reply_room}
use Rattle.effects.specs.Effects.{Effect}
use Rattle.effects.specs.Recording.{with_fault}
use Rattle.special.specs.Special.{CONFIGURATION, CLEAR, ERRORS, sets_address}

-- the file at place k, counted from 0; a file that is missing counts as one without bytes
abbrev pub file_in : List File → ℕ → File
file_in fs k = get_or fs k (record { head = []; body = [] })

-- a command with these data replaces all files: E "$"
abbrev pub configures : ℕ → List ℕ → Bool
configures c d = c is E && d ! 0 is CONFIGURATION

-- it may write to memory: E "$", A, G
abbrev pub writes : ℕ → List ℕ → Bool
writes c d = configures c d || c is A || c is G

-- it clears the register, where it is done: E "4", F "*"
abbrev pub clears : ℕ → List ℕ → Bool
clears c d = if c is E then d ! 0 is CLEAR else c is F && d ! 0 is ERRORS

-- what an effect of a command with these data keeps
pub record Keeps (b : Board) (c : ℕ) (d : List ℕ) (e : Effect) : Type 0 where
  -- own type and memory's length stay, and a sound board stays sound
  pub own : e.after.settings.own ≡ b.settings.own
  pub long : length e.after.memory ≡ length b.memory
  pub sound : all is_plain d ≡ true → sound b ≡ true → sound e.after ≡ true
  -- the address, the number of files and memory stay where the command is not one that sets them
  pub address : sets_address c d ≡ false → e.after.settings.address ≡ b.settings.address
  pub files : configures c d ≡ false → e.after.settings.files ≡ b.settings.files
  pub memory : writes c d ≡ false → e.after.memory ≡ b.memory
  -- a file of another label keeps every byte, of its record and of its content
  pub others : configures c d ≡ false → all is_plain d ≡ true → holds_files b.settings.files b.memory ≡ true →
      (k : ℕ) → ((file_in (files_on b) k).head ! 0 ≡ d ! 0 → ⊥) → file_in (files_on e.after) k ≡ file_in (files_on b) k
  -- and no command but "$" changes a record
  pub records : configures c d ≡ false → all is_plain d ≡ true → holds_files b.settings.files b.memory ≡ true →
      heads (files_on e.after) ≡ heads (files_on b)
  -- refused: no reply, and the board as it was but for the register, which is the old one with the bit of that number
  pub refused : (e.number ≡ 0 → ⊥) → (e.after ≡ with_settings b (with_fault b.settings e.number)) × (e.reply ≡ [])
  -- done: the register as it was, unless the command clears it: "a bit stays until cleared"
  pub errors : e.number ≡ 0 → e.after.settings.errors ≡ (if clears c d then CLEARED else b.settings.errors)
  -- a read that is done leaves the board as it was; "*" clears the register, and that is all that a read may change
  pub read : is_read c ≡ true → e.number ≡ 0 → e.after ≡ with_settings b (if clears c d then cleared b.settings else b.settings)
  -- only a read replies, and its reply has room in the shortest reply buffer
  pub quiet : is_read c ≡ false → e.reply ≡ []
  pub fits : length e.reply ≤ reply_room b.memory
