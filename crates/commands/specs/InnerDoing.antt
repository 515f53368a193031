-- For contracts of inner functions only: what the commands need and leave. A, G, B and H neither take nor hand back the settings: what they
-- answer and leave is their effect on every sound board of that index and that memory.
use Rattle.std.specs.Prelude.{ℕ, ◌+◌, ◌≤◌, ◌≡◌, Bool, true, ◌&&◌, ◌||◌, List, [], length, Result, if◌then◌else◌}
use Rattle.std.specs.Result.{result_unwrap_or}
use Rattle.octets.specs.Choice.{◌is◌}
use Rattle.octets.specs.Bytes.{E, F}
use Rattle.body.specs.Body.{Block}
use Rattle.board.specs.Board.{Board, with_memory}
use Rattle.board.specs.Soundness.{sound}
use Rattle.effects.specs.Effects.{Effect, effect, refuse}
use Rattle.effects.specs.InnerLeaving.{number_in, left, leaving}
use Rattle.effects.specs.declared.Refusal.{Refusal}
use Rattle.commands.specs.Commands.{find_on, put_message, write_file, get_content, read_file}
use Rattle.commands.specs.Blocks.{command, do_block}

-- a message fits a content, and that content memory
pub record Room (m : List ℕ) (start size : ℕ) (message : List ℕ) : Type 0 where
  pub fits : length message ≤ size
  pub inside : start + size ≤ length m

-- a block that sets or tells settings: E or F, its sum right
unfoldable pub is_special : ℕ → Bool → Bool
is_special c right = right && (c is E || c is F)

-- a sound board of this index and this memory
pub record Indexed (p m : List ℕ) (b : Board) : Type 0 where
  pub index : b.settings.places ≡ p
  pub memory : b.memory ≡ m
  pub sound : sound b ≡ true

-- there is one
pub record OfBoard (p m : List ℕ) : Type 0 where
  pub some : Board
  pub indexed : Indexed p m some

-- the effects of commands, of a board that is named last
unfoldable pub putting : ℕ → ℕ → List ℕ → Board → Effect
putting label kind message b = put_message b (find_on b label kind) message

unfoldable pub writing : ℕ → List ℕ → Board → Effect
writing kind text b = write_file kind b text

unfoldable pub getting : ℕ → ℕ → ℕ → Board → Effect
getting code label kind b = get_content code b label (find_on b label kind)

unfoldable pub reading : ℕ → ℕ → List ℕ → Board → Effect
reading kind code text b = read_file kind code b text

-- any command but E and F, which are none of these: 21
unfoldable pub commanding : ℕ → List ℕ → Board → Effect
commanding code text b = if code is E || code is F then refuse 21 b else command b code text

-- any block but those two with a right sum
unfoldable pub filing : Block → Board → Effect
filing k b = if is_special k.command k.right then refuse 21 b else do_block b k

-- a write's answer, and memory after it
pub record Puts (p m : List ℕ) (e : Board → Effect) (r : Result (Unit {0}) Refusal) (m' : List ℕ) : Type 0 where
  pub on : (b : Board) → Indexed p m b → effect (number_in r) (with_memory b m') [] ≡ e b

-- what a command answers that may reply, and memory and reply buffer after it
pub record Files (p m o : List ℕ) (e : Board → Effect) (r : Result ℕ Refusal) (m' o' : List ℕ) : Type 0 where
  pub on : (b : Board) → Indexed p m b → left (number_in r) (with_memory b m') o' (result_unwrap_or r 0) ≡ leaving o (e b)
