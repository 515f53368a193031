-- What a command leaves.
use Rattle.std.specs.Prelude.{ℕ, List, []}
use Rattle.board.specs.Board.{Board, with_settings}
use Rattle.effects.specs.declared.Changed.{Changed}

-- the number of a command, 0 or 20 to 27, the board after it, and its reply, empty where there is none
pub record Effect : Type 0 where
  pub number : ℕ
  pub after : Board
  pub reply : List ℕ

-- such an effect
abbrev pub effect : ℕ → Board → List ℕ → Effect
effect n b r = record { number = n; after = b; reply = r }

-- done, without a reply
abbrev pub done : Board → Effect
done b = effect 0 b []

-- done, with a reply
abbrev pub replied : Board → List ℕ → Effect
replied b r = effect 0 b r

-- refused, the board as it was (what is then noted of it: Recording)
abbrev pub refuse : ℕ → Board → Effect
refuse n b = effect n b []

-- by what a command that gives no reply answers, its number and the settings after it
abbrev pub change : Board → Changed → Effect
change b c = effect c.number (with_settings b c.settings) []
