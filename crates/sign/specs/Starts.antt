-- Request 11: what a frame of type "z" leaves of its files, whatever becomes of its blocks.
use Rattle.std.specs.Prelude.{ℕ, ◌≡◌, Bool, true, not, ◌&&◌, List, [], ◌∷◌}
use Rattle.octets.specs.Choice.{◌is◌}
use Rattle.body.specs.Body.{Block}
use Rattle.board.specs.Files.{heads}
use Rattle.board.specs.Board.{Board, files_on}
use Rattle.board.specs.Soundness.{sound}
use Rattle.configuration.specs.Starting.{start_list}
use Rattle.keeping.specs.Keeping.{configures}

-- none of these blocks, of these numbers, is an E "$" that is done
unfoldable pub replaces_none : List Block → List ℕ → Bool
replaces_none [] ns = true
replaces_none (k ∷ ks) [] = true
replaces_none (k ∷ ks) (n ∷ ns) = not (n is 0 && configures k.command k.text) && replaces_none ks ns

-- "files A to Z of 150 bytes each, TEXT, unlocked, always shown": all 26, in order, and no other
pub record FirstFiles (b : Board) : Type 0 where
  pub count : b.settings.files ≡ 26
  pub records : heads (files_on b) ≡ start_list
  pub sound : sound b ≡ true
