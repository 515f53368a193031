-- "each is the number of blocks of that outcome": the counts of a run by the numbers of its blocks.
use Rattle.std.specs.Prelude.{ℕ, suc, ◌≡◌, List, [], ◌∷◌, if◌then◌else◌}
use Rattle.octets.specs.Choice.{◌is◌}
use Rattle.body.specs.Body.{Block}
use Rattle.board.specs.Board.{Board}
use Rattle.commands.specs.Blocks.{run_block}
use Rattle.sign.specs.declared.Tally.{Tally}

-- the number of each block, 0 where it is done
unfoldable pub block_numbers : Board → List Block → List ℕ
block_numbers b [] = []
block_numbers b (k ∷ ks) = (run_block b k).number ∷ block_numbers (run_block b k).after ks

-- how many are 0
unfoldable pub done_in : List ℕ → ℕ
done_in [] = 0
done_in (x ∷ xs) = if x is 0 then suc (done_in xs) else done_in xs

-- how many are not
unfoldable pub refused_in : List ℕ → ℕ
refused_in [] = 0
refused_in (x ∷ xs) = if x is 0 then refused_in xs else suc (refused_in xs)

-- the first that is not 0; 0 if none
unfoldable pub reason_in : List ℕ → ℕ
reason_in [] = 0
reason_in (x ∷ xs) = if x is 0 then reason_in xs else x

-- its place, from 1; 0 if none
unfoldable pub place_in : List ℕ → ℕ
place_in [] = 0
place_in (x ∷ xs) = if x is 0 then (if reason_in xs is 0 then 0 else suc (place_in xs)) else 1

-- counts of blocks with these numbers
pub record Counts (t : Tally) (ns : List ℕ) : Type 0 where
  pub done : t.done ≡ done_in ns
  pub refused : t.refused ≡ refused_in ns
  pub reason : t.reason ≡ reason_in ns
  pub place : t.place ≡ place_in ns
