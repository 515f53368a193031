-- "E "$": a list of 0 to 64 records replaces all files, contents empty."
use Rattle.std.specs.Prelude.{ℕ, List, length, if◌then◌else◌}
use Rattle.octets.specs.Choice.{◌is◌}
use Rattle.board.specs.Settings.{with_files}
use Rattle.board.specs.Files.{unused}
use Rattle.board.specs.Index.{index_of}
use Rattle.board.specs.Board.{Board, with_settings, with_memory}
use Rattle.effects.specs.Effects.{Effect, done, refuse}
use Rattle.configuration.specs.Capitals.{list_capitals}
use Rattle.configuration.specs.Records.{records_in, refusal, laid}

-- a board with the files of a list, in capitals, in place of its own; request 3, of the unused amount: "keep it true through ..
-- configurations"; request 7, of the index: ""$" keeps it true"
unfoldable pub replaced : Board → List ℕ → Board
replaced b l =
    let n : ℕ = records_in l in
    let m : List ℕ = laid n (length b.memory) l in
    with_memory (with_settings b (with_files b.settings n (unused n m) (index_of n m))) m

-- 25 to 27, or the files of the list
unfoldable pub replace : Board → List ℕ → Effect
replace b l = let n : ℕ = refusal l (length b.memory) in if n is 0 then done (replaced b l) else refuse n b

-- a list as it is sent
unfoldable pub configure : Board → List ℕ → Effect
configure b d = replace b (list_capitals d)
