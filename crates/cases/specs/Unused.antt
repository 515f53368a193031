-- Request 3, "Unused memory on every status page.": boards that keep a wrong amount, each beside the right one.
use Rattle.std.specs.Prelude.{ℕ, List, [], ◌∷◌, ◌++◌}
use Prim.Native.String.{String}
use Rattle.board.specs.Settings.{with_files}
use Rattle.board.specs.Board.{with_settings}
use Rattle.effects.specs.Reply.{reply_room}
use Rattle.sign.specs.Run.{Outcome}
use Rattle.sheet.specs.Sheet.{on_fresh}
use Rattle.cases.specs.Numbers.{Call, running, Row, row, E'S}

-- a frame on the board that a run left, but with this amount
abbrev pub keeping : Outcome → ℕ → Call
keeping x u =
    let s = x.after.settings in
    running (with_settings x.after (with_files s s.files u s.places)) (reply_room x.after.memory) E'S

-- a fresh board of so much memory after frames: amounts that are wrong on it, and the one that is right
unfoldable pub wrong_on : ℕ → List String → List ℕ → ℕ → List Row
wrong_on m fs [] right = []
wrong_on m fs (u ∷ us) right = row 1 (keeping (on_fresh m fs) u) (keeping (on_fresh m fs) right) ∷ wrong_on m fs us right

-- "Refusals: 1 when the stored amount is wrong.": by one, by a record's 11, by much
unfoldable pub unused_table : List Row
unused_table =
    -- no files
    wrong_on 64 [] (63 ∷ 65 ∷ 53 ∷ 75 ∷ 0 ∷ 65535 ∷ []) 64
    -- "0200,01D2": 512 less 11 and 16, less 11 and 8
    ++ wrong_on 512 ("_01Z00_02E$AAU0010FF00SBL00080000_04" ∷ []) (465 ∷ 467 ∷ 455 ∷ 477 ∷ 488 ∷ 0 ∷ 512 ∷ []) 466
    -- a last TEXT that takes what remains, and a message in it
    ++ wrong_on 64 ("_01Z00_02E$AAU0000FF00_03_02AAHELLO_04" ∷ []) (1 ∷ 11 ∷ 53 ∷ 64 ∷ []) 0
