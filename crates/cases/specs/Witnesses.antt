-- The witnesses of "What acceptance looks at": runs that no impostor does.
use Rattle.std.specs.Prelude.{ℕ, ◌≡◌, List, [], ◌∷◌}
use Prim.Native.String.{String}
use Rattle.sign.specs.Run.{tally}
use Rattle.sheet.specs.Sheet.{Example, stores, replies, Says, on_fresh}

-- what a run is seen by
pub data Witness : Type 0 where
  counts : ℕ → List String → ℕ → ℕ → ℕ → ℕ → Witness  -- memory, frames; done, refused, place and number of the first refused in the last, which has no reply
  example : Example → Witness

abbrev pub Shows : Witness → Type 0
Shows (counts n fs d r p f) = (on_fresh n fs).tally ≡ tally d r p f 0
Shows (example e) = Says e

-- TEXT A of ten bytes
abbrev pub TEXT-A : String
TEXT-A = "_01Z00_02E$AAU000AFF00_04"

-- Table 34's frame
abbrev pub HELLO : String
HELLO = "\0\0\0\0\0\u{1}Z00\u{2}AAHELLO\u{4}"

unfoldable pub witnesses : List Witness
witnesses =
    -- the HELLO write is done, and HELLO stands there, zeros after it: shut out is a run that refuses all or does nothing
    counts 64 (TEXT-A ∷ HELLO ∷ []) 1 0 0 0
    ∷ example (stores 64 (TEXT-A ∷ HELLO ∷ []) "AAU000AFF00HELLO\0\0\0\0\0")
    -- two contents, two replies: shut out is one fixed reply
    ∷ example (replies 64 (TEXT-A ∷ HELLO ∷ "_01Z00_02BA_04" ∷ [])
    "\0\0\0\0\0\0\0\0\0\0\0\0\0\0\0\0\0\0\0\0\u{1}000\u{2}AAHELLO\u{3}01FB\u{4}")
    ∷ example (replies 64 (TEXT-A ∷ "_01Z00_02AAFULL_04" ∷ "_01Z00_02BA_04" ∷ [])
    "\0\0\0\0\0\0\0\0\0\0\0\0\0\0\0\0\0\0\0\0\u{1}000\u{2}AAFULL\u{3}01BA\u{4}")
    -- the second block acts: shut out is a run that runs the first block and only counts the rest
    ∷ counts 64 ("_01Z00_02E$AAU000AFF00_03_02AAHELLO_04" ∷ []) 2 0 0 0
    ∷ example (stores 64 ("_01Z00_02E$AAU000AFF00_03_02AAHELLO_04" ∷ []) "AAU000AFF00HELLO\0\0\0\0\0")
    -- one block done, one refused: shut out are invented counts
    ∷ counts 64 (TEXT-A ∷ "_01Z00_02ABHELLO_03_02AAHELLO_04" ∷ []) 1 1 1 23
    -- "Sum 01FC for HELLO: 20, TEXT unchanged, next block runs."
    ∷ counts 64 (TEXT-A ∷ "_01Z00_02AAFULL_04" ∷ "_01Z00_02AAHELLO_0301FC_02E'M_04" ∷ []) 1 1 1 20
    ∷ example (stores 64 (TEXT-A ∷ "_01Z00_02AAFULL_04" ∷ "_01Z00_02AAHELLO_0301FC_02E'M_04" ∷ []) "AAU000AFF00FULL\0\0\0\0\0\0")
    ∷ example (replies 64 (TEXT-A ∷ "_01Z00_02AAHELLO_0301FC_02E'M_03_02F'_04" ∷ [])
    "\0\0\0\0\0\0\0\0\0\0\0\0\0\0\0\0\0\0\0\0\u{1}000\u{2}E'M\u{3}00BE\u{4}")
    ∷ []
