-- Texts and what they mean, by computing, each beside a neighbour that means something else; and pictures told.
use Prim.Native.Nat.{ℕ}
use mathlib.Core.Path.{◌≡◌, refl}
use mathlib.Core.List.{List, [], ◌∷◌}
use Rattle.octets.specs.Choice.{front, behind, all}
use Rattle.octets.specs.Hex.{digit, in_hex4}
use Rattle.rows.specs.Rows.{without_feeds, not_end, row_text, next_text, is_pixel, well_formed, row, drawn, malformed, picture, meaning}
use Rattle.rows.specs.Told.{characters, told_rows, told}

data Example : Type 0 where
  means : ℕ → ℕ → List ℕ → List ℕ → Example
  bad : ℕ → ℕ → List ℕ → Example
  tells : ℕ → ℕ → List ℕ → List ℕ → Example
  replies : ℕ → List ℕ → List ℕ → Example

abbrev Says : Example → Type 0
Says (means h w text ps) = meaning h w text ≡ picture ps
Says (bad h w text) = meaning h w text ≡ malformed
Says (tells h w ps text) = told_rows h w ps ≡ text
Says (replies size ps text) = told size ps ≡ text

abbrev All : List Example → Type 0
All [] = Unit {0}
All (e ∷ es) = Says e × All es

abbrev table : List Example
table =
    -- every row, with a CR after each
    means 2 3 (0x31 ∷ 0x32 ∷ 0x33 ∷ 0x0D ∷ 0x34 ∷ 0x35 ∷ 0x36 ∷ 0x0D ∷ []) (1 ∷ 2 ∷ 3 ∷ 4 ∷ 5 ∷ 6 ∷ [])
    -- the last CR may be absent
    ∷ means 2 3 (0x31 ∷ 0x32 ∷ 0x33 ∷ 0x0D ∷ 0x34 ∷ 0x35 ∷ 0x36 ∷ []) (1 ∷ 2 ∷ 3 ∷ 4 ∷ 5 ∷ 6 ∷ [])
    -- short rows filled
    ∷ means 2 3 (0x31 ∷ 0x32 ∷ 0x0D ∷ 0x0D ∷ []) (1 ∷ 2 ∷ 0 ∷ 0 ∷ 0 ∷ 0 ∷ [])
    -- extra pixel characters ignored
    ∷ means 2 3 (0x31 ∷ 0x32 ∷ 0x33 ∷ 0x38 ∷ 0x38 ∷ 0x38 ∷ 0x38 ∷ 0x0D ∷ 0x34 ∷ 0x35 ∷ 0x36 ∷ []) (1 ∷ 2 ∷ 3 ∷ 4 ∷ 5 ∷ 6 ∷ [])
    -- but they are pixel characters
    ∷ bad 2 3 (0x31 ∷ 0x32 ∷ 0x33 ∷ 0x39 ∷ 0x0D ∷ 0x34 ∷ 0x35 ∷ 0x36 ∷ [])
    -- missing rows are off
    ∷ means 3 2 (0x37 ∷ 0x38 ∷ 0x0D ∷ []) (7 ∷ 8 ∷ 0 ∷ 0 ∷ 0 ∷ 0 ∷ [])
    -- no row at all
    ∷ means 2 2 ([]) (0 ∷ 0 ∷ 0 ∷ 0 ∷ [])
    -- line feeds dropped, within a row too, and past the last CR
    ∷ means 2 3 (0x31 ∷ 0x0A ∷ 0x32 ∷ 0x33 ∷ 0x0D ∷ 0x0A ∷ 0x34 ∷ 0x35 ∷ 0x36 ∷ 0x0D ∷ 0x0A ∷ 0x0A ∷ []) (1 ∷ 2 ∷ 3 ∷ 4 ∷ 5 ∷ 6 ∷ [])
    -- any but line feeds past the last CR: a pixel
    ∷ bad 2 3 (0x31 ∷ 0x32 ∷ 0x33 ∷ 0x0D ∷ 0x34 ∷ 0x35 ∷ 0x36 ∷ 0x0D ∷ 0x30 ∷ [])
    -- and a CR
    ∷ bad 2 3 (0x31 ∷ 0x32 ∷ 0x33 ∷ 0x0D ∷ 0x34 ∷ 0x35 ∷ 0x36 ∷ 0x0D ∷ 0x0D ∷ [])
    -- other bytes: "9"
    ∷ bad 1 2 (0x31 ∷ 0x39 ∷ [])
    -- "/"
    ∷ bad 1 2 (0x2F ∷ 0x31 ∷ [])
    -- a space
    ∷ bad 1 2 (0x31 ∷ 0x20 ∷ [])
    -- 00H
    ∷ bad 1 2 (0x31 ∷ 0x00 ∷ [])
    -- two rows of three told
    ∷ tells 2 3 (1 ∷ 2 ∷ 3 ∷ 4 ∷ 5 ∷ 0 ∷ []) (0x31 ∷ 0x32 ∷ 0x33 ∷ 0x0D ∷ 0x34 ∷ 0x35 ∷ 0x30 ∷ 0x0D ∷ [])
    -- the same pixels as three rows of two
    ∷ tells 3 2 (1 ∷ 2 ∷ 3 ∷ 4 ∷ 5 ∷ 0 ∷ []) (0x31 ∷ 0x32 ∷ 0x0D ∷ 0x33 ∷ 0x34 ∷ 0x0D ∷ 0x35 ∷ 0x30 ∷ 0x0D ∷ [])
    -- an odd picture: the spare half is not told
    ∷ tells 1 3 (8 ∷ 0 ∷ 7 ∷ 0 ∷ []) (0x38 ∷ 0x30 ∷ 0x37 ∷ 0x0D ∷ [])
    -- with its height and width, as SIZE has them
    ∷ replies 0x0103 (8 ∷ 0 ∷ 7 ∷ 0 ∷ []) (0x30 ∷ 0x31 ∷ 0x30 ∷ 0x33 ∷ 0x38 ∷ 0x30 ∷ 0x37 ∷ 0x0D ∷ [])
    -- rows first, then columns
    ∷ replies 0x0301 (8 ∷ 0 ∷ 7 ∷ 0 ∷ []) (0x30 ∷ 0x33 ∷ 0x30 ∷ 0x31 ∷ 0x38 ∷ 0x0D ∷ 0x30 ∷ 0x0D ∷ 0x37 ∷ 0x0D ∷ [])
    ∷ []

examples : All table
unfolding meaning without_feeds well_formed drawn row row_text next_text is_pixel front behind all not_end told_rows characters told in_hex4 digit
examples = (refl, (refl, (refl, (refl, (refl, (refl, (refl, (refl, (refl, (refl, (refl, (refl, (refl, (refl, (refl, (refl, (refl, (refl, (refl, tt)))))))))))))))))))
