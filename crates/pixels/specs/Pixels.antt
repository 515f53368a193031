-- Request 2: "Its pixels go into a second lent store .., four bits each, most significant first".
use Rattle.std.specs.Prelude.{ℕ, ◌+◌, ◌*◌, ◌/◌, ◌%◌, Bool, ◌&&◌, List, [], ◌∷◌, drop}
use Rattle.octets.specs.Choice.{all, ◌≤?◌}
use Rattle.octets.specs.Bytes.{is_nul}

-- the pixels that bytes of the store hold: "four bits each, most significant first"
unfoldable pub pixels_of : List ℕ → List ℕ
pixels_of [] = []
pixels_of (x ∷ s) = x / 16 ∷ x % 16 ∷ pixels_of s

-- the bytes that hold pixels, "rows one after another": where their number is odd the last half is spare, and "spare bits .. are zero"
unfoldable pub bytes_of : List ℕ → List ℕ
bytes_of [] = []
bytes_of (p ∷ []) = p * 16 ∷ []
bytes_of (p ∷ q ∷ ps) = (p * 16 + q) ∷ bytes_of ps

-- how many bytes n pixels take, "each picture starting on a byte"
abbrev pub bytes_for : ℕ → ℕ
bytes_for n = (n + 1) / 2

-- "pixel characters "0" to "8"", each stored as its number
unfoldable pub is_shade : ℕ → Bool
is_shade p = p ≤? 8

-- the bytes of a picture of n pixels are as described: "spare bits .. are zero"
unfoldable pub sound_picture : ℕ → List ℕ → Bool
sound_picture n s = all is_shade (pixels_of s) && all is_nul (drop n (pixels_of s))
