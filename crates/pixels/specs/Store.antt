-- The pictures' store: "each picture starting on a byte and laid in table order; spare bits and bytes after the last picture are zero".
-- ns has the number of pixels of each file, in table order: of a picture its rows times its columns, of any other file 0.
use Rattle.std.specs.Prelude.{ℕ, zero, suc, ◌+◌, Bool, ◌&&◌, List, [], ◌∷◌, length, take, drop}
use Rattle.octets.specs.Choice.{◌≤?◌, all}
use Rattle.octets.specs.Bytes.{is_nul}
use Rattle.pixels.specs.Pixels.{bytes_for, sound_picture}

-- the store is as described
unfoldable pub sound_store : List ℕ → List ℕ → Bool
sound_store [] t = all is_nul t
sound_store (n ∷ ns) t = bytes_for n ≤? length t && (sound_picture n (take (bytes_for n) t) && sound_store ns (drop (bytes_for n) t))

-- the bytes that all of them take
unfoldable pub total : List ℕ → ℕ
total [] = 0
total (n ∷ ns) = bytes_for n + total ns

-- where the bytes of file k stand: behind those of the files before it
unfoldable pub place_of : List ℕ → ℕ → ℕ
place_of ns zero = 0
place_of [] (suc k) = 0
place_of (n ∷ ns) (suc k) = bytes_for n + place_of ns k
