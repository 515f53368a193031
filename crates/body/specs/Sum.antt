-- "The checksum adds every byte from STX to ETX, both counted, and drops every carry out of 16 bits."
use Rattle.std.specs.Prelude.{ℕ, ◌+◌, ◌%◌, List, [], ◌∷◌, ◌++◌}
use Rattle.octets.specs.Bytes.{STX, ETX}

-- the sum so far, and the bytes still to add
unfoldable pub sum_from : ℕ → List ℕ → ℕ
sum_from a [] = a
sum_from a (x ∷ l) = sum_from ((a + x) % 65536) l

-- a block from STX to ETX: between them its command byte and data
unfoldable pub summed : ℕ → List ℕ → List ℕ
summed c d = STX ∷ c ∷ d ++ (ETX ∷ [])

-- the checksum of a command byte and data
unfoldable pub checksum : ℕ → List ℕ → ℕ
checksum c d = sum_from 0 (summed c d)
