-- For contracts of inner functions only: the blocks of a body that is known to be good, taken one by one with their sums.
use Rattle.std.specs.Prelude.{ℕ, ◌+◌, ◌||◌, List, length, if◌then◌else◌}
use Rattle.octets.specs.Choice.{◌is◌, ◌isn't◌, ◌!◌}
use Rattle.octets.specs.Bytes.{STX, ETX, EOT}
use Rattle.body.specs.Sum.{checksum}
use Rattle.body.specs.InnerWalking.{left}
use Rattle.body.specs.declared.taking.Taken.{Taken}

-- command byte, where the data end, the checksum of both, and where what stands behind the block starts
abbrev pub taken_as : ℕ → ℕ → ℕ → ℕ → Taken
taken_as c j v n = record { command = c; to = j; sum = v; next = n }

-- what stands behind a block whose data end at a place: behind ETX and four digits, behind ETX, or there
unfoldable pub behind_data : List ℕ → ℕ → ℕ
behind_data s to =
    if s ! to isn't ETX then to
    else if s ! (to + 1) is STX || s ! (to + 1) is EOT then to + 1
    else to + 5

-- the block whose STX stands at a place
unfoldable pub taken_at : List ℕ → ℕ → Taken
taken_at s at =
    let d : List ℕ = left s (at + 2) in
    taken_as (s ! (at + 1)) (at + 2 + length d) (checksum (s ! (at + 1)) d) (behind_data s (at + 2 + length d))
