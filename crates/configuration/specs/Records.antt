-- The "$" list: "a list of 0 to 64 records", and the files that it makes. The list is in capitals (Capitals), so its records are
-- tested as memory's are (Soundness).
use Rattle.std.specs.Prelude.{ℕ, zero, suc, ◌+◌, ◌-◌, ◌/◌, Bool, not, ◌&&◌, ◌||◌, List, [], ◌∷◌, ◌++◌, length, take, drop, if◌then◌else◌}
use Rattle.octets.specs.Choice.{◌is◌, ◌≤?◌, ◌<?◌, ◌!◌, none}
use Rattle.octets.specs.Hex.{in_hex4}
use Rattle.octets.specs.Buffer.{zeros}
use Rattle.board.specs.Files.{FILES, size_of, distinct}
use Rattle.board.specs.Soundness.{is_record}

-- 0 to n records; "SIZE 0000 is allowed only in a last TEXT record"
unfoldable pub is_records : ℕ → List ℕ → Bool
is_records zero l = none l
is_records (suc n) l = none l || (11 ≤? length l && (is_record (length l is 11) l && is_records n (drop 11 l)))

-- how many records
abbrev pub records_in : List ℕ → ℕ
records_in l = length l / 11

-- the labels of n records
unfoldable pub labels_in : ℕ → List ℕ → List ℕ
labels_in zero l = []
labels_in (suc n) l = l ! 0 ∷ labels_in n (drop 11 l)

-- what a record takes: "Sizes plus 11 for each"; SIZE 0000 "at least 1"
unfoldable pub needed_by : List ℕ → ℕ
needed_by l = 11 + (if size_of l is 0 then 1 else size_of l)

-- what n records take
unfoldable pub needed : ℕ → List ℕ → ℕ
needed zero l = 0
needed (suc n) l = needed_by l + needed n (drop 11 l)

-- why a list is refused in so much room: 25 "bad record, count or length", 26 "label twice", 27 "no room"; 0 where it is not
unfoldable pub refusal : List ℕ → ℕ → ℕ
refusal l room =
    if not (is_records FILES l) then 25
    else if not (distinct (labels_in (records_in l) l)) then 26
    else if room <? needed (records_in l) l then 27
    else 0

-- the size that a record gets: 0000 "takes what remains after its own 11 bytes"
unfoldable pub size_in : ℕ → List ℕ → ℕ
size_in room l = if size_of l is 0 then room - 11 else size_of l

-- "the record is stored with that size"
unfoldable pub with_size : ℕ → List ℕ → List ℕ
with_size size r = take 3 r ++ (in_hex4 size ++ take 4 (drop 7 r))

-- n files with empty contents in so much room; "Unused memory stays unused."
unfoldable pub laid : ℕ → ℕ → List ℕ → List ℕ
laid zero room l = zeros room
laid (suc n) room l = with_size (size_in room l) l ++ (zeros (size_in room l) ++ laid n (room - (11 + size_in room l)) (drop 11 l))
