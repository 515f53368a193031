-- For contracts of inner functions only: files, with the unused amount and the index that the settings keep of them.
use Rattle.std.specs.Prelude.{ℕ, ◌+◌, ◌≤◌, ◌≡◌, Bool, ◌&&◌, List, length, Option, Some, None, if◌then◌else◌}
use Rattle.octets.specs.Choice.{◌is◌, ◌isn't◌}
use Rattle.octets.specs.InnerCounts.{count}
use Rattle.board.specs.Files.{size_of, taken, files_of, unused}
use Rattle.board.specs.Index.{NOWHERE, entry, names_each, is_index}
use Rattle.board.specs.Soundness.{is_size, is_record, is_file_at, holds_files, sound_memory}

-- the SIZE of the record at the start of r, or that it is none
unfoldable pub size_or_none : Bool → List ℕ → Option ℕ
size_or_none zero_too r = if is_size zero_too r then Some (size_of r) else None

-- the same, or that the record is none
unfoldable pub record_or_none : Bool → List ℕ → Option ℕ
record_or_none zero_too r = if is_record zero_too r then Some (size_of r) else None

-- how many bytes the file at the start of r takes, or that there is none
unfoldable pub length_at : List ℕ → Option ℕ
length_at r = if is_file_at r then Some (11 + taken r) else None

-- an entry that is a place
unfoldable pub is_place : ℕ → Bool
is_place x = x isn't NOWHERE

-- how many labels have one
abbrev pub entries : List ℕ → ℕ
entries p = count is_place p

-- memory holds n files as it has to, u bytes are unused, and p has the place of each file
unfoldable pub holds_noted : ℕ → ℕ → List ℕ → List ℕ → Bool
holds_noted n u p m = holds_files n m && (names_each p (files_of n m) 0 && u is unused n m)

-- it is sound with n files, u bytes are unused, and p is the index
unfoldable pub sound_noted : ℕ → ℕ → List ℕ → List ℕ → Bool
sound_noted n u p m = sound_memory n m && (u is unused n m && is_index p (files_of n m))

-- where a label has an entry, a record is inside memory there
pub record Within (p m : List ℕ) (label : ℕ) : Type 0 where
  pub inside : (entry p label ≡ NOWHERE → ⊥) → entry p label + 11 ≤ length m
