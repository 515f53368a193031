-- For contracts of inner functions only: what they need of a list and of memory. A list is given as its records, each of 11 bytes.
use Rattle.std.specs.Prelude.{ℕ, zero, suc, ◌+◌, ◌*◌, ◌≤◌, ◌≡◌, Bool, true, false, ◌&&◌, List, [], ◌∷◌, ◌++◌, length, Result, Ok, Err}
use Rattle.std.specs.List.{concat}
use Rattle.std.specs.Simd.{first_chunks}
use Rattle.octets.specs.Choice.{◌!◌}
use Rattle.octets.specs.Buffer.{zeros}
use Rattle.board.specs.Files.{unused}
use Rattle.board.specs.Index.{index_of}
use Rattle.board.specs.Soundness.{is_record}
use Rattle.board.specs.declared.Settings.{Settings}
use Rattle.effects.specs.declared.Changed.{Changed}
use Rattle.configuration.specs.declared.Kept.{Kept}
use Rattle.configuration.specs.declared.numbers.Refusal.{Refusal}
use Rattle.configuration.specs.declared.numbers.Refusal.TheVariants.{BadRecord, LabelTwice, NoRoom}
use Rattle.configuration.specs.Records.{is_records, needed, with_size, laid}
use Rattle.configuration.specs.Starting.{start_record}

-- 25 "bad record, count or length", 26 "label twice", 27 "no room"
abbrev pub number : Refusal → ℕ
number BadRecord = 25
number LabelTwice = 26
number NoRoom = 27

-- the same, 0 where a list is not refused
abbrev pub number_told : {T : Type 0} → Result T Refusal → ℕ
number_told (Ok t) = 0
number_told (Err r) = number r

-- what is answered then
abbrev pub refused : Settings → Refusal → Changed
refused s r = record { number = number r; settings = s }

-- no record at all
abbrev pub is_last : List (List ℕ) → Bool
is_last [] = true
is_last (r ∷ rs) = false

-- records of a "$" list; "SIZE 0000 is allowed only in a last TEXT record"
unfoldable pub are_records : List (List ℕ) → Bool
are_records [] = true
are_records (r ∷ rs) = is_record (is_last rs) r && are_records rs

-- their labels
unfoldable pub labels_of : List (List ℕ) → List ℕ
labels_of [] = []
labels_of (r ∷ rs) = r ! 0 ∷ labels_of rs

-- a file that the list makes: its record, and its content empty
unfoldable pub empty_file : ℕ → List ℕ → List ℕ
empty_file size r = with_size size r ++ zeros size

-- memory has room for a file
pub record Spot (m : List ℕ) (place size : ℕ) : Type 0 where
  pub inside : place + 11 + size ≤ length m
  pub small : size ≤ 32768

-- good records, for which memory has room
pub record Listed (m : List ℕ) (rs : List (List ℕ)) : Type 0 where
  pub cut : rs ≡ first_chunks 11 (length rs) (concat rs)
  pub long : length (concat rs) ≡ 11 * length rs
  pub good : is_records 64 (concat rs) ≡ true
  pub room : needed (length rs) (concat rs) ≤ length m
  pub short : length m ≤ 32768

-- the files of records are laid, and what they leave unused is answered, and where they are
pub record Laid (m : List ℕ) (rs : List (List ℕ)) (after : List ℕ) (k : Kept) : Type 0 where
  pub stored : after ≡ laid (length rs) (length m) (concat rs)
  pub left : k.unused ≡ unused (length rs) (laid (length rs) (length m) (concat rs))
  pub noted : k.places ≡ index_of (length rs) (laid (length rs) (length m) (concat rs))

-- the records of a first start, those of n labels from one on
unfoldable pub start_heads : ℕ → ℕ → List (List ℕ)
start_heads zero label = []
start_heads (suc n) label = start_record label ∷ start_heads n (suc label)
