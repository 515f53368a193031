-- Request 7: "Keep, for each label 20H to 7EH, where its record begins or that there is none, and answer from that."
use Rattle.std.specs.Prelude.{ℕ, zero, suc, ◌+◌, ◌-◌, Bool, true, ◌&&◌, ◌||◌, List, [], ◌∷◌, length, drop, set, replicate, Option, Some, None, if◌then◌else◌}
use Rattle.octets.specs.Choice.{◌is◌, between, ◌!◌, among}
use Rattle.board.specs.Files.{File, taken, files_of, labels, content}
use Rattle.board.specs.declared.Content.{Content}

-- "label 20H to 7EH"
abbrev pub FIRST-LABEL : ℕ
FIRST-LABEL = 0x20

abbrev pub LAST-LABEL : ℕ
LAST-LABEL = 0x7E

-- as many entries as there are labels
abbrev pub ENTRIES : ℕ
ENTRIES = 95

-- "that there is none"
abbrev pub NOWHERE : ℕ
NOWHERE = 0xFFFF

-- the entry of a label in an index; a byte that is no label has none
unfoldable pub entry : List ℕ → ℕ → ℕ
entry p label = if between FIRST-LABEL LAST-LABEL label then p ! (label - FIRST-LABEL) else NOWHERE

-- "where its record begins": of files that are laid out from a place on, the entry of each one's label is its own place
unfoldable pub names_each : List ℕ → List File → ℕ → Bool
names_each p [] place = true
names_each p (f ∷ fs) place = entry p (f.head ! 0) is place && names_each p fs (place + 11 + length f.body)

-- "or that there is none": of n labels from one on, the entry of each that no file has
unfoldable pub names_no_other : List ℕ → List ℕ → ℕ → ℕ → Bool
names_no_other p named label zero = true
names_no_other p named label (suc n) = (among label named || entry p label is NOWHERE) && names_no_other p named (suc label) n

-- an index that is true of files
unfoldable pub is_index : List ℕ → List File → Bool
is_index p fs = names_each p fs 0 && names_no_other p (labels fs) FIRST-LABEL ENTRIES

-- no label has a record
abbrev pub no_entries : List ℕ
no_entries = replicate ENTRIES NOWHERE

-- an index with the places of files that are laid out from a place on
unfoldable pub entered : List File → ℕ → List ℕ → List ℕ
entered [] place p = p
entered (f ∷ fs) place p = entered fs (place + 11 + length f.body) (set p (f.head ! 0 - FIRST-LABEL) place)

-- the index of n files of memory
unfoldable pub index_of : ℕ → List ℕ → List ℕ
index_of n m = entered (files_of n m) 0 no_entries

-- the file at a place, where it is of a type
unfoldable pub of_type : List ℕ → ℕ → ℕ → Option Content
of_type m place kind = if m ! (place + 1) is kind then Some (content (place + 11) (taken (drop place m))) else None

-- "answer from that": the file of a label and type, by the entry of the label and then the type at that place
unfoldable pub look_up : List ℕ → List ℕ → ℕ → ℕ → Option Content
look_up p m label kind = if entry p label is NOWHERE then None else of_type m (entry p label) kind
