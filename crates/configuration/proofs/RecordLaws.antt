-- "$": the files that a list of records makes are as they have to be, so that the new memory is sound.
use Prim.Native.Nat.{ℕ, zero, suc, ◌+◌, ◌-◌, ◌*◌, ◌≤◌, ◌<◌}
use mathlib.Core.Path.{◌≡◌, refl, sym, ap, ap₂, ◌∙◌}
use mathlib.Core.List.{List, [], ◌∷◌, ◌++◌}
use mathlib.Core.Bool.{Bool, true, false}
use native.Mathlib.Omega.{arith}
use lib.ListN.{length, take, drop, set, length-append, length-drop}
use borrow.Author.Tests.{le-leb, leb-true, eqb-true, eqb-false}
use Rattle.octets.specs.Choice.{◌is◌, ◌≤?◌, ◌!◌}
use Rattle.octets.specs.Hex.{is_hex4, hex4, in_hex4}
use Rattle.octets.specs.Buffer.{zeros}
use Rattle.octets.proofs.Tests.{by-test, never, and_none, split}
use Rattle.octets.proofs.Digits.{is_hex4-in_hex4, hex4-in_hex4}
use Rattle.octets.proofs.Buffers.{eleven, length-zeros}
use Rattle.board.specs.Files.{FILES, File, size_of, files_of, unused, labels, distinct}
use Rattle.board.specs.Index.{FIRST-LABEL, is_index, no_entries, entered, index_of}
use Rattle.board.specs.Kinds.{Kind, text, string, neither, kind_of, is_size_of}
use Rattle.board.specs.Soundness.{is_label, is_protection, is_size, is_codes, is_record}
use Rattle.board.specs.Soundness.{holds_files, is_memory, sound_memory}
use Rattle.board.proofs.Layouts.{layout, AllValid, four-codes, parse, layout-unused, holds, valid}
use Rattle.board.proofs.Contents.{zeros-nul, zeros-content}
use Rattle.board.proofs.Checks.{taken-size}
use Rattle.board.proofs.SoundParts.{memory-most, whole}
use Rattle.board.proofs.Indexing.{index-true}
use Rattle.configuration.specs.Records.{is_records, records_in, labels_in, needed, needed_by, size_in, with_size, laid}

-- ---- n records, as they have to be

abbrev pub Records : ℕ → List ℕ → Type 0
Records zero d = length d ≡ 0
Records (suc n) d = (11 ≤ length d) × (is_record (length d is 11) d ≡ true) × Records n (drop 11 d)

pub records-of : (n : ℕ) (d : List ℕ) → is_records n d ≡ true → (records_in d ≤ n) × Records (records_in d) d
unfolding is_records
records-of zero [] e = (omega arith, refl)
records-of zero (x ∷ l) e = never (sym e)
records-of (suc n) [] e = (omega arith, refl)
records-of (suc n) (x ∷ l) e =
    let d = x ∷ l in
    let a = split (11 ≤? length d) e in
    let b = split (is_record (length d is 11) d) a.1 in
    let h : 11 ≤ length d = leb-true 11 (length d) a.0 in
    let r = records-of n (drop 11 d) b.1 in
    let z : suc (records_in (drop 11 d)) ≡ records_in d = rw (length-drop 11 d) (omega arith) in
    (omega arith, rw (← z) (h, b.0, r.1))

-- a longer list is none
pub records-most : (n : ℕ) (d : List ℕ) → 11 * n < length d → is_records n d ≡ false
unfolding is_records
records-most zero [] h = absurd (omega arith)
records-most zero (x ∷ l) h = refl
records-most (suc n) [] h = absurd (omega arith)
records-most (suc n) (x ∷ l) h =
    let d = x ∷ l in
    and_none (11 ≤? length d)
    (and_none (is_record (length d is 11) d) (records-most n (drop 11 d) (rw (length-drop 11 d) (omega arith))))

-- ---- the size of a record

-- the tests of a record, one by one
record-parts : (z : Bool) (d : List ℕ) → is_record z d ≡ true →
    (is_label (d ! 0) ≡ true) × (is_protection (d ! 2) ≡ true)
    × (is_size_of (kind_of (d ! 1)) z (size_of d) ≡ true) × (is_codes d ≡ true)
unfolding is_record is_size
record-parts z d r =
    let a = split (is_label (d ! 0)) r in
    let b = split (is_protection (d ! 2)) a.1 in
    let c = split (is_size z d) b.1 in
    (a.0, b.0, (split (is_hex4 (drop 3 d)) c.0).1, c.1)

-- a size that is not 0000 needs no leave
sized-some : (kind : Kind) (z : Bool) (v : ℕ) → 1 ≤ v → is_size_of kind z v ≡ true → is_size_of kind false v ≡ true
unfolding is_size_of
sized-some text z v h e = le-leb 1 v h
sized-some string z v h e = e
sized-some neither z v h e = e

-- a size 0000 is that of a TEXT where it is allowed
sized-none : (kind : Kind) (z : Bool) → is_size_of kind z 0 ≡ true → (kind ≡ text) × (z ≡ true)
unfolding is_size_of
sized-none text true e = (refl, refl)
sized-none text false e = never (sym e)
sized-none string z e = never (sym e)
sized-none neither z e = never (sym e)

-- ---- the record that is stored

-- a record with a size
module _ (d : List ℕ) (e : 11 ≤ length d) (v : ℕ) where
  pub sized-length : length (with_size v d) ≡ 11
  unfolding with_size in_hex4
  sized-length = eleven (λ l. length (with_size v l) ≡ 11) (λ a b c d e f g h i j k l. refl) d e

  sized-start : (with_size v d ! 0 ≡ d ! 0) × (with_size v d ! 1 ≡ d ! 1) × (with_size v d ! 2 ≡ d ! 2)
  unfolding with_size in_hex4
  sized-start =
      eleven (λ l. (with_size v l ! 0 ≡ l ! 0) × (with_size v l ! 1 ≡ l ! 1) × (with_size v l ! 2 ≡ l ! 2))
      (λ a b c d e f g h i j k l. (refl, refl, refl)) d e

  sized-codes : is_codes (with_size v d) ≡ is_codes d
  unfolding with_size in_hex4 is_codes
  sized-codes = eleven (λ l. is_codes (with_size v l) ≡ is_codes l) (λ a b c d e f g h i j k l. four-codes (kind_of b) h i j k [] l) d e

  sized-digits : drop 3 (with_size v d) ≡ in_hex4 v ++ take 4 (drop 7 d)
  unfolding with_size in_hex4
  sized-digits = eleven (λ l. drop 3 (with_size v l) ≡ in_hex4 v ++ take 4 (drop 7 l)) (λ a b c d e f g h i j k l. refl) d e

  module _ (h : v < 65536) where
    sized-size : size_of (with_size v d) ≡ v
    unfolding size_of
    sized-size = ap hex4 sized-digits ∙ hex4-in_hex4 v h (take 4 (drop 7 d))

    sized-record : (z : Bool) → is_record z d ≡ true → is_size_of (kind_of (d ! 1)) false v ≡ true → is_record false (with_size v d) ≡ true
    unfolding is_record is_size
    sized-record z r g =
        let p = record-parts z d r in
        rw (
          sized-start.0,
          sized-start.1,
          sized-start.2,
          sized-codes,
          sized-size,
          sized-digits,
          is_hex4-in_hex4 v h (take 4 (drop 7 d)),
          p.0,
          p.1,
          p.3,
          g,
        )

-- ---- the size that a record gets, and the room that it leaves

pub record Gets (n room : ℕ) (d : List ℕ) : Type 0 where
  pub fit : is_size_of (kind_of (d ! 1)) false (size_in room d) ≡ true
  pub inside : 11 + size_in room d ≤ room
  pub more : needed n (drop 11 d) ≤ room - (11 + size_in room d)

none_left : (n : ℕ) (d : List ℕ) → length d ≡ 0 → Records n d → n ≡ 0
none_left zero d e r = refl
none_left (suc n) d e r = absurd (omega arith)

pub gets : (n room : ℕ) (d : List ℕ) → Records (suc n) d → needed (suc n) d ≤ room → Gets n room d
unfolding needed needed_by size_in is_size_of
gets n room d r h = by-test (size_of d is 0) all-of-it as-listed
  where
    part : is_size_of (kind_of (d ! 1)) (length d is 11) (size_of d) ≡ true
    part = (record-parts (length d is 11) d r.1).2

    all-of-it : (size_of d is 0) ≡ true → Gets n room d
    all-of-it q =
        let t = sized-none (kind_of (d ! 1)) (length d is 11) (rw (eqb-true (size_of d) 0 q) at part) in
        let l : length d ≡ 11 = eqb-true (length d) 11 t.1 in
        let n₀ : n ≡ 0 = none_left n (drop 11 d) (rw (length-drop 11 d) (omega arith)) r.2 in
        let k : 11 + 1 + needed n (drop 11 d) ≤ room = rw q at h in
        record {
          fit = simp (q, t.0, le-leb 1 (room - 11) (omega arith));
          inside = simp q (omega arith);
          more = simp (q, n₀) (omega arith);
        }

    as-listed : (size_of d is 0) ≡ false → Gets n room d
    as-listed q =
        let k : 11 + size_of d + needed n (drop 11 d) ≤ room = rw q at h in
        let ne : (size_of d ≡ 0 → ⊥) = eqb-false (size_of d) 0 q in
        let one : 1 ≤ size_of d = omega arith in
        record {
          fit = simp q (sized-some (kind_of (d ! 1)) (length d is 11) (size_of d) one part);
          inside = simp q (omega arith);
          more = simp q (omega arith);
        }

-- ---- the files of n records in so much room, and the room that they leave

unfoldable new_of : ℕ → ℕ → List ℕ → List File
new_of zero room d = []
new_of (suc n) room d =
    record { head = with_size (size_in room d) d; body = zeros (size_in room d) } ∷ new_of n (room - (11 + size_in room d)) (drop 11 d)

unfoldable pub room_after : ℕ → ℕ → List ℕ → ℕ
room_after zero room d = room
room_after (suc n) room d = room_after n (room - (11 + size_in room d)) (drop 11 d)

laid-layout : (n room : ℕ) (d : List ℕ) → laid n room d ≡ layout (new_of n room d) (zeros (room_after n room d))
unfolding laid layout new_of room_after
laid-layout zero room d = refl
laid-layout (suc n) room d = rw (laid-layout n (room - (11 + size_in room d)) (drop 11 d))

new-count : (n room : ℕ) (d : List ℕ) → n ≡ length (new_of n room d)
unfolding new_of
new-count zero room d = refl
new-count (suc n) room d = ap suc (new-count n (room - (11 + size_in room d)) (drop 11 d))

new-valid : (n room : ℕ) (d : List ℕ) → Records n d → needed n d ≤ room → room ≤ 32768 → AllValid (new_of n room d)
unfolding new_of
new-valid zero room d r h l = tt
new-valid (suc n) room d r h l =
    let g = gets n room d r h in
    let v = size_in room d in
    let small : size_in room d < 65536 = omega (arith, g.inside) in (
      record {
        eleven = sized-length d r.0 v;
        right = sized-record d r.0 v small (length d is 11) r.1 g.fit;
        sized = taken-size (with_size v d) ∙ sized-size d r.0 v small ∙ sym (length-zeros v);
        filled = zeros-content v;
      },
      new-valid n (room - (11 + v)) (drop 11 d) r.2 g.more (omega arith),
    )

new-labels : (n room : ℕ) (d : List ℕ) → Records n d → labels (new_of n room d) ≡ labels_in n d
unfolding new_of labels labels_in
new-labels zero room d r = refl
new-labels (suc n) room d r =
    let v = size_in room d in
    ap₂ ◌∷◌ (sized-start d r.0 v).0 (new-labels n (room - (11 + v)) (drop 11 d) r.2)

new-length : (n room : ℕ) (d : List ℕ) → Records n d → needed n d ≤ room → length (laid n room d) ≡ room
unfolding laid
new-length zero room d r h = length-zeros room
new-length (suc n) room d r h =
    let g = gets n room d r h in
    let v = size_in room d in
    let i = new-length n (room - (11 + v)) (drop 11 d) r.2 g.more in
    rw (length-append, length-append, sized-length d r.0 v, length-zeros, i)
    (omega (arith, g.inside))

-- they are the files of the memory that is laid
new-files : (n room : ℕ) (d : List ℕ) → Records n d → needed n d ≤ room → room ≤ 32768 → files_of n (laid n room d) ≡ new_of n room d
new-files n room d r h l =
    let y = zeros (room_after n room d) in
    ap (files_of n) (laid-layout n room d) ∙ ap (λ (k : ℕ). files_of k (layout (new_of n room d) y)) (new-count n room d)
    ∙ parse (new_of n room d) y (new-valid n room d r h l)

-- their places, put into an index
unfoldable pub placed_in : ℕ → ℕ → List ℕ → ℕ → List ℕ → List ℕ
placed_in zero room d place p = p
placed_in (suc n) room d place p =
    placed_in n (room - (11 + size_in room d)) (drop 11 d) (place + 11 + size_in room d) (set p (d ! 0 - FIRST-LABEL) place)

new-placed : (n room : ℕ) (d : List ℕ) → Records n d → (place : ℕ) (p : List ℕ) → placed_in n room d place p ≡ entered (new_of n room d) place p
unfolding placed_in new_of entered
new-placed zero room d r place p = refl
new-placed (suc n) room d r place p =
    let v = size_in room d in
    let fs = new_of n (room - (11 + v)) (drop 11 d) in
    new-placed n (room - (11 + v)) (drop 11 d) r.2 (place + 11 + v) (set p (d ! 0 - FIRST-LABEL) place)
    ∙ ap₂ (λ (k l : ℕ). entered fs (place + 11 + k) (set p (l - FIRST-LABEL) place)) (sym (length-zeros v)) (sym (sized-start d r.0 v).0)

-- that is the index of the new memory
pub room-index : (n room : ℕ) (d : List ℕ) → Records n d → needed n d ≤ room → room ≤ 32768 → placed_in n room d 0 no_entries ≡ index_of n (laid n room d)
unfolding index_of
room-index n room d r h l = rw (new-files n room d r h l) (new-placed n room d r 0 no_entries)

-- what they leave is what no file takes
pub room-unused : (n room : ℕ) (d : List ℕ) → Records n d → needed n d ≤ room → room ≤ 32768 → room_after n room d ≡ unused n (laid n room d)
room-unused n room d r h l =
    let fs = new_of n room d in
    let y = zeros (room_after n room d) in
    sym (ap (unused n) (laid-layout n room d) ∙ ap (λ (k : ℕ). unused k (layout fs y)) (new-count n room d)
    ∙ layout-unused fs y (new-valid n room d r h l) ∙ length-zeros (room_after n room d))

-- ---- the theorems, from what `configure` tests

module _ (d : List ℕ) (ok : is_records FILES d ≡ true) (room : ℕ) (h : needed (records_in d) d ≤ room) where
  abbrev n : ℕ
  n = records_in d

  listed : Records n d
  listed = (records-of FILES d ok).1

  -- the new memory fills the room
  pub laid-length : length (laid (records_in d) room d) ≡ room
  laid-length = new-length n room d listed h

  module _ (l : is_memory room ≡ true) where
    abbrev files : List File
    files = new_of n room d

    abbrev rest : List ℕ
    rest = zeros (room_after n room d)

    files-valid : AllValid files
    files-valid = new-valid n room d listed h (memory-most room l)

    -- the new memory holds as many files as there are records, as it has to
    pub laid-holds : holds_files (records_in d) (laid (records_in d) room d) ≡ true
    laid-holds =
        ap (holds_files n) (laid-layout n room d) ∙ ap (λ (k : ℕ). holds_files k (layout files rest)) (new-count n room d)
        ∙ holds files rest files-valid ∙ zeros-nul (room_after n room d)

    -- their labels are the records'
    pub laid-labels : labels (files_of (records_in d) (laid (records_in d) room d)) ≡ labels_in (records_in d) d
    laid-labels = ap labels (new-files n room d listed h (memory-most room l)) ∙ new-labels n room d listed

    -- so the new memory is sound
    pub laid-sound : sound_memory (records_in d) (laid (records_in d) room d) ≡ true
    laid-sound =
        whole n (laid n room d)
        (record { long = rw laid-length l; few = le-leb n FILES (records-of FILES d ok).0; held = laid-holds })

    -- and where the labels are distinct, its index is true
    pub laid-index : distinct (labels_in (records_in d) d) ≡ true →
        is_index (index_of (records_in d) (laid (records_in d) room d)) (files_of (records_in d) (laid (records_in d) room d)) ≡ true
    unfolding index_of
    laid-index f = index-true (files_of n (laid n room d)) (valid n (laid n room d) laid-holds) (ap distinct laid-labels ∙ f)
