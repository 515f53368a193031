-- An index that is true: it has as many entries as there are files, labels are distinct, a file is found by it as by the walk,
-- there is one only, and the one that "$" makes is true.
use mathlib.Core.Path.{◌≡◌, refl, sym, ap, ◌∙◌}
use mathlib.Core.Bool.{Bool, true, false, not, ◌&&◌, ◌||◌}
use mathlib.Core.List.{List, [], ◌∷◌}
use Prim.Native.Nat.{ℕ, zero, suc, ◌+◌, ◌-◌, ◌<◌, ◌≤◌}
use native.Mathlib.Omega.{arith}
use borrow.Author.Tests.{eq-eqb, ne_eqb, eqb-true, eqb-false, leb-true, not-true}
use lib.ListN.{length, drop, set, length-set, get_or-replicate, drop_of_length-le}
use lib.Seq.{get_or-set_same, get_or-set_other, ext_get_or}
use Rattle.std.specs.Prelude.{None, if◌then◌else◌}
use Rattle.octets.specs.Choice.{◌is◌, ◌≤?◌, between, ◌!◌, among}
use Rattle.octets.specs.InnerCounts.{count}
use Rattle.octets.proofs.Spots.{drop-on}
use Rattle.octets.proofs.Tests.{by-test, compare, never, split, or-in, or-out-left, or-out-right, and_both, suc-less-one}
use Rattle.board.specs.Files.{File, taken, files_of, used, labels, distinct, is_at, find}
use Rattle.board.specs.Soundness.{is_label, is_record, holds_files}
use Rattle.board.specs.Index.{FIRST-LABEL, LAST-LABEL, ENTRIES, NOWHERE, entry, names_each, names_no_other, is_index, no_entries, entered, of_type, look_up}
use Rattle.board.specs.InnerNoted.{is_place, entries, Within}
use Rattle.board.proofs.Checks.{at_label, at_other}
use Rattle.board.proofs.Layouts.{AllValid}
use Rattle.board.proofs.Walking.{next, Standing, files-step, head-label, room, stand-start, stand-next, find-step, body-size, file-inside}
use Rattle.board.proofs.IndexLaws.{entry-there, entry-label, entry-nowhere}

-- ---- the files' labels

module _ (p : List ℕ) where
  -- the entry of a label that files have is a place from theirs on
  named-from : (fs : List File) (place label : ℕ) → names_each p fs place ≡ true → among label (labels fs) ≡ true → place ≤ entry p label
  unfolding names_each among labels
  named-from [] place label e a = never (sym a)
  named-from (f ∷ fs) place label e a =
      let s = split (entry p (f.head ! 0) is place) e in
      or-in
      (λ b. rw (← eqb-true (f.head ! 0) label b) (omega (arith, eqb-true (entry p (f.head ! 0)) place s.0)))
      (λ b. omega (arith, named-from fs (place + 11 + length f.body) label s.1 b)) a

  -- so none of them has a label whose entry is before
  named-before : (fs : List File) (place label : ℕ) → names_each p fs place ≡ true → entry p label < place → among label (labels fs) ≡ false
  named-before fs place label e h =
      by-test (among label (labels fs)) (λ a. absurd (omega (arith, named-from fs place label e a))) (λ a. a)

  -- and no later file has the label of the first
  named-once : (f : File) (fs : List File) (place : ℕ) → names_each p (f ∷ fs) place ≡ true → among (f.head ! 0) (labels fs) ≡ false
  unfolding names_each
  named-once f fs place e =
      let s = split (entry p (f.head ! 0) is place) e in
      named-before fs (place + 11 + length f.body) (f.head ! 0) s.1 (omega (arith, eqb-true (entry p (f.head ! 0)) place s.0))

  -- "Labels are distinct."
  pub named-apart : (fs : List File) (place : ℕ) → names_each p fs place ≡ true → distinct (labels fs) ≡ true
  unfolding names_each distinct labels
  named-apart [] place e = refl
  named-apart (f ∷ fs) place e =
      rw (named-once f fs place e) (named-apart fs (place + 11 + length f.body) (split (entry p (f.head ! 0) is place) e).1)

-- ---- the other labels

module _ (p : List ℕ) where
  -- a label that no file has has no entry
  others-none : (ls : List ℕ) (n first label : ℕ) → names_no_other p ls first n ≡ true → first ≤ label → label < first + n →
      among label ls ≡ false → entry p label ≡ NOWHERE
  unfolding names_no_other
  others-none ls zero first label e a b c = absurd (omega arith)
  others-none ls (suc n) first label e a b c =
      let s = split (among first ls || entry p first is NOWHERE) e in
      compare first label (λ h. others-none ls n (suc first) label s.1 (omega arith) (omega arith) c)
      (λ h.
      let z : first ≡ label = omega arith in
      or-in (λ d. never (sym d ∙ (ap (λ (x : ℕ). among x ls) z ∙ c))) (λ d. rw (← z) (eqb-true (entry p first) NOWHERE d)) s.0)

  -- whatever byte it is
  pub index-none : (fs : List File) (label : ℕ) → is_index p fs ≡ true → among label (labels fs) ≡ false → entry p label ≡ NOWHERE
  unfolding is_index
  index-none fs label e c =
      entry-nowhere p label
      (λ a b. others-none (labels fs) ENTRIES FIRST-LABEL label (split (names_each p fs 0) e).1 a (omega arith) c)

-- ---- as many entries as files

-- the entries of labels that are not among some, of n labels from one on
unfoldable others : List ℕ → List ℕ → ℕ → ℕ → ℕ
others p ls label zero = 0
others p ls label (suc n) = (if among label ls || entry p label is NOWHERE then 0 else 1) + others p ls (suc label) n

module _ (p : List ℕ) where
  others-told : (ls : List ℕ) (n label : ℕ) → names_no_other p ls label n ≡ (others p ls label n is 0)
  unfolding names_no_other others
  others-told ls zero label = refl
  others-told ls (suc n) label =
      by-test (among label ls || entry p label is NOWHERE)
      (λ e. let z : 0 + others p ls (suc label) n ≡ others p ls (suc label) n = omega arith in rw (e, z) (others-told ls n (suc label)))
      (λ e. rw e (sym (ne_eqb (1 + others p ls (suc label) n) 0 (λ z. omega arith))))

  -- where none are left out, these are all
  others-all : length p ≡ ENTRIES → (n label : ℕ) → FIRST-LABEL ≤ label → label + n ≡ 127 → others p [] label n ≡ entries (drop (label - FIRST-LABEL) p)
  unfolding others count is_place among
  others-all l zero label a b = let h : length p ≤ label - FIRST-LABEL = omega arith in rw (drop_of_length-le p h)
  others-all l (suc n) label a b =
      let i : suc label - FIRST-LABEL ≡ label - FIRST-LABEL + 1 = omega arith in
      let t = others-all l n (suc label) (omega arith) (omega arith) in
      rw (drop-on p (label - FIRST-LABEL) (omega arith), ← entry-there p label a (omega arith), t, i)
      (by-test (p ! (label - FIRST-LABEL) is NOWHERE) (λ e. rw e (omega arith)) (λ e. rw e (omega arith)))

  -- leaving one more out, which has an entry, takes away one
  module _ (ls : List ℕ) (x : ℕ) (c : among x ls ≡ false) (s : entry p x ≡ NOWHERE → ⊥) where
    others-past : (n label : ℕ) → x < label → others p (x ∷ ls) label n ≡ others p ls label n
    unfolding others among
    others-past zero label h = refl
    others-past (suc n) label h = rw (ne_eqb x label (λ z. omega arith), others-past n (suc label) (omega arith))

    others-one : (n label : ℕ) → label ≤ x → x < label + n → others p ls label n ≡ 1 + others p (x ∷ ls) label n
    unfolding others among
    others-one zero label a b = absurd (omega arith)
    others-one (suc n) label a b =
        compare label x
        (λ h.
        let i = others-one n (suc label) (omega arith) (omega arith) in
        rw (ne_eqb x label (λ z. omega arith)) (omega (arith, i)))
        (λ h.
        let z : label ≡ x = omega arith in
        rw (z, eq-eqb x x refl, c, ne_eqb (entry p x) NOWHERE s, others-past n (suc x) (omega arith)) (omega arith))

  module _ (l : length p ≡ ENTRIES) where
    entries-told : (fs : List File) (place : ℕ) → names_each p fs place ≡ true → place + used fs ≤ 32768 →
        entries p ≡ length fs + others p (labels fs) FIRST-LABEL ENTRIES
    unfolding names_each used labels
    entries-told [] place e h =
        let o : others p [] FIRST-LABEL ENTRIES ≡ entries p = others-all l ENTRIES FIRST-LABEL (omega arith) refl in
        omega (arith, o)
    entries-told (f ∷ fs) place e h =
        let s = split (entry p (f.head ! 0) is place) e in
        let q = eqb-true (entry p (f.head ! 0)) place s.0 in
        let n : (entry p (f.head ! 0) ≡ NOWHERE → ⊥) = λ z. omega arith in
        let b = entry-label p (f.head ! 0) n in
        omega (
          arith,
          entries-told fs (place + 11 + length f.body) s.1 (omega arith),
          others-one (labels fs) (f.head ! 0) (named-once p f fs place e) n ENTRIES FIRST-LABEL b.0 (omega (arith, b.1)),
        )

    -- where it has every file's place, as many entries as files say that it has no other
    pub index-counted : (fs : List File) → names_each p fs 0 ≡ true → used fs ≤ 32768 → (entries p is length fs) ≡ is_index p fs
    unfolding is_index
    index-counted fs e h =
        let o = others p (labels fs) FIRST-LABEL ENTRIES in
        let t = entries-told fs 0 e (omega arith) in
        rw (e, others-told (labels fs) ENTRIES FIRST-LABEL)
        (by-test (o is 0)
        (λ z. rw z (eq-eqb (entries p) (length fs) (omega (arith, t, eqb-true o 0 z))))
        (λ z. let k = eqb-false o 0 z in rw z (ne_eqb (entries p) (length fs) (λ y. k (omega (arith, t, y))))))

-- ---- the file of a label and type

-- no file has the label
unfound : (fs : List File) (label kind place : ℕ) → among label (labels fs) ≡ false → find label kind fs place ≡ None
unfolding find is_at among labels
unfound [] label kind place c = refl
unfound (f ∷ fs) label kind place c =
    rw (or-out-left (f.head ! 0 is label) (among label (labels fs)) c)
    (unfound fs label kind (place + 11 + length f.body) (or-out-right (f.head ! 0 is label) (among label (labels fs)) c))

-- each file has its place, one file on
pub names-step : (p m : List ℕ) (at n : ℕ) → 0 < n → 11 + taken (drop at m) ≤ length (drop at m) →
    names_each p (files_of n (drop at m)) at ≡ (entry p (m ! at) is at && names_each p (files_of (n - 1) (drop (next m at) m)) (next m at))
unfolding names_each
names-step p m at n h r =
    let z : at + 11 + taken (drop at m) ≡ next m at = omega arith in
    rw (files-step m at n h, head-label m at, body-size m at r, z)

labels-step : (m : List ℕ) (at n : ℕ) → 0 < n → labels (files_of n (drop at m)) ≡ m ! at ∷ labels (files_of (n - 1) (drop (next m at) m))
unfolding labels
labels-step m at n h = rw (files-step m at n h, head-label m at)

module _ (p m : List ℕ) (label : ℕ) where
  -- the entry of a label that one of n files from a place on has: its record is inside memory, and the walk finds it by its type
  record Sited (n at : ℕ) : Type 0 where
    inside : entry p label + 11 ≤ length m
    found : (kind : ℕ) → find label kind (files_of n (drop at m)) at ≡ of_type m (entry p label) kind

  -- it is the first of them, or one behind it
  site : (at n : ℕ) → 0 < n → Standing m at n → names_each p (files_of n (drop at m)) at ≡ true → among label (labels (files_of n (drop at m))) ≡ true →
      (names_each p (files_of (n - 1) (drop (next m at) m)) (next m at) ≡ true → among label (labels (files_of (n - 1) (drop (next m at) m))) ≡ true → Sited (n - 1) (next m at))
      → Sited n at
  unfolding among of_type
  site at n h g e a rest =
      let e' = sym (names-step p m at n h (file-inside m at n h g.held)) ∙ e in
      let a' = sym (ap (among label) (labels-step m at n h)) ∙ a in
      let s = split (entry p (m ! at) is at) e' in
      by-test (m ! at is label)
      (λ t.
      let z : m ! at ≡ label = eqb-true (m ! at) label t in
      let k : entry p label ≡ at = sym (ap (entry p) z) ∙ eqb-true (entry p (m ! at)) at s.0 in
      let c = named-before p (files_of (n - 1) (drop (next m at) m)) (next m at) label s.1 (omega (arith, k)) in
      record {
        inside = omega (arith, k, room m at n h g);
        found = λ kind.
            rw (find-step m label kind at n h g.held, ← at_label m at label kind z, unfound (files_of (n - 1) (drop (next m at) m)) label kind (next m at) c, k);
      })
      (λ t.
      let d = or-in (λ y. never (sym y ∙ t)) (λ y. y) a' in
      let i = rest s.1 d in
      record {
        inside = i.inside;
        found = λ kind.
            rw (find-step m label kind at n h g.held, ← at_other m at label kind (eqb-false (m ! at) label t), t) (i.found kind);
      })

  sites : (n at : ℕ) → Standing m at n → names_each p (files_of n (drop at m)) at ≡ true → among label (labels (files_of n (drop at m))) ≡ true → Sited n at
  unfolding files_of labels among
  sites zero at g e a = never (sym a)
  sites (suc n) at g e a =
      site at (suc n) (omega arith) g e a (rw (suc-less-one n) (sites n (next m at) (rw (suc-less-one n) at (stand-next g (omega arith) (11 + taken (drop at m)) refl))))

  module _ (n : ℕ) (o : holds_files n m ≡ true) (l : length m ≤ 32768) (e : is_index p (files_of n m) ≡ true) where
    sited : among label (labels (files_of n m)) ≡ true → Sited n 0
    unfolding is_index
    sited a = sites n 0 (stand-start m n o) (split (names_each p (files_of n m) 0) e).0 a

    -- a label's entry is the place of a record inside memory
    pub index-within : Within p m label
    index-within =
        record {
          inside = λ n₀.
              by-test (among label (labels (files_of n m))) (λ a. (sited a).inside) (λ a. absurd (n₀ (index-none p (files_of n m) label e a)));
        }

    -- "The answer equals the full walk's"
    pub index-found : (kind : ℕ) → look_up p m label kind ≡ find label kind (files_of n m) 0
    unfolding look_up
    index-found kind =
        by-test (among label (labels (files_of n m)))
        (λ a.
        let i = (sited a).inside in
        rw (ne_eqb (entry p label) NOWHERE (λ z. omega arith)) (sym ((sited a).found kind)))
        (λ a.
        rw (eq-eqb (entry p label) NOWHERE (index-none p (files_of n m) label e a)) (sym (unfound (files_of n m) label kind 0 a)))

-- ---- one only

named-alike : (p q : List ℕ) (fs : List File) (place label : ℕ) → names_each p fs place ≡ true → names_each q fs place ≡ true →
    among label (labels fs) ≡ true → entry p label ≡ entry q label
unfolding names_each among labels
named-alike p q [] place label e f a = never (sym a)
named-alike p q (x ∷ fs) place label e f a =
    let s = split (entry p (x.head ! 0) is place) e in
    let t = split (entry q (x.head ! 0) is place) f in
    or-in
    (λ b.
    rw (← eqb-true (x.head ! 0) label b)
    (eqb-true (entry p (x.head ! 0)) place s.0 ∙ sym (eqb-true (entry q (x.head ! 0)) place t.0)))
    (λ b. named-alike p q fs (place + 11 + length x.body) label s.1 t.1 b) a

-- two indices that are true of the same files are the same
pub index-one : (p q : List ℕ) (fs : List File) → length p ≡ ENTRIES → length q ≡ ENTRIES → is_index p fs ≡ true → is_index q fs ≡ true → p ≡ q
unfolding is_index
index-one p q fs k l e f =
    ext_get_or 0 p q (k ∙ sym l) (λ i h.
    let z : FIRST-LABEL + i - FIRST-LABEL ≡ i = omega arith in
    let a : FIRST-LABEL + i ≤ LAST-LABEL = omega arith in
    let alike : entry p (FIRST-LABEL + i) ≡ entry q (FIRST-LABEL + i) =
    by-test (among (FIRST-LABEL + i) (labels fs))
    (λ y. named-alike p q fs 0 (FIRST-LABEL + i) (split (names_each p fs 0) e).0 (split (names_each q fs 0) f).0 y)
    (λ y. index-none p fs (FIRST-LABEL + i) e y ∙ sym (index-none q fs (FIRST-LABEL + i) f y)) in
    rw z at (entry-there p (FIRST-LABEL + i) (omega arith) a ∙ alike ∙ sym (entry-there q (FIRST-LABEL + i) (omega arith) a)))

-- ---- the one that "$" makes

-- a record's label is one of those that have an entry
pub record-label : (z : Bool) (r : List ℕ) → is_record z r ≡ true → (FIRST-LABEL ≤ r ! 0) × (r ! 0 ≤ LAST-LABEL)
unfolding is_record is_label
record-label z r e =
    let a = (split (is_label (r ! 0)) e).0 in
    let b = (split (between FIRST-LABEL LAST-LABEL (r ! 0)) a).0 in
    let c = split (FIRST-LABEL ≤? r ! 0) b in
    (leb-true FIRST-LABEL (r ! 0) c.0, leb-true (r ! 0) LAST-LABEL c.1)

-- another place for one label leaves the other labels'
set_other : (p : List ℕ) (l place label : ℕ) → FIRST-LABEL ≤ l → (l ≡ label → ⊥) → entry (set p (l - FIRST-LABEL) place) label ≡ entry p label
unfolding entry
set_other p l place label h n =
    by-test (between FIRST-LABEL LAST-LABEL label)
    (λ b.
    let c = leb-true FIRST-LABEL label (split (FIRST-LABEL ≤? label) b).0 in
    rw b (get_or-set_other p (l - FIRST-LABEL) (label - FIRST-LABEL) place 0 (λ z. n (omega (arith, z)))))
    (λ b. rw b)

entered-other : (fs : List File) (place : ℕ) (p : List ℕ) (label : ℕ) → AllValid fs → among label (labels fs) ≡ false → entry (entered fs place p) label ≡ entry p label
unfolding entered among labels
entered-other [] place p label v c = refl
entered-other (f ∷ fs) place p label v c =
    let a = or-out-left (f.head ! 0 is label) (among label (labels fs)) c in
    entered-other fs (place + 11 + length f.body) (set p (f.head ! 0 - FIRST-LABEL) place) label v.1 (or-out-right (f.head ! 0 is label) (among label (labels fs)) c)
    ∙ set_other p (f.head ! 0) place label (record-label false f.head v.0.right).0 (eqb-false (f.head ! 0) label a)

entered-names : (fs : List File) (place : ℕ) (p : List ℕ) → AllValid fs → distinct (labels fs) ≡ true → length p ≡ ENTRIES → names_each (entered fs place p) fs place ≡ true
unfolding entered names_each distinct labels
entered-names [] place p v d l = refl
entered-names (f ∷ fs) place p v d l =
    let s = split (not (among (f.head ! 0) (labels fs))) d in
    let c = not-true (among (f.head ! 0) (labels fs)) s.0 in
    let w = record-label false f.head v.0.right in
    let q = set p (f.head ! 0 - FIRST-LABEL) place in
    let k : entry (entered fs (place + 11 + length f.body) q) (f.head ! 0) ≡ place =
    entered-other fs (place + 11 + length f.body) q (f.head ! 0) v.1 c ∙ sym (entry-there q (f.head ! 0) w.0 w.1)
    ∙ get_or-set_same p (f.head ! 0 - FIRST-LABEL) place 0 (omega (arith, w.0, w.1)) in
    and_both _ _ (eq-eqb _ place k)
    (entered-names fs (place + 11 + length f.body) q v.1 s.1 (length-set p (f.head ! 0 - FIRST-LABEL) place ∙ l))

-- an index without entries has none for any label
none-entered : (label : ℕ) → entry no_entries label ≡ NOWHERE
none-entered label =
    entry-nowhere no_entries label
    (λ a b. sym (entry-there no_entries label a b) ∙ get_or-replicate ENTRIES (label - FIRST-LABEL) NOWHERE 0 (omega arith))

entered-none : (fs : List File) → AllValid fs → (n label : ℕ) → names_no_other (entered fs 0 no_entries) (labels fs) label n ≡ true
unfolding names_no_other
entered-none fs v zero label = refl
entered-none fs v (suc n) label =
    by-test (among label (labels fs))
    (λ a. rw a (entered-none fs v n (suc label)))
    (λ a.
    rw (a, eq-eqb (entry (entered fs 0 no_entries) label) NOWHERE (entered-other fs 0 no_entries label v a ∙ none-entered label))
    (entered-none fs v n (suc label)))

-- the index of files with distinct labels is true of them
pub index-true : (fs : List File) → AllValid fs → distinct (labels fs) ≡ true → is_index (entered fs 0 no_entries) fs ≡ true
unfolding is_index
index-true fs v d =
    and_both (names_each (entered fs 0 no_entries) fs 0) (names_no_other (entered fs 0 no_entries) (labels fs) FIRST-LABEL ENTRIES)
    (entered-names fs 0 no_entries v d refl) (entered-none fs v ENTRIES FIRST-LABEL)
