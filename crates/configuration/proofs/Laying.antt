-- "$": what holds while files are laid out, record by record, and its steps.
use Prim.Native.Nat.{ℕ, zero, suc, ◌+◌, ◌-◌, ◌*◌, ◌≤◌, ◌<◌}
use mathlib.Core.Path.{◌≡◌, refl, sym, ap, ◌∙◌}
use mathlib.Core.List.{List, [], ◌++◌, append_assoc, append-nil}
use native.Mathlib.Omega.{arith}
use mir.Syntax.{w16, w64}
use mir.Val.{Fits}
use borrow.Author.Rules.{rules}
use lib.ListN.{length, take, drop, get_or, set, length-append, length-drop}
use lib.Seq.{drop-drop, drop-length, take_all, get_or-take}
use Rattle.std.specs.List.{concat}
use Rattle.std.specs.Simd.{first_chunks}
use Rattle.octets.specs.Choice.{◌is◌, ◌!◌}
use Rattle.octets.specs.Hex.{in_hex4}
use Rattle.octets.specs.Buffer.{zeros, splice}
use Rattle.octets.proofs.Tests.{suc-less-one}
use Rattle.octets.proofs.Spots.{head_at}
use Rattle.octets.proofs.Buffers.{eleven, length-zeros, length-splice}
use Rattle.buffers.proofs.Splices.{take-splice, splice-within, splice-next}
use Rattle.board.specs.Files.{unused}
use Rattle.board.specs.Index.{FIRST-LABEL, LAST-LABEL, ENTRIES, no_entries, index_of}
use Rattle.board.proofs.Indexing.{record-label}
use Rattle.configuration.specs.Records.{records_in, needed, size_in, with_size, laid}
use Rattle.configuration.specs.InnerFiling.{empty_file, Spot, Listed, Laid}
use Rattle.configuration.proofs.Cuts.{cut-at, size-in-first}
use Rattle.configuration.proofs.RecordLaws.{Records, records-of, gets, sized-length, room_after, room-unused, placed_in, room-index}

-- ---- a file

four-long : (v : ℕ) → length (in_hex4 v) ≡ 4
unfolding in_hex4
four-long v = refl

-- the digits of its size put into a record
sized-splice : (d : List ℕ) (v : ℕ) → length d ≡ 11 → splice d 3 (in_hex4 v) ≡ with_size v d
unfolding splice with_size
sized-splice d v e =
    let t : take 4 (drop 7 d) ≡ drop 7 d = take_all 4 (drop 7 d) (rw length-drop (omega arith)) in
    rw (four-long v, t) (append_assoc (take 3 d) (in_hex4 v) (drop 7 d))

-- a record is copied, and then its size put
pub store-done : (m m₁ m₂ d : List ℕ) (place size : ℕ) → place + 11 ≤ length m → length d ≡ 11 → m₁ ≡ splice m place d →
    m₂ ≡ splice m₁ (place + 3) (in_hex4 size) → m₂ ≡ splice m place (with_size size d)
store-done m m₁ m₂ d place size h e p q =
    q ∙ rw p (splice-within m place d (omega arith) 3 (in_hex4 size) (rw four-long (omega arith)) ∙ ap (splice m place) (sized-splice d size e))

-- a record is stored, and then zeros put
pub file-done : (m m₁ m₂ d : List ℕ) (place size : ℕ) → Spot m place size → length d ≡ 11 → m₁ ≡ splice m place (with_size size d) →
    m₂ ≡ splice m₁ (place + 11) (zeros size) → m₂ ≡ splice m place (empty_file size d)
unfolding empty_file
file-done m m₁ m₂ d place size g e p q =
    let l : length (with_size size d) ≡ 11 = sized-length d (omega arith) size in
    q ∙ rw p (splice-next m place (with_size size d) (zeros size) (place + 11) (omega arith) (omega arith))

pub ruleset filing = (store-done, file-done, rules)

-- ---- one record more

-- a record gets its size from its own bytes alone
sized-head : (d : List ℕ) (v : ℕ) → 11 ≤ length d → with_size v (take 11 d) ≡ with_size v d
unfolding with_size
sized-head d v = eleven (λ l. with_size v (take 11 l) ≡ with_size v l) (λ a b c d e f g h i j k l. refl) d

file-head : (d : List ℕ) (v : ℕ) → 11 ≤ length d → empty_file v (take 11 d) ≡ empty_file v d
unfolding empty_file
file-head d v h = rw (sized-head d v h)

file-long : (d : List ℕ) (v : ℕ) → 11 ≤ length d → length (empty_file v d) ≡ 11 + v
unfolding empty_file
file-long d v h = rw (length-append, sized-length d h v, length-zeros)

-- the file of the record at a place, and those of the records behind it
laid-step : (n room : ℕ) (d : List ℕ) (at : ℕ) → 0 < n → laid n room (drop at d)
    ≡ empty_file (size_in room (drop at d)) (drop at d) ++ laid (n - 1) (room - (11 + size_in room (drop at d))) (drop (at + 11) d)
unfolding laid empty_file
laid-step zero room d at p = absurd (omega arith)
laid-step (suc n) room d at p =
    let l = drop at d in
    let v = size_in room l in
    rw (suc-less-one n, ← drop-drop 11 at d) (sym (append_assoc (with_size v l) (zeros v) (laid n (room - (11 + v)) (drop 11 l))))

laid_none : (n room : ℕ) (d : List ℕ) → n ≤ 0 → laid n room d ≡ zeros room
unfolding laid
laid_none zero room d h = refl
laid_none (suc n) room d h = absurd (omega arith)

-- the room that they leave
after-step : (n room : ℕ) (d : List ℕ) (at : ℕ) → 0 < n →
    room_after n room (drop at d) ≡ room_after (n - 1) (room - (11 + size_in room (drop at d))) (drop (at + 11) d)
unfolding room_after
after-step zero room d at p = absurd (omega arith)
after-step (suc n) room d at p = rw (suc-less-one n, ← drop-drop 11 at d)

after_none : (n room : ℕ) (d : List ℕ) → n ≤ 0 → room_after n room d ≡ room
unfolding room_after
after_none zero room d h = refl
after_none (suc n) room d h = absurd (omega arith)

-- and the index
placed-step : (n room : ℕ) (d : List ℕ) (at place : ℕ) (p : List ℕ) → 0 < n → placed_in n room (drop at d) place p
    ≡ placed_in (n - 1) (room - (11 + size_in room (drop at d))) (drop (at + 11) d) (place + 11 + size_in room (drop at d)) (set p (d ! at - FIRST-LABEL) place)
unfolding placed_in
placed-step zero room d at place p h = absurd (omega arith)
placed-step (suc n) room d at place p h = rw (suc-less-one n, ← drop-drop 11 at d, head_at d at)

placed-none : (n room : ℕ) (d : List ℕ) (place : ℕ) (p : List ℕ) → n ≤ 0 → placed_in n room d place p ≡ p
unfolding placed_in
placed-none zero room d place p h = refl
placed-none (suc n) room d place p h = absurd (omega arith)

-- what the record at a place, of n that are left, gets, and what it leaves to those behind it
record Turn (n room : ℕ) (d : List ℕ) (at : ℕ) : Type 0 where
  there : at + 11 ≤ length d
  label : (FIRST-LABEL ≤ d ! at) × (d ! at ≤ LAST-LABEL)
  inside : 11 + size_in room (drop at d) ≤ room
  records : Records (n - 1) (drop (at + 11) d)
  more : needed (n - 1) (drop (at + 11) d) ≤ room - (11 + size_in room (drop at d))

turn : (n room : ℕ) (d : List ℕ) (at : ℕ) → 0 < n → Records n (drop at d) → needed n (drop at d) ≤ room → Turn n room d at
turn zero room d at p r h = absurd (omega arith)
turn (suc n) room d at p r h =
    let g = gets n room (drop at d) r h in
    record {
      there = omega (arith, length-drop at d, r.0);
      label = rw (← head_at d at) (record-label (length (drop at d) is 11) (drop at d) r.1);
      inside = g.inside;
      records = rw (suc-less-one n, ← drop-drop 11 at d) r.2;
      more = rw (suc-less-one n, ← drop-drop 11 at d) g.more;
    }

-- the files of i records are laid out before place and put into the index p, and the rest of memory is to be as the other records ask;
-- d is the list of them all, and at is where the next record stands in it
pub record Laying (m₀ : List ℕ) (rs : List (List ℕ)) (m p : List ℕ) (place i : ℕ) : Type 0 where
  pub few : i ≤ length rs
  pub cut : rs ≡ first_chunks 11 (length rs) (concat rs)
  pub long : length m ≡ length m₀
  pub short : length m ≤ 32768
  pub inside : place ≤ length m
  pub records : Records (length rs - i) (drop (11 * i) (concat rs))
  pub room : needed (length rs - i) (drop (11 * i) (concat rs)) ≤ length m - place
  pub same : take place m ++ laid (length rs - i) (length m - place) (drop (11 * i) (concat rs)) ≡ laid (length rs) (length m₀) (concat rs)
  pub over : room_after (length rs - i) (length m - place) (drop (11 * i) (concat rs)) ≡ unused (length rs) (laid (length rs) (length m₀) (concat rs))
  pub noted : placed_in (length rs - i) (length m - place) (drop (11 * i) (concat rs)) place p ≡ index_of (length rs) (laid (length rs) (length m₀) (concat rs))

pub lay-start : (m : List ℕ) (rs : List (List ℕ)) → Listed m rs → Laying m rs m no_entries 0 0
lay-start m rs h =
    let d = concat rs in
    let n = length rs in
    let y : length m - 0 ≡ length m = omega arith in
    let z : length rs - 0 ≡ length rs = omega arith in
    let all : length rs ≡ records_in d = omega (arith, h.long) in
    let r : Records n d = rw all (records-of 64 d h.good).1 in
    record {
      few = omega arith;
      cut = h.cut;
      long = refl;
      short = h.short;
      inside = omega arith;
      records = rw z r;
      room = rw z (omega (arith, h.room));
      same = rw (y, z);
      over = rw (y, z) (room-unused n (length m) d r h.room h.short);
      noted = rw (y, z) (room-index n (length m) d r h.room h.short);
    }

module _ {m₀ : List ℕ} {rs : List (List ℕ)} {m p : List ℕ} {place i : ℕ} (g : Laying m₀ rs m p place i) where
  abbrev d : List ℕ
  d = concat rs

  abbrev at : ℕ
  at = 11 * i

  abbrev left : ℕ
  left = length rs - i

  pub lay-short : length m - place ≤ 32768
  lay-short = omega (arith, g.short)

  pub lay-end : length rs ≤ i → (m₁ : List ℕ) → m₁ ≡ splice m place (zeros (length m - place)) → (u : ℕ) → u ≡ length m - place → Laid m₀ rs m₁ (record { unused = u; places = p })
  unfolding splice
  lay-end h m₁ e u f =
      let z : place + (length m - place) ≡ length m = omega arith in
      let k : left ≤ 0 = omega arith in
      record {
        stored = e ∙ rw (length-zeros (length m - place), z, drop-length m)
            (append-nil (take place m ++ zeros (length m - place)) ∙ rw (laid_none left (length m - place) (drop at d) k) at g.same);
        left = f ∙ sym (after_none left (length m - place) (drop at d) k) ∙ g.over;
        noted = sym (placed-none left (length m - place) (drop at d) place p k) ∙ g.noted;
      }

  module _ (h : i < length rs) where
    -- the next of the records
    abbrev head : List ℕ
    head = get_or rs i []

    some : 0 < left
    some = omega arith

    now-turn : Turn left (length m - place) d at
    now-turn = turn left (length m - place) d at some g.records g.room

    long-enough : 11 ≤ length (drop at d)
    long-enough = rw length-drop (omega (arith, now-turn.there))

    taken-head : head ≡ take 11 (drop at d)
    taken-head = ap (λ (l : List (List ℕ)). get_or l i []) g.cut ∙ cut-at (length rs) i d [] h

    label-head : head ! 0 ≡ d ! at
    label-head = ap (λ (l : List ℕ). l ! 0) taken-head ∙ get_or-take 11 (drop at d) 0 0 (omega arith) ∙ head_at d at

    pub lay-label : FIRST-LABEL ≤ head ! 0
    lay-label = rw label-head now-turn.label.0

    module _ (k : ℕ) (e : k ≡ head ! 0 - FIRST-LABEL) where
      pub lay-slot : k < ENTRIES
      lay-slot = omega (arith, label-head, now-turn.label.1)

    pub lay-place : Fits w16 place
    lay-place = record { fits = omega (arith, g.inside, g.short) }

    pub lay-least : 11 ≤ length m - place
    lay-least = omega (arith, now-turn.inside)

    module _ (size : ℕ) (f : size ≡ size_in (length m - place) head) where
      e : size ≡ size_in (length m - place) (drop at d)
      e = f ∙ ap (size_in (length m - place)) taken-head ∙ size-in-first (length m - place) (drop at d) long-enough

      fits : place + 11 + size ≤ length m
      fits = omega (arith, e, now-turn.inside)

      pub lay-fits : Fits w64 (place + 11 + size)
      lay-fits = record { fits = omega (arith, fits) }

      pub lay-spot : Spot m place size
      lay-spot = record { inside = fits; small = omega (arith, fits, g.short) }

      module _ (m₁ : List ℕ) (s : m₁ ≡ splice m place (empty_file size head)) where
        laid-file : m₁ ≡ splice m place (empty_file size (drop at d))
        laid-file = s ∙ ap (splice m place) (ap (empty_file size) taken-head ∙ file-head (drop at d) size long-enough)

        file-inside : place + length (empty_file size (drop at d)) ≤ length m
        file-inside = rw (file-long (drop at d) size long-enough) (omega (arith, fits))

        as_long : length m₁ ≡ length m
        as_long = rw laid-file (length-splice m place (empty_file size (drop at d)) file-inside)

        front : take (place + 11 + size) m₁ ≡ take place m ++ empty_file size (drop at d)
        front =
            let z : place + length (empty_file size (drop at d)) ≡ place + 11 + size = rw (file-long (drop at d) size long-enough) (omega arith) in
            rw (laid-file, ← z) (take-splice m place (empty_file size (drop at d)) file-inside)

        pub lay-next : (k : ℕ) → k ≡ head ! 0 - FIRST-LABEL → Laying m₀ rs m₁ (set p k place) (place + 11 + size) (i + 1)
        lay-next k t =
            let z : length m - (place + 11 + size) ≡ length m - place - (11 + size) = omega arith in
            let x : length rs - (i + 1) ≡ left - 1 = omega arith in
            let y : 11 * (i + 1) ≡ at + 11 = omega arith in
            record {
              few = omega arith;
              cut = g.cut;
              long = as_long ∙ g.long;
              short = rw as_long g.short;
              inside = rw as_long fits;
              records = rw (x, y) now-turn.records;
              room = rw (x, y, as_long, z, e) now-turn.more;
              same =
                  rw (x, y, front, as_long, z, append_assoc (take place m) (empty_file size (drop at d)) (laid (left - 1) (length m - place - (11 + size)) (drop (at + 11) d)), e)
                  (rw (← laid-step left (length m - place) d at some) g.same);
              over = rw (x, y, as_long, z, e) (sym (after-step left (length m - place) d at some) ∙ g.over);
              noted = rw (x, y, as_long, z, e, t, label-head) (sym (placed-step left (length m - place) d at place p some) ∙ g.noted);
            }

pub ruleset laying = (lay-start, lay-label, lay-slot, lay-place, lay-least, lay-fits, lay-spot, lay-next, lay-short, lay-end, rules)
