-- What a reading answers by places, and the room after it.
use mathlib.Core.Path.{◌≡◌, refl, sym, ap, ◌∙◌}
use mathlib.Core.Bool.{Bool, true, false, not, ◌||◌}
use mathlib.Core.List.{List, [], ◌∷◌}
use Prim.Native.Nat.{ℕ, ◌+◌, ◌<◌, ◌≤◌}
use native.Mathlib.Omega.{arith}
use borrow.Author.Rules.{rules}
use borrow.Author.Tests.{eqb-true, ltb-false, lt-ltb, le-ltb, ne_eqb, not-true, not-false}
use lib.ListN.{length, take, drop, length-take}
use lib.Seq.{sets, sets-eq, take_at}
use Rattle.std.specs.Prelude.{Option, Some, None, Result, Ok, Err, if◌then◌else◌}
use Rattle.octets.specs.Choice.{◌is◌, ◌<?◌, ◌!◌, none}
use Rattle.octets.specs.Bytes.{NUL, SOH, ESCAPE, STANDARD, PRINTABLE, TRANSLATED}
use Rattle.octets.specs.Buffer.{overlay}
use Rattle.octets.proofs.Spots.{there}
use Rattle.octets.proofs.Tests.{by-test}
use Rattle.reading.specs.Translation.{Translation, untranslated, translated, translate}
use Rattle.reading.specs.Lead.{lead_of}
use Rattle.reading.specs.Reading.{Reading, refused, frame, read_led, read_translated, read_printable, read_standard, read}
use Rattle.reading.specs.Places.{number_of, numbered, is_printable, bytes_of, stands_for, header_in, header_place, places_of, read_places, bare_read, fill, room_after, Reads}
use Rattle.reading.specs.InnerParts.{counted, is_whole, parts_at, part_places, translated_length, Translates}
use Rattle.reading.specs.declared.Read.{Read}
use Rattle.reading.specs.declared.Read.TheVariants.{Standard, Printable}
use Rattle.reading.specs.declared.Refusal.{Refusal}
use Rattle.reading.specs.declared.Refusal.TheVariants.{WrongLength, WrongLead, BadPrintable}
use Rattle.reading.specs.declared.reading.Parts.{Parts}

-- ---- where the header starts

pub header-standard : (s : List ℕ) → is_printable s ≡ false → header_place s ≡ header_in false s
unfolding header_place stands_for
header-standard s p = rw p

pub stands-printable : (s : List ℕ) → is_printable s ≡ true → stands_for s ≡ bytes_of (translate s)
unfolding stands_for
stands-printable s p = rw p

pub header-printable : (s : List ℕ) → is_printable s ≡ true → header_place s ≡ header_in true (bytes_of (translate s))
unfolding header_place
header-printable s p = rw (p, stands-printable s p)

-- ---- a frame that is not printable

filled : (s : List ℕ) → (length s ≡ 0 → ⊥) → none s ≡ false
filled [] h = absurd (h refl)
filled (x ∷ s) h = refl

-- it is read as it stands
pub plain-empty : (s : List ℕ) → length s ≡ 0 → numbered {A = Parts} (Err WrongLength) ≡ part_places false s (read s)
unfolding read parts_at
plain-empty [] e = refl
plain-empty (x ∷ s) e = absurd (omega arith)

module _ (s : List ℕ) (h : length s ≡ 0 → ⊥) (x : ℕ) (e : x ≡ s ! 0) (b : Bool) (g : b ≡ (x is NUL || x is SOH)) where
  pub plain_other : is_printable s ≡ false → not b ≡ true → numbered {A = Parts} (Err WrongLead) ≡ part_places false s (read s)
  unfolding read parts_at
  plain_other p d = rw (filled s h, p, ← e, ← g, not-true b d)

  module _ (d : not b ≡ false) where
    standard-reads : read s ≡ read_standard s
    unfolding read
    standard-reads = rw (filled s h, ← e, ← g, not-false b d)

    pub plain-long : STANDARD < length s → numbered {A = Parts} (Err WrongLength) ≡ part_places false s (read s)
    unfolding read_standard parts_at
    plain-long l = rw (standard-reads, lt-ltb STANDARD (length s) l)

    pub plain-parts : length s ≤ STANDARD → (q : Result Parts Refusal) → numbered q ≡ part_places false s (read_led (lead_of false s)) → numbered q ≡ part_places false s (read s)
    unfolding read_standard
    plain-parts l q k = rw (standard-reads, le-ltb STANDARD (length s) l) k

pub ruleset standard = (plain-empty, plain_other, plain-long, plain-parts, rules)

-- ---- without a room

pub ok-is : {x y : Parts} → ◌≡◌ {A = Result Parts ℕ} (Ok x) (Ok y) → x ≡ y
ok-is d = cc

module _ (s : List ℕ) (t : Bool) (k : t ≡ is_printable s) where
  pub bare-printable : t ≡ true → numbered {A = Read} (Err WrongLead) ≡ bare_read s
  unfolding bare_read
  bare-printable f = rw (sym k ∙ f)

bare-other : (s : List ℕ) → is_printable s ≡ false → read_places s ≡ bare_read s
unfolding bare_read
bare-other s p = rw p

module _ (s : List ℕ) (t : Bool) (k : t ≡ is_printable s) (f : t ≡ false) where
  pub bare-refused : (x : Refusal) → Err (number_of x) ≡ part_places false s (read s) → numbered {A = Read} (Err x) ≡ bare_read s
  unfolding read_places places_of parts_at
  bare-refused x d = go (read s) d ∙ bare-other s (sym k ∙ f)
    where
      go : (y : Reading) → Err (number_of x) ≡ part_places false s y → Err (number_of x) ≡ places_of s y
      go (refused m) d = let z : number_of x ≡ m = cc in ap Err z
      go (frame h bs) d = absurd (cc)

  pub bare-good : (p : Parts) → Ok p ≡ part_places false s (read s) → numbered (Ok (Standard p.header p.body)) ≡ bare_read s
  unfolding read_places places_of parts_at
  bare-good p d = go (read s) d ∙ bare-other s (sym k ∙ f)
    where
      go : (y : Reading) → Ok p ≡ part_places false s y → Ok (Standard p.header p.body) ≡ places_of s y
      go (refused m) d = absurd (cc)
      go (frame h bs) d =
          let a : p.header ≡ header_in false s = ap (λ w. w.header) (ok-is d) in
          let b : p.body ≡ header_in false s + length h = ap (λ w. w.body) (ok-is d) in
          rw (sym k ∙ f, header-standard s (sym k ∙ f), a, b)

pub ruleset bare = (bare-printable, bare-refused, bare-good, rules)

-- ---- a printable frame, translated

module _ (s : List ℕ) (p : is_printable s ≡ true) where
  printable-reads : read s ≡ read_printable s
  unfolding read
  printable-reads =
      let e : s ! 0 ≡ ESCAPE = eqb-true (s ! 0) ESCAPE p in
      rw (filled s (λ f. omega (arith, there s 0 (omega arith))), p, ne_eqb (s ! 0) NUL (λ f. omega arith), ne_eqb (s ! 0) SOH (λ f. omega arith))

module _ (s room : List ℕ) (p : is_printable s ≡ true) where
  pub translate-long : PRINTABLE < length s → Translates s room (Err WrongLength) room
  unfolding room_after
  translate-long h = record { told = rw (lt-ltb PRINTABLE (length s) h); left = rw (p, lt-ltb PRINTABLE (length s) h) }

  module _ (h : length s ≤ PRINTABLE) (r : Option ℕ) (e : r ≡ counted (translate s)) where
    room_as : room_after s room ≡ fill room (translate s)
    unfolding room_after
    room_as = rw (p, le-ltb PRINTABLE (length s) h)

    -- what it is translated to, by the translation
    as-told : {a : Result ℕ Refusal} {after : List ℕ} → numbered a ≡ translated_length (translate s) → after ≡ fill room (translate s) → Translates s room a after
    as-told f g = record { told = rw (le-ltb PRINTABLE (length s) h) f; left = rw room_as g }

    faulty : r ≡ None → translate s ≡ untranslated
    unfolding counted
    faulty f = go (translate s) (sym e ∙ f)
      where
        go : (x : Translation) → counted x ≡ None → x ≡ untranslated
        go untranslated d = refl
        go (translated t) d = let z : ◌≡◌ {A = ℕ} 0 1 = cc in absurd (omega arith)

    pub translate-faulty : r ≡ None → Translates s room (Err BadPrintable) room
    unfolding translated_length fill
    translate-faulty f = as-told (rw (faulty f)) (rw (faulty f))

    module _ (n : ℕ) (f : r ≡ Some n) where
      -- what it stands for
      whole : (translate s ≡ translated (bytes_of (translate s))) × (length (bytes_of (translate s)) ≡ n)
      unfolding counted bytes_of
      whole = go (translate s) (sym e ∙ f)
        where
          go : (x : Translation) → counted x ≡ Some n → (x ≡ translated (bytes_of x)) × (length (bytes_of x) ≡ n)
          go untranslated d = let z : ◌≡◌ {A = ℕ} 0 1 = cc in absurd (omega arith)
          go (translated t) d = (refl, cc)

      pub translate-whole : is_whole (translate s) ≡ true
      unfolding is_whole
      translate-whole = rw whole.0

      pub translate-fits : n ≤ TRANSLATED → length room ≡ 8192 → length (bytes_of (translate s)) ≤ length room
      translate-fits k long = omega (arith, whole.1)

      pub translate-over : TRANSLATED < n → Translates s room (Err WrongLength) room
      unfolding translated_length fill
      translate-over k =
          let m : TRANSLATED < length (bytes_of (translate s)) = omega (arith, whole.1) in
          as-told (rw (whole.0, lt-ltb TRANSLATED (length (bytes_of (translate s))) m)) (rw (whole.0, lt-ltb TRANSLATED (length (bytes_of (translate s))) m))

      pub translate-good : n ≤ TRANSLATED → length room ≡ 8192 → (after : List ℕ) → after ≡ sets room 0 (bytes_of (translate s))
          → Translates s room (Ok n) after
      unfolding translated_length fill overlay
      translate-good k long after a =
          let t = bytes_of (translate s) in
          let m : length t ≤ TRANSLATED = omega (arith, whole.1) in
          let z : 0 + length t ≡ length t = omega arith in
          as-told (rw (whole.0, le-ltb TRANSLATED (length t) m, whole.1))
          (rw (whole.0, le-ltb TRANSLATED (length t) m) (a ∙ sets-eq t room 0 (omega (arith, m)) ∙ rw z))

pub ruleset translating = (translate-long, translate-faulty, translate-whole, translate-fits, translate-over, translate-good, rules)

-- n bytes at the start of a room are those that a printable frame stands for
pub record Roomed (s after : List ℕ) (n : ℕ) : Type 0 where
  pub fits : n ≤ 8192
  pub within : n ≤ length after
  pub counts : n ≡ length (take n after)
  pub bytes : bytes_of (translate s) ≡ take n after
  pub reads : read s ≡ read_led (lead_of true (take n after))

-- a frame of at most 24,576 characters stands for t
module _ (s room : List ℕ) (p : is_printable s ≡ true) (l : length s ≤ PRINTABLE) (t : List ℕ) (d : translate s ≡ translated t) (h : length t ≤ 8192) where
  laid : room_after s room ≡ overlay room t
  unfolding room_after fill
  laid = rw (p, le-ltb PRINTABLE (length s) l, d, le-ltb TRANSLATED (length t) h)

  pub laid-front : take (length t) (room_after s room) ≡ t
  unfolding overlay
  laid-front = rw laid (take_at t (drop (length t) room) (length t) refl)

  pub laid-bytes : bytes_of (translate s) ≡ t
  unfolding bytes_of
  laid-bytes = rw d

  laid-reads : read s ≡ read_led (lead_of true t)
  unfolding read_printable read_translated
  laid-reads = rw (printable-reads s p, le-ltb PRINTABLE (length s) l, d, le-ltb TRANSLATED (length t) h)

  pub laid-roomed : Roomed s (room_after s room) (length t)
  laid-roomed =
      record {
        fits = h;
        within = omega (arith, ap length laid-front, length-take (length t) (room_after s room));
        counts = rw laid-front;
        bytes = laid-bytes ∙ sym laid-front;
        reads = laid-reads ∙ ap (λ (k : List ℕ). read_led (lead_of true k)) (sym laid-front);
      }

-- what a translation answers says what the definitions read
module _ {s room after : List ℕ} {answer : Result ℕ Refusal} (p : is_printable s ≡ true) (g : Translates s room answer after) where
  pub translates-refused : {e : Refusal} → answer ≡ Err e → read s ≡ refused (number_of e)
  unfolding read_printable read_translated translated_length
  translates-refused {e} f = rw (printable-reads s p) (by-test (PRINTABLE <? length s)
      (λ y. rw (y, refusal (rw y at told)))
      (λ y. rw y (go (translate s) (rw y at told))))
    where
      told : Err (number_of e) ≡ (if PRINTABLE <? length s then Err 3 else translated_length (translate s))
      told = sym (ap numbered f) ∙ g.told

      refusal : {k : ℕ} → ◌≡◌ {A = Result ℕ ℕ} (Err (number_of e)) (Err k) → number_of e ≡ k
      refusal d = cc

      never-ok : {X : Type 0} {k : ℕ} → ◌≡◌ {A = Result ℕ ℕ} (Err (number_of e)) (Ok k) → X
      never-ok d = absurd (cc)

      go : (x : Translation) → Err (number_of e) ≡ translated_length x → read_translated x ≡ refused (number_of e)
      go untranslated d = ap refused (sym (refusal d))
      go (translated t) d = by-test (TRANSLATED <? length t) (λ y. rw y (ap refused (sym (refusal (rw y at d))))) (λ y. never-ok (rw y at d))

  pub translates-bytes : {n : ℕ} → answer ≡ Ok n → Roomed s after n
  unfolding translated_length
  translates-bytes {n} f = rw g.left (by-test (PRINTABLE <? length s)
      (λ y. never-err (rw y at told))
      (λ y. go (ltb-false PRINTABLE (length s) y) (translate s) refl (rw y at told)))
    where
      told : Ok n ≡ (if PRINTABLE <? length s then Err 3 else translated_length (translate s))
      told = sym (ap numbered f) ∙ g.told

      never-err : {X : Type 0} {k : ℕ} → ◌≡◌ {A = Result ℕ ℕ} (Ok n) (Err k) → X
      never-err d = absurd (cc)

      same : {k : ℕ} → ◌≡◌ {A = Result ℕ ℕ} (Ok n) (Ok k) → n ≡ k
      same d = cc

      go : length s ≤ PRINTABLE → (x : Translation) → translate s ≡ x → Ok n ≡ translated_length x → Roomed s (room_after s room) n
      go l untranslated d e = never-err e
      go l (translated t) d e =
          by-test (TRANSLATED <? length t)
          (λ y. never-err (rw y at e))
          (λ y. rw (same (rw y at e)) (laid-roomed s room p l t d (ltb-false TRANSLATED (length t) y)))

-- the reading
module _ (s room after : List ℕ) (p : is_printable s ≡ true) where
  pub printable-refused : (e : Refusal) → Translates s room (Err e) after → Reads s room (Err e) after
  unfolding read_places places_of
  printable-refused e g = record { places = rw (translates-refused p g refl); left = g.left }

  module _ (n : ℕ) (g : Translates s room (Ok n) after) where
    pub printable-short : n ≤ 8192
    printable-short = (translates-bytes p g refl).fits

    parts-read : {q : Result Parts ℕ} → q ≡ part_places true (take n after) (read_led (lead_of true (take n after))) → q ≡ parts_at (header_in true (take n after)) (read s)
    parts-read k = k ∙ rw (translates-bytes p g refl).reads

    pub room-refused : (e : Refusal) → Err (number_of e) ≡ part_places true (take n after) (read_led (lead_of true (take n after))) → Reads s room (Err e) after
    unfolding read_places places_of parts_at
    room-refused e k = record { places = go (read s) (parts-read k); left = g.left }
      where
        go : (y : Reading) → Err (number_of e) ≡ parts_at (header_in true (take n after)) y → Err (number_of e) ≡ places_of s y
        go (refused m) d = let z : number_of e ≡ m = cc in ap Err z
        go (frame h bs) d = absurd (cc)

    pub room-good : (x : Parts) → Ok x ≡ part_places true (take n after) (read_led (lead_of true (take n after))) → Reads s room (Ok (Printable n x.header x.body)) after
    unfolding read_places places_of parts_at
    room-good x k = record { places = go (read s) (parts-read k); left = g.left }
      where
        go : (y : Reading) → Ok x ≡ parts_at (header_in true (take n after)) y → Ok (Printable n x.header x.body) ≡ places_of s y
        go (refused m) d = absurd (cc)
        go (frame h bs) d =
            let w = translates-bytes p g refl in
            let a : x.header ≡ header_in true (take n after) = ap (λ w. w.header) (ok-is d) in
            let b : x.body ≡ header_in true (take n after) + length h = ap (λ w. w.body) (ok-is d) in
            rw (p, stands-printable s p, header-printable s p, w.bytes, ← w.counts, a, b)

pub ruleset printable = (printable-short, room-refused, room-good, rules)

-- ---- any frame

module _ (s : List ℕ) (t : Bool) (e : t ≡ is_printable s) where
  pub told-printable : t ≡ true → is_printable s ≡ true
  told-printable f = sym e ∙ f

  pub told-other : t ≡ false → is_printable s ≡ false
  told-other f = sym e ∙ f

  pub read-as-other : (room : List ℕ) → t ≡ false → (q : Result Read Refusal) → numbered q ≡ bare_read s → Reads s room q room
  unfolding room_after
  read-as-other room f q d = record { places = d ∙ sym (bare-other s (sym e ∙ f)); left = rw (sym e ∙ f) }

pub ruleset readings = (read-as-other, rules)
