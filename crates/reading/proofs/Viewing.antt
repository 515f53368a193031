-- What a reading answers by places, read back: what the definitions read.
use mathlib.Core.Path.{◌≡◌, refl, sym, ap, ◌∙◌}
use mathlib.Core.Bool.{Bool, true, false, not, ◌||◌}
use mathlib.Core.List.{List, []}
use Prim.Native.Nat.{ℕ, ◌+◌, ◌-◌, ◌<◌, ◌≤◌}
use native.Mathlib.Omega.{arith}
use borrow.Author.Tests.{eqb-true, ltb-false, ne_eqb, not-false}
use lib.ListN.{length, take, drop, drop_of_length-le}
use Rattle.std.specs.Prelude.{Result, Ok, Err}
use Rattle.octets.specs.Choice.{◌is◌, ◌<?◌, ◌!◌, none, front, behind, part}
use Rattle.octets.specs.Bytes.{NUL, SOH, ESCAPE, STANDARD, PRINTABLE, TRANSLATED, BLOCKS}
use Rattle.octets.proofs.Tests.{compare, choice, never, or-in}
use Rattle.header.specs.Header.{is_header}
use Rattle.body.specs.Body.{Block, Body, bad_body, body as body_of, blocks, read_not_last, has_read, all_right}
use Rattle.body.specs.Steps.{blocks_in, is_body, body_at, blocks_at}
use Rattle.body.specs.InnerSurveying.{survey_as, text_bytes, surveyed}
use Rattle.reading.specs.Translation.{Translation, untranslated, translated, translate}
use Rattle.reading.specs.Lead.{Led, misled, led, lead_of}
use Rattle.reading.specs.Reading.{Reading, refused, frame, not_stx, read_body, read_header, read_led}
use Rattle.reading.specs.Reading.{read_translated, read_printable, read_standard, read}
use Rattle.reading.specs.Places.{number_of, numbered, is_printable, behind_lead, header_in, places_of, read_places, bare_read, room_after, Reads}
use Rattle.reading.specs.InnerParts.{parts_at, part_places, parts_view}
use Rattle.reading.specs.declared.Read.{Read}
use Rattle.reading.specs.declared.Read.TheVariants.{Standard, Printable}
use Rattle.reading.specs.declared.Refusal.{Refusal}
use Rattle.reading.specs.declared.reading.Parts.{Parts}
use Rattle.reading.proofs.Rooms.{header-standard, stands-printable, header-printable, laid-front, laid-bytes, laid-roomed, read-as-other, ok-is}
use Rattle.reading.proofs.Parting.{head-text, rest_from, EndsLed, lead-ends}

-- a frame whose bytes are t reads as r: its header starts at place i, its body at place j
pub record Stands (t : List ℕ) (i j : ℕ) (r : Reading) : Type 0 where
  pub blocks-list : List Block
  pub last : read_not_last false blocks-list ≡ false
  pub body : blocks BLOCKS (drop j t) ≡ body_of blocks-list
  pub reads : r ≡ frame (part i j t) blocks-list
  pub header : is_header (part i j t) ≡ true
  pub ordered : i ≤ j
  pub inside : j < length t
  pub short : length t ≤ 8192

-- then its body is good, and these are its blocks
module _ {t : List ℕ} {i j : ℕ} {r : Reading} (w : Stands t i j r) where
  pub stands_good : body_at t j ≡ true
  unfolding body_at is_body
  stands_good = rw w.body

  pub stands-frame : r ≡ frame (part i j t) (blocks_at t j)
  unfolding blocks_at blocks_in
  stands-frame = w.reads ∙ rw w.body

-- ---- behind a lead that ends at place i

abbrev StandsAt : List ℕ → ℕ → Reading → Type 0
StandsAt t i (refused n) = Unit {0}
StandsAt t i (frame h bs) = Stands t i (i + length h) (frame h bs)

some_left : (t : List ℕ) (j : ℕ) → none (drop j t) ≡ false → j < length t
some_left t j e = compare j (length t) (λ h. h) (λ h. never (rw (drop_of_length-le t h) at e))

module _ (t : List ℕ) (i : ℕ) (s : length t ≤ 8192) where
  stands-body : (x : Body) → none (behind not_stx (drop i t)) ≡ false → is_header (front not_stx (drop i t)) ≡ true
      → blocks BLOCKS (behind not_stx (drop i t)) ≡ x → StandsAt t i (read_body (front not_stx (drop i t)) x)
  unfolding read_body
  stands-body bad_body m g e = tt
  stands-body (body_of bs) m g e =
      let h = front not_stx (drop i t) in
      let j = i + length h in
      let z = rest_from t i j refl in
      choice (StandsAt t i) (read_not_last false bs) (λ y. tt)
      (λ y. record {
        blocks-list = bs;
        last = y;
        body = rw (← z) e;
        reads = ap (λ x. frame x bs) (head-text t i j refl);
        header = rw (← head-text t i j refl) g;
        ordered = omega arith;
        inside = some_left t j (rw (← z) m);
        short = s;
      })

  stands-led : StandsAt t i (read_led (led (drop i t)))
  unfolding read_led read_header
  stands-led =
      choice (StandsAt t i) (none (behind not_stx (drop i t))) (λ m. tt)
      (λ m. choice (StandsAt t i) (not (is_header (front not_stx (drop i t)))) (λ y. tt)
      (λ y. stands-body (blocks BLOCKS (behind not_stx (drop i t))) m (not-false (is_header (front not_stx (drop i t))) y) refl))

-- ---- the bytes that a frame stands for

header-behind : (printable : Bool) (t l : List ℕ) → lead_of printable t ≡ led l → header_in printable t ≡ length t - length l
unfolding header_in behind_lead
header-behind printable t l e = rw e

stands-part : (printable : Bool) (t : List ℕ) → length t ≤ 8192 → StandsAt t (header_in printable t) (read_led (lead_of printable t))
unfolding read_led
stands-part printable t s = go (lead_of printable t) refl (lead-ends printable t)
  where
    go : (x : Led) → lead_of printable t ≡ x → EndsLed t x → StandsAt t (header_in printable t) (read_led x)
    go misled e w = tt
    go (led l) e w = rw (header-behind printable t l e) (rw (← w.tail) at (stands-led t (length t - length l) s))

-- ---- a frame by its places

-- n bytes at the start of a room are a frame that reads as r
pub record Printed (room : List ℕ) (n i j : ℕ) (r : Reading) : Type 0 where
  pub fits : n ≤ 8192
  pub within : n ≤ length room
  pub counts : n ≡ length (take n room)
  pub stands : Stands (take n room) i j r

-- what places say of the reading
abbrev pub PlacesOf : List ℕ → List ℕ → Result Read ℕ → Type 0
PlacesOf s room (Err n) = read s ≡ refused n
PlacesOf s room (Ok (Standard i j)) = Stands s i j (read s)
PlacesOf s room (Ok (Printable n i j)) = Printed (room_after s room) n i j (read s)

module _ (s room : List ℕ) where
  abbrev Said : Reading → Type 0
  Said x = read s ≡ x → PlacesOf s room (places_of s x)

  said-refused : (n : ℕ) → Said (refused n)
  unfolding places_of
  said-refused n e = e

  -- a standard frame
  said-parts : is_printable s ≡ false → (x : Reading) → StandsAt s (header_in false s) x → Said x
  unfolding places_of
  said-parts p (refused n) w e = e
  said-parts p (frame t bs) w e = rw (p, header-standard s p, e) w

  said-standard : is_printable s ≡ false → Said (read_standard s)
  unfolding read_standard
  said-standard p =
      choice Said (STANDARD <? length s) (λ y. said-refused 3)
      (λ y. let h = ltb-false STANDARD (length s) y in said-parts p (read_led (lead_of false s)) (stands-part false s h))

  -- a printable frame that stands for t
  module _ (p : is_printable s ≡ true) (l : length s ≤ PRINTABLE) (t : List ℕ) (d : translate s ≡ translated t) (h : length t ≤ 8192) where
    said-room : (x : Reading) → StandsAt t (header_in true t) x → Said x
    unfolding places_of
    said-room (refused n) w e = e
    said-room (frame u bs) w e =
        let g = laid-roomed s room p l t d h in
        rw (p, stands-printable s p, header-printable s p, laid-bytes s room p l t d h)
        (record { fits = h; within = g.within; counts = g.counts; stands = rw (laid-front s room p l t d h, e) w })

  said-printable : is_printable s ≡ true → Said (read_printable s)
  unfolding read_printable read_translated
  said-printable p =
      choice Said (PRINTABLE <? length s) (λ y. said-refused 3)
      (λ y. go (ltb-false PRINTABLE (length s) y) (translate s) refl)
    where
      go : length s ≤ PRINTABLE → (x : Translation) → translate s ≡ x → Said (read_translated x)
      go l untranslated d = said-refused 5
      go l (translated t) d =
          choice Said (TRANSLATED <? length t) (λ y. said-refused 3)
          (λ y. let h = ltb-false TRANSLATED (length t) y in said-room p l t d h (read_led (lead_of true t)) (stands-part true t h))

  opened-standard : (s ! 0 is NUL || s ! 0 is SOH) ≡ true → is_printable s ≡ false
  opened-standard =
      or-in
      (λ e. let z = eqb-true (s ! 0) NUL e in ne_eqb (s ! 0) ESCAPE (λ f. omega arith))
      (λ e. let z = eqb-true (s ! 0) SOH e in ne_eqb (s ! 0) ESCAPE (λ f. omega arith))

  -- what a reading answers says what the definitions read
  pub places-of : PlacesOf s room (read_places s)
  unfolding read_places read
  places-of =
      choice Said (none s) (λ y. said-refused 3)
      (λ y. choice Said (s ! 0 is NUL || s ! 0 is SOH) (λ e. said-standard (opened-standard e))
      (λ n. choice Said (is_printable s) (λ p. said-printable p) (λ p. said-refused 4)))
      refl

-- ---- for callers, case by case

pub places-refused : (s : List ℕ) (n : ℕ) → read_places s ≡ Err n → read s ≡ refused n
places-refused s n e = rw e at (places-of s [])

pub places-standard : (s : List ℕ) (i j : ℕ) → read_places s ≡ Ok (Standard i j) → Stands s i j (read s)
places-standard s i j e = rw e at (places-of s [])

pub places-printable : (s room : List ℕ) (n i j : ℕ) → read_places s ≡ Ok (Printable n i j) → Printed (room_after s room) n i j (read s)
places-printable s room n i j e = rw e at (places-of s room)

-- the same of what a call promises
module _ {s room after : List ℕ} {answer : Result Read Refusal} (g : Reads s room answer after) where
  pub reads-refused : {e : Refusal} → answer ≡ Err e → read s ≡ refused (number_of e)
  reads-refused {e} f = places-refused s (number_of e) (sym g.places ∙ ap numbered f)

  pub reads-standard : {i j : ℕ} → answer ≡ Ok (Standard i j) → Stands s i j (read s)
  reads-standard {i} {j} f = places-standard s i j (sym g.places ∙ ap numbered f)

  pub reads-printable : {n i j : ℕ} → answer ≡ Ok (Printable n i j) → Printed after n i j (read s)
  reads-printable {n} {i} {j} f = rw g.left (places-printable s room n i j (sym g.places ∙ ap numbered f))

  -- what lending that many bytes of the room asks
  pub reads-within : {n i j : ℕ} → answer ≡ Ok (Printable n i j) → n ≤ length after
  reads-within f = (reads-printable f).within

  pub reads-counts : {n i j : ℕ} → answer ≡ Ok (Printable n i j) → n ≡ length (take n after)
  reads-counts f = (reads-printable f).counts

-- of a reading without a room, where the frame is not printable
module _ (s : List ℕ) (p : is_printable s ≡ false) {answer : Result Read Refusal} (e : numbered answer ≡ bare_read s) where
  bare-reads : Reads s [] answer []
  bare-reads = read-as-other s false (sym p) [] refl answer e

  pub bare-refused : {x : Refusal} → answer ≡ Err x → read s ≡ refused (number_of x)
  bare-refused f = reads-refused bare-reads f

  pub bare-standard : {i j : ℕ} → answer ≡ Ok (Standard i j) → Stands s i j (read s)
  bare-standard f = reads-standard bare-reads f

  -- no byte has a place in no room
  pub bare-never {ℓ} : {X : Type ℓ} {n i j : ℕ} → answer ≡ Ok (Printable n i j) → X
  bare-never f = let w = reads-printable bare-reads f in absurd (omega (arith, w.stands.inside, w.within, w.counts))

-- ---- parts

-- a frame whose bytes are t stands so, and this is known of its blocks
pub record Told (t : List ℕ) (p : Parts) (r : Reading) : Type 0 where
  pub stands : Stands t p.header p.body r
  pub seen : surveyed (blocks BLOCKS (drop p.body t)) ≡ Ok p.seen

module _ (printable : Bool) (t : List ℕ) where
  view-parts : (x : Reading) → StandsAt t (header_in printable t) x → (q : Result Parts Refusal) → numbered q ≡ part_places printable t x → parts_view t q ≡ x
  unfolding parts_view parts_at
  view-parts (refused n) w (Ok p) e = absurd (cc)
  view-parts (refused n) w (Err x) e = let z : number_of x ≡ n = cc in ap refused z
  view-parts (frame h bs) w (Ok p) e =
      let a : p.header ≡ header_in printable t = ap (λ v. v.header) (ok-is e) in
      let b : p.body ≡ header_in printable t + length h = ap (λ v. v.body) (ok-is e) in
      rw (a, b) (sym (stands-frame w))
  view-parts (frame h bs) w (Err x) e = absurd (cc)

  told-parts : (x : Reading) → StandsAt t (header_in printable t) x → (p : Parts) → Ok p ≡ part_places printable t x → Told t p x
  unfolding parts_at surveyed
  told-parts (refused n) w p e = absurd (cc)
  told-parts (frame h bs) w p e =
      let a : p.header ≡ header_in printable t = ap (λ v. v.header) (ok-is e) in
      let b : p.body ≡ header_in printable t + length h = ap (λ v. v.body) (ok-is e) in
      let c : p.seen ≡ survey_as (has_read bs) (all_right bs) (length bs) (text_bytes bs) = ap (λ v. v.seen) (ok-is e) in
      let z : w.blocks-list ≡ bs = listed w.reads in
      record { stands = rw (b, a) w; seen = rw (b, w.body, z, c, rw z at w.last) }
    where
      listed : {g h : List ℕ} {bs cs : List Block} → frame g bs ≡ frame h cs → cs ≡ bs
      listed e = cc

-- a frame that is not printable
standard-stands : (s : List ℕ) → is_printable s ≡ false → StandsAt s (header_in false s) (read s)
unfolding read read_standard
standard-stands s p =
    choice (StandsAt s (header_in false s)) (none s) (λ y. tt)
    (λ y. choice (StandsAt s (header_in false s)) (s ! 0 is NUL || s ! 0 is SOH)
    (λ e. choice (StandsAt s (header_in false s)) (STANDARD <? length s) (λ l. tt) (λ l. stands-part false s (ltb-false STANDARD (length s) l)))
    (λ n. rw p tt))

module _ (s : List ℕ) (p : is_printable s ≡ false) (q : Result Parts Refusal) (e : numbered q ≡ part_places false s (read s)) where
  pub standard-view : parts_view s q ≡ read s
  standard-view = view-parts false s (read s) (standard-stands s p) q e

  pub standard-told : {x : Parts} → q ≡ Ok x → Told s x (read s)
  standard-told {x} f = told-parts false s (read s) (standard-stands s p) x (sym (ap numbered f) ∙ e)

-- the bytes that a printable one stands for
module _ (t : List ℕ) (l : length t ≤ 8192) (q : Result Parts Refusal) (e : numbered q ≡ part_places true t (read_led (lead_of true t))) where
  pub room-view : parts_view t q ≡ read_led (lead_of true t)
  room-view = view-parts true t (read_led (lead_of true t)) (stands-part true t l) q e

  pub room-told : {x : Parts} → q ≡ Ok x → Told t x (read_led (lead_of true t))
  room-told {x} f = told-parts true t (read_led (lead_of true t)) (stands-part true t l) x (sym (ap numbered f) ∙ e)
