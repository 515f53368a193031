-- A frame that was read, by its parts: what is taken of it, with 17 for a wrong sum; and what a call makes of that.
use mathlib.Core.Path.{◌≡◌, sym, ap, ◌∙◌}
use mathlib.Core.Bool.{true, false, not}
use mathlib.Core.List.{List}
use Prim.Native.Nat.{ℕ, ◌≤◌}
use native.Mathlib.Omega.{arith}
use borrow.Author.Rules.{rules}
use borrow.Author.Tests.{not-true, not-false}
use lib.ListN.{length, take}
use Rattle.std.specs.Prelude.{Result, Ok, Err}
use Rattle.octets.specs.Bytes.{TRANSLATED}
use Rattle.reading.specs.Lead.{lead_of}
use Rattle.reading.specs.Reading.{Reading, refused, read_led, read}
use Rattle.reading.specs.Capitals.{in_capitals}
use Rattle.reading.specs.Places.{is_printable, numbered, number_of as fault_number}
use Rattle.reading.specs.InnerParts.{part_places, parts_view, Translates}
use Rattle.reading.specs.declared.reading.Parts.{Parts}
use Rattle.reading.specs.declared.Refusal.{Refusal}
use Rattle.reading.proofs.Rooms.{told-printable, told-other, translates-refused, translates-bytes}
use Rattle.reading.proofs.Viewing.{Told, stands_good, standard-view, standard-told, room-view, room-told}
use Rattle.writing.specs.declared.refusal.Refusal.{Refusal as Unwritten}
use Rattle.writing.specs.declared.source.Source.{Source}
use Rattle.writing.specs.Output.{Output, output, written_as, unwritten}
use Rattle.writing.specs.Reforming.{checked}
use Rattle.writing.specs.InnerSources.{Parted}
use Rattle.writing.specs.InnerFrames.{text_of, blocks_of, frame_of, reading_of}
use Rattle.writing.proofs.Reckonings.{seen-right}

-- ---- the parts of a frame

told-parted : {s : List ℕ} {p : Parts} {r : Reading} → Told s p r → Parted s p
told-parted g =
    let w = g.stands in
    record { good = stands_good w; short = w.short; ordered = w.ordered; inside = omega (arith, w.inside); headed = w.header; seen = g.seen }

pub standard-parted : (s : List ℕ) → is_printable s ≡ false → (q : Result Parts Refusal) → numbered q ≡ part_places false s (read s) → {p : Parts} → q ≡ Ok p → Parted s p
standard-parted s z q e f = told-parted (standard-told s z q e f)

pub room-parted : (t : List ℕ) → length t ≤ TRANSLATED → (q : Result Parts Refusal) → numbered q ≡ part_places true t (read_led (lead_of true t))
    → {p : Parts} → q ≡ Ok p → Parted t p
room-parted t l q e f = told-parted (room-told t l q e f)

-- the bytes of a printable frame, in a room
pub room-short : {s room after : List ℕ} {answer : Result ℕ Refusal} → is_printable s ≡ true → Translates s room answer after
    → {n : ℕ} → answer ≡ Ok n → length (take n after) ≤ TRANSLATED
room-short p g e = let w = translates-bytes p g e in omega (arith, w.fits, w.counts)

pub room-fits : {s room after : List ℕ} {answer : Result ℕ Refusal} → is_printable s ≡ true → Translates s room answer after
    → {n : ℕ} → answer ≡ Ok n → n ≤ 8192
room-fits p g e = (translates-bytes p g e).fits

-- ---- what they read as

pub taken-parts : (s : List ℕ) (x : Source) → x.bytes.now ≡ s → frame_of x ≡ in_capitals (parts_view s (Ok x.parts))
unfolding text_of blocks_of parts_view in_capitals
taken-parts s x d = rw (← d)

module _ (y : Reading) where
  pub taken-room : (t : List ℕ) → length t ≤ TRANSLATED → (q : Result Parts Refusal) → numbered q ≡ part_places true t (read_led (lead_of true t))
      → {p : Parts} → q ≡ Ok p → y ≡ in_capitals (parts_view t (Ok p)) → y ≡ in_capitals (read_led (lead_of true t))
  taken-room t l q e f h = h ∙ ap in_capitals (ap (parts_view t) (sym f) ∙ room-view t l q e)

  pub taken-standard : (s : List ℕ) → is_printable s ≡ false → (q : Result Parts Refusal) → numbered q ≡ part_places false s (read s)
      → {p : Parts} → q ≡ Ok p → y ≡ in_capitals (parts_view s (Ok p)) → y ≡ in_capitals (read s)
  taken-standard s z q e f h = h ∙ ap in_capitals (ap (parts_view s) (sym f) ∙ standard-view s z q e)

  -- the bytes that a printable frame stands for
  pub taken-translated : (s : List ℕ) → is_printable s ≡ true → {room after : List ℕ} {answer : Result ℕ Refusal} → Translates s room answer after
      → {n : ℕ} → answer ≡ Ok n → y ≡ in_capitals (read_led (lead_of true (take n after))) → y ≡ in_capitals (read s)
  taken-translated s p g e h = h ∙ ap in_capitals (sym (translates-bytes p g e).reads)

-- what was refused
module _ {e : Refusal} where
  pub unread-room : (t : List ℕ) → length t ≤ TRANSLATED → (q : Result Parts Refusal) → numbered q ≡ part_places true t (read_led (lead_of true t))
      → q ≡ Err e → refused (fault_number e) ≡ in_capitals (read_led (lead_of true t))
  unfolding parts_view in_capitals
  unread-room t l q d f = let z : refused (fault_number e) ≡ read_led (lead_of true t) = ap (parts_view t) (sym f) ∙ room-view t l q d in rw (← z)

  pub unread-standard : (s : List ℕ) → is_printable s ≡ false → (q : Result Parts Refusal) → numbered q ≡ part_places false s (read s)
      → q ≡ Err e → refused (fault_number e) ≡ in_capitals (read s)
  unfolding parts_view in_capitals
  unread-standard s p q d f = let z : refused (fault_number e) ≡ read s = ap (parts_view s) (sym f) ∙ standard-view s p q d in rw (← z)

  pub unread-translated : (s : List ℕ) → is_printable s ≡ true → {room after : List ℕ} {answer : Result ℕ Refusal} → Translates s room answer after
      → answer ≡ Err e → refused (fault_number e) ≡ in_capitals (read s)
  unfolding in_capitals
  unread-translated s p g f = rw (translates-refused p g f)

pub ruleset taking = (standard-parted, room-parted, taken-parts, taken-room, taken-standard, unread-room, unread-standard, rules)

pub ruleset printables = (room-short, room-fits, taken-translated, unread-translated, rules)

-- ---- 17 for a wrong sum

module _ (x : Source) where
  pub sums-wrong : not x.parts.seen.right ≡ true → refused 17 ≡ checked (frame_of x)
  unfolding blocks_of checked
  sums-wrong f = rw (sym (seen-right x.parted) ∙ not-true x.parts.seen.right f)

  pub sums-right : not x.parts.seen.right ≡ false → frame_of x ≡ checked (frame_of x)
  unfolding blocks_of checked
  sums-right f = rw (sym (seen-right x.parted) ∙ not-false x.parts.seen.right f)

-- what was refused stays as it was
pub sums-none : {y : Reading} {n : ℕ} → refused n ≡ y → refused n ≡ checked y
unfolding checked
sums-none e = rw (← e)

pub ruleset sums = (sums-wrong, sums-right, sums-none, rules)

-- ---- what is made of it: a call goes on with a frame that was taken, and hands on what was refused

module _ (made : Reading → Output) (o : List ℕ) (dead : (n : ℕ) → made (refused n) ≡ unwritten n o) {y : Reading} where
  pub made-refused : {n : ℕ} → refused n ≡ y → output (written_as n 0) o ≡ made y
  made-refused {n} e = rw (← e, dead n)

  pub made-taken : {q : Result Source Unwritten} {x : Source} {z : Output} → z ≡ made (frame_of x) → q ≡ Ok x → reading_of q ≡ y → z ≡ made y
  made-taken {x = x} h g e = h ∙ ap made (rw g at e)

pub ruleset tests = (told-printable, told-other)
