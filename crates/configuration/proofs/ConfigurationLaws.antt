-- "$" as the code does it: put in capitals, then refused with its number, or all files replaced; and a board that was sound is sound then.
use Prim.Native.Nat.{ℕ, ◌*◌, ◌/◌, ◌<◌, ◌≤◌}
use mathlib.Core.Path.{◌≡◌, refl, sym, ap, ◌∙◌}
use mathlib.Core.List.{List}
use mathlib.Core.Bool.{true}
use native.Mathlib.Omega.{arith}
use mir.Syntax.{w8}
use mir.Val.{Fits}
use borrow.Author.Rules.{rules}
use borrow.Author.Tests.{ne_eqb}
use lib.ListN.{length, take, drop}
use lib.Seq.{take_at}
use Rattle.std.specs.List.{concat}
use Rattle.std.specs.Simd.{first_chunks}
use Rattle.octets.specs.Buffer.{overlay}
use Rattle.board.specs.Settings.{with_files}
use Rattle.board.specs.Files.{unused}
use Rattle.board.specs.Index.{index_of}
use Rattle.board.specs.Board.{Board, board}
use Rattle.board.specs.Soundness.{sound}
use Rattle.board.specs.declared.Settings.{Settings}
use Rattle.board.proofs.Ranges.{files-ranged}
use Rattle.board.proofs.SoundParts.{parts, sound-parts, kept-true, sound-whole}
use Rattle.effects.specs.Effects.{done, refuse, change}
use Rattle.effects.specs.declared.Changed.{Changed}
use Rattle.configuration.specs.Capitals.{list_capitals}
use Rattle.configuration.specs.Records.{records_in, refusal, laid}
use Rattle.configuration.specs.Configuration.{replaced, replace, configure}
use Rattle.configuration.specs.InnerFiling.{number, Listed, Laid}
use Rattle.configuration.specs.declared.numbers.Refusal.{Refusal}
use Rattle.configuration.specs.declared.numbers.Refusal.TheVariants.{BadRecord, LabelTwice, NoRoom}
use Rattle.configuration.proofs.Cuts.{cut-count, cut-whole, listed-long}
use Rattle.configuration.specs.declared.Kept.{Kept}
use Rattle.configuration.proofs.CapitalsLaws.{capitals-length, long-refused}
use Rattle.configuration.proofs.RecordLaws.{laid-length, laid-sound, laid-index}
use Rattle.configuration.proofs.Refusing.{Accepted, accepted}

-- ---- a list in capitals

some-number : (r : Refusal) → number r ≡ 0 → ⊥
some-number BadRecord e = omega arith
some-number LabelTwice e = omega arith
some-number NoRoom e = omega arith

-- one that is refused
pub replace-not : (l : List ℕ) (room : ℕ) (r : Refusal) → number r ≡ refusal l room → (b : Board) → room ≡ length b.memory → refuse (number r) b ≡ replace b l
unfolding replace
replace-not l room r e b h = rw (← h, ← e, ne_eqb (number r) 0 (some-number r))

-- and one that is not: rs are its records
module _ (l : List ℕ) (room : ℕ) (z : 0 ≡ refusal l room) (rs : List (List ℕ)) (q : rs ≡ first_chunks 11 (length l / 11) l) where
  fine : Accepted l room
  fine = accepted l room (sym z)

  whole : length l ≡ 11 * (length l / 11)
  whole = (listed-long l fine.good).0

  so-many : length rs ≡ length l / 11
  so-many = ap length q ∙ cut-count (length l / 11) l

  joined : concat rs ≡ l
  joined = ap concat q ∙ cut-whole (length l / 11) l whole

  pub replace-listed : (m : List ℕ) → room ≡ length m → room ≤ 32768 → Listed m rs
  replace-listed m h o =
      record {
        cut = rw (so-many, joined) q;
        long = rw (so-many, joined) whole;
        good = rw joined fine.good;
        room = rw (so-many, joined) (rw h at fine.fits);
        short = rw h at o;
      }

  pub replace-count : Fits w8 (length rs)
  replace-count = record { fits = omega (arith, so-many, (listed-long l fine.good).1) }

  pub replace-done : (m m₁ : List ℕ) (a : Kept) → Laid m rs m₁ a → (b : Board) → m ≡ b.memory → room ≡ length m → (t : Settings) →
      t ≡ with_files b.settings (length rs) a.unused a.places → done (board t m₁) ≡ replace b l
  unfolding replace replaced
  replace-done m m₁ a g b i h t j = rw (← i, ← h, ← z, j, g.left, g.noted, g.stored, so-many, joined, ← h)

pub ruleset replacing = (replace-not, replace-count, rules)

-- ---- the list that a frame carries

-- one that has no room in capitals
pub list-long : (b : Board) (d : List ℕ) → 704 < length d → refuse 25 b ≡ configure b d
unfolding configure
list-long b d h = replace-not (list_capitals d) (length b.memory) BadRecord (sym (long-refused d (length b.memory) h)) b refl

-- its capitals are put at the start of a room o
module _ (d o a : List ℕ) (p : a ≡ overlay o (list_capitals d)) where
  list-there : take (length d) a ≡ list_capitals d
  unfolding overlay
  list-there = ap (take (length d)) p ∙ take_at (list_capitals d) (drop (length (list_capitals d)) o) (length d) (capitals-length 0 d)

  -- they do what the list does
  pub list_done : (b after : Board) (r : Changed) → change after r ≡ replace b (take (length d) a) → change after r ≡ configure b d
  unfolding configure
  list_done b after r g = g ∙ ap (replace b) list-there

pub ruleset listed = (list-long, list_done, rules)

-- ---- the board then

module _ (b : Board) (l : List ℕ) (e : refusal l (length b.memory) ≡ 0) where
  -- memory is as long as it was
  pub replaced-length : length (replaced b l).memory ≡ length b.memory
  unfolding replaced
  replaced-length = let t = accepted l (length b.memory) e in laid-length l t.good (length b.memory) t.fits

  -- a sound board stays sound
  pub replaced-sound : sound b ≡ true → sound (replaced b l) ≡ true
  unfolding replaced
  replaced-sound o =
      let n = records_in l in
      let room = length b.memory in
      let m = laid n room l in
      let t = accepted l room e in
      let p = sound-parts b o in
      let long = (parts b.settings.files b.memory p.filed).long in
      let next = with_files b.settings n (unused n m) (index_of n m) in
      sound-whole (board next m)
      (record {
        ranged = files-ranged b.settings p.ranged n (unused n m) (index_of n m);
        filed = laid-sound l t.good room t.fits long;
        kept = kept-true (board next m) (record { unused = refl; index = laid-index l t.good room t.fits long t.apart });
      })
