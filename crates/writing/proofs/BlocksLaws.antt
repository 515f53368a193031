-- A loop that puts the blocks of a good body: what it has still to do, from block to block.
use mathlib.Core.Path.{◌≡◌, refl, sym, ap, ◌∙◌}
use mathlib.Core.Bool.{Bool, false}
use mathlib.Core.List.{List, [], ◌∷◌, ◌++◌}
use Prim.Native.Nat.{ℕ, ◌+◌, ◌^◌, ◌<◌, ◌≤◌}
use mir.Syntax.{w64}
use mir.Val.{Fits}
use native.Mathlib.Nat.{zero-add}
use native.Mathlib.Omega.{arith}
use borrow.Author.Rules.{rules}
use lib.ListN.{length}
use Rattle.octets.specs.Choice.{part}
use Rattle.body.specs.Sum.{checksum}
use Rattle.body.specs.Body.{Block}
use Rattle.body.specs.InnerTaking.{taken_at}
use Rattle.body.specs.declared.taking.Taken.{Taken}
use Rattle.body.proofs.TakingLaws.{Next, Stand, stand-at}
use Rattle.forms.specs.InnerPieces.{Takes, Puts, encode, piece, pieces}
use Rattle.forms.proofs.PieceLaws.{encode-none}
use Rattle.forms.proofs.FormsLaws.{puts_none, puts-as, puts-long, joined, takes_front, takes-behind}
use Rattle.writing.specs.InnerFrames.{blocks_of}
use Rattle.writing.specs.declared.source.Source.{Source}
use Rattle.writing.proofs.Reckonings.{source-count}

-- the first of the blocks that stand at a place, and those behind it
record Head (s : List ℕ) (at : ℕ) (bs : List Block) : Type 0 where
  block : Block
  behind : List Block
  split : bs ≡ block ∷ behind
  here : Next s at block
  onward : Stand s (taken_at s at).next behind

head : (s : List ℕ) (at : ℕ) (bs : List Block) → Stand s at bs → 0 < length bs → Head s at bs
head s at [] w h = absurd (omega arith)
head s at (b ∷ bs) w h = record { block = b; behind = bs; split = refl; here = w.0; onward = w.1 }

none_left : (bs : List Block) → length bs ≤ 0 → bs ≡ []
none_left [] h = refl
none_left (b ∷ bs) h = absurd (omega arith)

-- what puts the blocks that are left puts them all
pub record Placing (o : List ℕ) (place form : ℕ) (first : Bool) (x : Source) (o₁ : List ℕ) (at done : ℕ) (begun : Bool) (next : ℕ) : Type 0 where
  pub rest : List Block
  pub stand : Stand x.bytes.now at rest
  pub count : done + length rest ≡ x.parts.seen.count
  pub long : length o₁ ≡ length o
  pub room : Takes o₁ next (encode form (pieces form begun rest))
  pub onward : {o₂ : List ℕ} {n : ℕ} → Puts o₁ next (encode form (pieces form begun rest)) o₂ n
      → Puts o place (encode form (pieces form first (blocks_of x))) o₂ n

pub place-start : (o : List ℕ) (place form : ℕ) (first : Bool) (x : Source) → Takes o place (encode form (pieces form first (blocks_of x)))
    → Placing o place form first x o x.parts.body 0 first place
unfolding blocks_of
place-start o place form first x t =
    record { rest = blocks_of x; stand = stand-at x.bytes.now x.parts.body x.parted.good; count = zero-add (length (blocks_of x)) ∙ sym (source-count x); long = refl; room = t; onward = λ p. p }

module _ {o : List ℕ} {place form : ℕ} {first : Bool} {x : Source} {o₁ : List ℕ} {at done : ℕ} {begun : Bool} {next : ℕ}
    (g : Placing o place form first x o₁ at done begun next) where
  pub place_end : x.parts.seen.count ≤ done → Puts o place (encode form (pieces form first (blocks_of x))) o₁ next
  unfolding pieces
  place_end h =
      let z : g.rest ≡ [] = none_left g.rest (omega (arith, g.count)) in
      g.onward (rw z (puts-as (encode-none form) (puts_none o₁ next)))

  module _ (p : done < x.parts.seen.count) where
    now : Head x.bytes.now at g.rest
    now = head x.bytes.now at g.rest g.stand (omega (arith, g.count))

    -- what is taken from there
    pub place_in : at + 2 ≤ length x.bytes.now
    place_in = omega (arith, now.here.ordered, now.here.inside)

    pub place-fits : length x.bytes.now < 2 ^ 64 → Fits w64 (at + 2)
    place-fits l = record { fits = omega (arith, place_in) }

    module _ (t : Taken) (e : t ≡ taken_at x.bytes.now at) where
      pub place-ordered : at + 2 ≤ t.to
      place-ordered = rw e now.here.ordered

      pub place_inside : t.to ≤ length x.bytes.now
      place_inside = rw e now.here.inside

      pub place-sum : t.sum ≡ checksum t.command (part (at + 2) t.to x.bytes.now)
      place-sum = rw (e, now.here.text, now.here.command) now.here.sum

      -- its piece, and those behind it
      here-piece : piece form begun t.command (part (at + 2) t.to x.bytes.now) ≡ piece form begun now.block.command now.block.text
      here-piece = rw (e, now.here.text, now.here.command)

      whole : pieces form begun g.rest ≡ piece form begun t.command (part (at + 2) t.to x.bytes.now) ++ pieces form false now.behind
      unfolding pieces
      whole = ap (pieces form begun) now.split ∙ ap (λ (l : List ℕ). l ++ pieces form false now.behind) (sym here-piece)

      pub place-room : Takes o₁ next (encode form (piece form begun t.command (part (at + 2) t.to x.bytes.now)))
      place-room = takes_front form _ (pieces form false now.behind) (rw whole at g.room)

      pub place-more : {o₂ : List ℕ} {n : ℕ} → Puts o₁ next (encode form (piece form begun t.command (part (at + 2) t.to x.bytes.now))) o₂ n
          → Placing o place form first x o₂ t.next (done + 1) false n
      place-more q =
          record {
            rest = now.behind;
            stand = rw e now.onward;
            count = omega (arith, g.count, ap (λ (l : List Block). length l) now.split);
            long = puts-long q ∙ g.long;
            room = takes-behind form _ (pieces form false now.behind) (rw whole at g.room) q;
            onward = λ r. g.onward (rw whole (joined form _ (pieces form false now.behind) q r));
          }

pub ruleset placing = (place-start, place_end, place_in, place-fits, place-ordered, place_inside, place-sum, place-room, place-more, rules)
