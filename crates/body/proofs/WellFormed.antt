-- What reads as a body is one: its blocks are plain, 1 to n of them, and their bytes are bytes that were read.
use Rattle.std.proofs.Common.{◌≡◌, ℕ, zero, suc, ◌<◌, ◌≤◌, Bool, true, ◌&&◌, ◌||◌, List, [], ◌∷◌, length, drop, refl, arith, leb-true}
use Rattle.octets.specs.Choice.{◌is◌, ◌!◌, front, behind, all}
use Rattle.octets.specs.Carried.{is_carried4, carried4}
use Rattle.octets.specs.Bytes.{STX, ETX, EOT, is_plain}
use Rattle.octets.proofs.Tests.{choice, and_right}
use Rattle.octets.proofs.Lists.{all-at, all_drop, front-all, front-keeps, behind-keeps}
use Rattle.body.specs.Sum.{checksum}
use Rattle.body.specs.Body.{Block, block, Step, stray, more, last, Body, bad_body, body}
use Rattle.body.specs.Body.{is_end, follow, after_etx, after_data, block_at, prepend, onward, blocks}
use Rattle.body.proofs.Plain.{BlockOf, BlocksOf, Plain}

-- any number passes
unfoldable pub anything : ℕ → Bool
anything x = true

-- every list is made of such
pub all-anything : (l : List ℕ) → all anything l ≡ true
unfolding all anything
all-anything [] = refl
all-anything (x ∷ l) = all-anything l

-- a block of plain bytes that pass r
pub record Taken (r : ℕ → Bool) (b : Block) : Type 0 where
  pub plain : BlockOf is_plain b
  pub passing : BlockOf r b

-- a step over such a block, with bytes that pass r behind it
abbrev pub StepOf : (ℕ → Bool) → Step → Type 0
StepOf r stray = Unit {0}
StepOf r (more b l) = Taken r b × (all r l ≡ true)
StepOf r (last b) = Taken r b

-- 1 to n such blocks
pub record Blocks (r : ℕ → Bool) (n : ℕ) (bs : List Block) : Type 0 where
  pub plain : Plain bs
  pub passing : BlocksOf r bs
  pub some : 1 ≤ length bs
  pub few : length bs ≤ n

-- a body of 1 to n such blocks, or a bad one
abbrev pub BodyOf : (ℕ → Bool) → ℕ → Body → Type 0
BodyOf r n bad_body = Unit {0}
BodyOf r n (body bs) = Blocks r n bs

plain-there : (c : ℕ) → is_plain c ≡ true → 0 < c
unfolding is_plain
plain-there c e = omega (arith, leb-true 5 c e)

module _ (r : ℕ → Bool) where
  follow-of : (b : Block) (l : List ℕ) → Taken r b → all r l ≡ true → StepOf r (follow b l)
  unfolding follow
  follow-of b l t a =
      choice (StepOf r) (l ! 0 is STX) (λ e. (t, a))
      (λ e. choice (StepOf r) (is_end l) (λ e. t) (λ e. tt))

  module _ (c : ℕ) (d : List ℕ) (t : (x : Bool) → Taken r (block c d x)) where
    etx-of : (l : List ℕ) → all r l ≡ true → StepOf r (after_etx c d l)
    unfolding after_etx
    etx-of l a =
        let x = carried4 l is checksum c d in
        choice (StepOf r) (l ! 0 is STX || l ! 0 is EOT) (λ e. follow-of (block c d true) l (t true) a)
        (λ e. choice (StepOf r) (is_carried4 l) (λ e. follow-of (block c d x) (drop 4 l) (t x) (all_drop r 4 l a)) (λ e. tt))

    data_of : (l : List ℕ) → all r l ≡ true → StepOf r (after_data c d l)
    unfolding after_data
    data_of l a =
        choice (StepOf r) (l ! 0 is ETX) (λ e. etx-of (drop 1 l) (all_drop r 1 l a))
        (λ e. choice (StepOf r) (is_end l) (λ e. t true) (λ e. tt))

  -- what stands where a block should start, in bytes that pass r
  pub block_of : (l : List ℕ) → all r l ≡ true → StepOf r (block_at l)
  unfolding block_at
  block_of l a =
      let rest = drop 2 l in
      let kept : all r rest ≡ true = all_drop r 2 l a in
      choice (StepOf r) (l ! 0 is STX && is_plain (l ! 1))
      (λ e.
      let p : is_plain (l ! 1) ≡ true = and_right (l ! 0 is STX) (is_plain (l ! 1)) e in
      data_of (l ! 1) (front is_plain rest)
      (λ t. record {
        plain = record { leading = p; following = front-all is_plain rest };
        passing = record { leading = all-at r l 1 a (plain-there (l ! 1) p); following = front-keeps is_plain r rest kept };
      })
      (behind is_plain rest) (behind-keeps is_plain r rest kept))
      (λ e. tt)

  prepend-of : (n : ℕ) (b : Block) (x : Body) → Taken r b → BodyOf r n x → BodyOf r (suc n) (prepend b x)
  unfolding prepend
  prepend-of n b bad_body t g = tt
  prepend-of n b (body bs) t g =
      record { plain = (t.plain, g.plain); passing = (t.passing, g.passing); some = omega arith; few = omega arith }

  onward-of : (n : ℕ) (s : Step) (f : List ℕ → Body) → StepOf r s → ((l : List ℕ) → all r l ≡ true → BodyOf r n (f l))
      → BodyOf r (suc n) (onward s f)
  unfolding onward
  onward-of n stray f g k = tt
  onward-of n (more b l) f g k = prepend-of n b (f l) g.0 (k l g.1)
  onward-of n (last b) f g k =
      record { plain = (g.plain, tt); passing = (g.passing, tt); some = omega arith; few = omega arith }

  -- the blocks of bytes that pass r
  pub blocks-of : (n : ℕ) (l : List ℕ) → all r l ≡ true → BodyOf r n (blocks n l)
  unfolding blocks
  blocks-of zero l a = tt
  blocks-of (suc n) l a = onward-of n (block_at l) (λ x. blocks n x) (block_of l a) (λ x g. blocks-of n x g)
