-- Blocks whose bytes all pass a test, blocks as they read when no sum is wrong, and how large a sum is.
use Rattle.std.proofs.Common.{◌≡◌, ℕ, ◌+◌, ◌%◌, ◌<◌, Bool, true, List, [], ◌∷◌, arith, lit<}
use Rattle.octets.specs.Choice.{all}
use Rattle.octets.specs.Bytes.{is_plain}
use Rattle.body.specs.Sum.{sum_from, summed, checksum}
use Rattle.body.specs.Body.{Block, block}

-- a block whose command and data pass a test
pub record BlockOf (p : ℕ → Bool) (b : Block) : Type 0 where
  pub leading : p b.command ≡ true
  pub following : all p b.text ≡ true

-- blocks of such
abbrev pub BlocksOf : (ℕ → Bool) → List Block → Type 0
BlocksOf p [] = Unit {0}
BlocksOf p (b ∷ bs) = BlockOf p b × BlocksOf p bs

-- "Both are bytes 05H to FFH."
abbrev pub Plain : List Block → Type 0
Plain bs = BlocksOf is_plain bs

-- a block as it reads when its sum is right or absent
abbrev pub righted : Block → Block
righted b = block b.command b.text true

-- a sum that starts below 65536 stays below it
pub sum-small : (s : List ℕ) (a : ℕ) → a < 65536 → sum_from a s < 65536
unfolding sum_from
sum-small [] a h = h
sum-small (x ∷ s) a h = sum-small s ((a + x) % 65536) (omega arith)

-- a checksum is below 65536
pub checksum-small : (c : ℕ) (d : List ℕ) → checksum c d < 65536
unfolding checksum
checksum-small c d = sum-small (summed c d) 0 (lit< tt)
