-- "Body: 1 to 64 blocks, then EOT as the very last byte."
use Rattle.std.specs.Prelude.{ℕ, zero, suc, Bool, true, false, ◌&&◌, ◌||◌, List, [], ◌∷◌, length, drop, if◌then◌else◌}
use Rattle.octets.specs.Choice.{◌is◌, ◌!◌, front, behind}
use Rattle.octets.specs.Carried.{is_carried4, carried4}
use Rattle.octets.specs.Bytes.{STX, ETX, EOT, B, F, H, J, N, is_plain}
use Rattle.body.specs.Sum.{checksum}

-- a command byte, its data, and whether its sum is right; without a sum it counts as right
pub record Block : Type 0 where
  pub command : ℕ
  pub text : List ℕ
  pub right : Bool

-- such a block
abbrev pub block : ℕ → List ℕ → Bool → Block
block c d r = record { command = c; text = d; right = r }

-- what stands where a block should start: none; one, and the bytes from the next STX on; or the last
pub data Step : Type 0 where
  stray : Step
  more : Block → List ℕ → Step
  last : Block → Step

-- the blocks of a body, or a bad body
pub data Body : Type 0 where
  bad_body : Body
  body : List Block → Body

-- "EOT as the very last byte"
abbrev pub is_end : List ℕ → Bool
is_end l = l ! 0 is EOT && length l is 1

-- "then STX or EOT"
unfoldable pub follow : Block → List ℕ → Step
follow b l = if l ! 0 is STX then more b l else if is_end l then last b else stray

-- "After ETX, STX or EOT means no checksum; otherwise four upper-case hex digits, then STX or EOT."; request 4: small letters too
unfoldable pub after_etx : ℕ → List ℕ → List ℕ → Step
after_etx c d l =
    if l ! 0 is STX || l ! 0 is EOT then follow (block c d true) l
    else if is_carried4 l then follow (block c d (carried4 l is checksum c d)) (drop 4 l)
    else stray

-- "ETX ends a block; only the last may end at EOT without it."
unfoldable pub after_data : ℕ → List ℕ → List ℕ → Step
after_data c d l =
    if l ! 0 is ETX then after_etx c d (drop 1 l)
    else if is_end l then last (block c d true)
    else stray

-- "A block is STX, a command byte, data. Both are bytes 05H to FFH."
unfoldable pub block_at : List ℕ → Step
block_at l =
    if l ! 0 is STX && is_plain (l ! 1) then after_data (l ! 1) (front is_plain (drop 2 l)) (behind is_plain (drop 2 l))
    else stray

-- a block in front of others
unfoldable pub prepend : Block → Body → Body
prepend b bad_body = bad_body
prepend b (body bs) = body (b ∷ bs)

-- a step, and the body that a function makes of the bytes behind it
unfoldable pub onward : Step → (List ℕ → Body) → Body
onward stray rest = bad_body
onward (more b l) rest = prepend b (rest l)
onward (last b) rest = body (b ∷ [])

-- 1 to n blocks
unfoldable pub blocks : ℕ → List ℕ → Body
blocks zero l = bad_body
blocks (suc n) l = onward (block_at l) (λ r. blocks n r)

-- "A read (codes "B", "F", "H", "J", "N")"
unfoldable pub is_read : ℕ → Bool
is_read c = c is B || c is F || c is H || c is J || c is N

-- "may only be the last block, good sum or not": a block stands after a read; the test says whether the one before is a read
unfoldable pub read_not_last : Bool → List Block → Bool
read_not_last before [] = false
read_not_last before (b ∷ bs) = before || read_not_last (is_read b.command) bs

-- a block is a read
unfoldable pub has_read : List Block → Bool
has_read [] = false
has_read (b ∷ bs) = is_read b.command || has_read bs

-- no block's sum is wrong
unfoldable pub all_right : List Block → Bool
all_right [] = true
all_right (b ∷ bs) = b.right && all_right bs
