-- What is written as a body reads back, block by block, each with a right sum.
use mathlib.Core.Path.{◌≡◌, refl, ap, ◌∙◌}
use mathlib.Core.Bool.{false}
use mathlib.Core.List.{List, [], ◌∷◌, ◌++◌, map}
use Prim.Native.Nat.{ℕ, zero, suc, ◌/◌, ◌<◌, ◌≤◌}
use native.Mathlib.Nat.{le_of_suc-le-suc, not-suc-le-zero}
use native.Mathlib.Omega.{arith}
use lib.ListN.{length}
use borrow.Author.Tests.{eq-eqb, ne_eqb}
use Rattle.octets.specs.Choice.{◌is◌}
use Rattle.octets.specs.Hex.{digit, in_hex4}
use Rattle.octets.specs.Bytes.{ETX, EOT, BLOCKS, is_plain}
use Rattle.octets.proofs.Tests.{choice}
use Rattle.octets.proofs.Lists.{front-stop, behind-stop}
use Rattle.octets.proofs.Digits.{digit-big}
use Rattle.octets.proofs.Capitals.{is_carried4-in_hex4, carried4-in_hex4}
use Rattle.body.specs.Sum.{checksum}
use Rattle.body.specs.Body.{Block, block, more, last, body, follow, after_etx, after_data, block_at, prepend, onward, blocks}
use Rattle.body.proofs.Plain.{BlockOf, Plain, righted, checksum-small}
use Rattle.forms.specs.Forms.{opened, plain_rest, plain_body, summed_body, body_in}

-- ---- one block

-- a block whose data ends at a byte that is not plain
at_block : (b : Block) (t : ℕ) (l : List ℕ) → BlockOf is_plain b → is_plain t ≡ false
    → block_at (opened b (t ∷ l)) ≡ after_data b.command b.text (t ∷ l)
unfolding block_at
at_block b t l p e =
    rw (p.leading, front-stop is_plain b.text t l p.following e, behind-stop is_plain b.text t l p.following e)

-- EOT straight after the data
at_last : (b : Block) → BlockOf is_plain b → block_at (plain_body (b ∷ [])) ≡ last (righted b)
unfolding plain_body plain_rest after_data is_plain
at_last b p = at_block b EOT [] p refl

-- ETX and another block after the data
at_more : (b c : Block) (bs : List Block) → BlockOf is_plain b
    → block_at (plain_body (b ∷ c ∷ bs)) ≡ more (righted b) (plain_body (c ∷ bs))
unfolding plain_body plain_rest after_data after_etx follow is_plain
at_more b c bs p = at_block b ETX (plain_body (c ∷ bs)) p refl

-- four digits after ETX
after-digits : (c : ℕ) (d : List ℕ) (v : ℕ) (l : List ℕ) → v < 65536
    → after_etx c d (in_hex4 v ++ l) ≡ follow (block c d (v is checksum c d)) l
unfolding after_etx in_hex4
after-digits c d v l h =
    simp (
      ne_eqb (digit (v / 4096)) 2 (λ e. omega (arith, digit-big (v / 4096))),
      ne_eqb (digit (v / 4096)) 4 (λ e. omega (arith, digit-big (v / 4096))),
      is_carried4-in_hex4 v h l,
      carried4-in_hex4 v h l,
    )

-- ETX and the checksum after the data
at-summed : (b : Block) (bs : List Block) → BlockOf is_plain b → block_at (summed_body (b ∷ bs)) ≡ follow (righted b) (summed_body bs)
unfolding summed_body after_data is_plain
at-summed b bs p =
    let v = checksum b.command b.text in
    at_block b ETX (in_hex4 v ++ summed_body bs) p refl
    ∙ after-digits b.command b.text v (summed_body bs) (checksum-small b.command b.text)
    ∙ ap (λ r. follow (block b.command b.text r) (summed_body bs)) (eq-eqb v v refl)

at-summed-last : (b : Block) → BlockOf is_plain b → block_at (summed_body (b ∷ [])) ≡ last (righted b)
at-summed-last b p = at-summed b [] p ∙ unfold follow summed_body in refl

at-summed-more : (b c : Block) (bs : List Block) → BlockOf is_plain b
    → block_at (summed_body (b ∷ c ∷ bs)) ≡ more (righted b) (summed_body (c ∷ bs))
at-summed-more b c bs p = at-summed b (c ∷ bs) p ∙ unfold follow summed_body in refl

-- ---- 1 to n blocks

-- a way to write a body of which each block reads back
module _ (w : List Block → List ℕ) (one : (b : Block) → BlockOf is_plain b → block_at (w (b ∷ [])) ≡ last (righted b))
    (next : (b c : Block) (bs : List Block) → BlockOf is_plain b → block_at (w (b ∷ c ∷ bs)) ≡ more (righted b) (w (c ∷ bs))) where
  back_from : (n : ℕ) (b : Block) (bs : List Block) → Plain (b ∷ bs) → length bs < n → blocks n (w (b ∷ bs)) ≡ body (map righted (b ∷ bs))
  unfolding blocks onward prepend
  back_from zero b bs p h = absurd (not-suc-le-zero h)
  back_from (suc n) b [] p h = rw (one b p.0)
  back_from (suc n) b (c ∷ bs) p h =
      rw (next b c bs p.0) (ap (prepend (righted b)) (back_from n c bs p.1 (le_of_suc-le-suc h)))

  back : (bs : List Block) → Plain bs → 1 ≤ length bs → length bs ≤ 64 → blocks BLOCKS (w bs) ≡ body (map righted bs)
  back [] p a z = absurd (not-suc-le-zero a)
  back (b ∷ bs) p a z = back_from 64 b bs p z

-- blocks parted by ETX
pub back-plain : (bs : List Block) → Plain bs → 1 ≤ length bs → length bs ≤ 64 → blocks BLOCKS (plain_body bs) ≡ body (map righted bs)
back-plain = back plain_body at_last at_more

-- blocks with their sums
pub back-summed : (bs : List Block) → Plain bs → 1 ≤ length bs → length bs ≤ 64 → blocks BLOCKS (summed_body bs) ≡ body (map righted bs)
back-summed = back summed_body at-summed-last at-summed-more

-- the body of any form
pub back-body : (k : ℕ) (bs : List Block) → Plain bs → 1 ≤ length bs → length bs ≤ 64 → blocks BLOCKS (body_in k bs) ≡ body (map righted bs)
unfolding body_in
back-body k bs p a z =
    choice (λ l. blocks BLOCKS l ≡ body (map righted bs)) (k is 1) (λ e. back-plain bs p a z) (λ e. back-summed bs p a z)
