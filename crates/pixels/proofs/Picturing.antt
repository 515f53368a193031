-- Bytes of pixels and pixels of bytes, and when they are a sound picture.
use Prim.Native.Nat.{ℕ, zero, suc, ◌+◌, ◌-◌, ◌*◌, ◌/◌, ◌%◌, ◌≤◌}
use mathlib.Core.Path.{◌≡◌, refl, sym, ap, ap₂, ◌∙◌}
use mathlib.Core.Bool.{true}
use mathlib.Core.List.{List, [], ◌∷◌, ◌++◌}
use native.Mathlib.Omega.{arith}
use borrow.Author.Tests.{leb-true}
use lib.ListN.{length, take, drop, length-append, length-take, take-append-drop}
use lib.Seq.{take-append_seam, drop-append_seam}
use Rattle.octets.specs.Choice.{all}
use Rattle.octets.specs.Bytes.{is_nul}
use Rattle.octets.specs.Buffer.{zeros}
use Rattle.octets.proofs.Buffers.{length-zeros, zeros-nul, nul-zeros}
use Rattle.octets.proofs.Tests.{and_both, split}
use Rattle.octets.proofs.Lists.{all_append, all_head, all_tail, all_drop}
use Rattle.pixels.specs.Pixels.{pixels_of, bytes_of, bytes_for, is_shade, sound_picture}
use Rattle.pixels.proofs.PixelsLaws.{length-pixels}

pub bytes_back : (s : List ℕ) → bytes_of (pixels_of s) ≡ s
unfolding pixels_of bytes_of
bytes_back [] = refl
bytes_back (x ∷ s) = ap₂ (λ y l. y ∷ l) (omega arith) (bytes_back s)

-- a spare half is zero
pub spare-half : (ps : List ℕ) (k : ℕ) → length ps + k ≡ bytes_for (length ps) * 2 → bytes_of (ps ++ zeros k) ≡ bytes_of ps
unfolding bytes_of zeros
spare-half [] zero h = refl
spare-half [] (suc k) h = absurd (omega arith)
spare-half (p ∷ []) zero h = absurd (omega arith)
spare-half (p ∷ []) (suc zero) h = ap (λ y. y ∷ []) (omega arith)
spare-half (p ∷ []) (suc (suc k)) h = absurd (omega arith)
spare-half (p ∷ q ∷ ps) k h = ap (λ l. (p * 16 + q) ∷ l) (spare-half ps k (omega arith))

pub length-bytes : (ps : List ℕ) → length (bytes_of ps) ≡ bytes_for (length ps)
unfolding bytes_of
length-bytes [] = refl
length-bytes (p ∷ []) = refl
length-bytes (p ∷ q ∷ ps) = omega (arith, length-bytes ps)

pub pixels-zeros : (n : ℕ) → pixels_of (zeros n) ≡ zeros (n * 2)
unfolding pixels_of zeros
pixels-zeros zero = refl
pixels-zeros (suc n) = let e : suc n * 2 ≡ suc (suc (n * 2)) = omega arith in rw e (ap (λ l. 0 ∷ 0 ∷ l) (pixels-zeros n))

pub zeros-shades : (n : ℕ) → all is_shade (zeros n) ≡ true
unfolding zeros all is_shade
zeros-shades zero = refl
zeros-shades (suc n) = zeros-shades n

pub shade-few : (p : ℕ) → is_shade p ≡ true → p ≤ 8
unfolding is_shade
shade-few p e = leb-true p 8 e

-- the pixels of a picture's bytes are its pixels, and a spare one that is off
pub pixels-back : (ps : List ℕ) → all is_shade ps ≡ true → pixels_of (bytes_of ps) ≡ ps ++ zeros (bytes_for (length ps) * 2 - length ps)
unfolding pixels_of bytes_of zeros
pixels-back [] a = refl
pixels-back (p ∷ []) a =
    let e : p * 16 / 16 ≡ p = omega arith in
    let f : p * 16 % 16 ≡ 0 = omega arith in
    rw (e, f)
pixels-back (p ∷ q ∷ ps) a =
    let s : q ≤ 8 = shade-few q (all_head is_shade q ps (all_tail is_shade p (q ∷ ps) a)) in
    let e : (p * 16 + q) / 16 ≡ p = omega arith in
    let f : (p * 16 + q) % 16 ≡ q = omega arith in
    let g : bytes_for (suc (suc (length ps))) * 2 - suc (suc (length ps)) ≡ bytes_for (length ps) * 2 - length ps = omega arith in
    rw (e, f, g) (ap (λ l. p ∷ q ∷ l) (pixels-back ps (all_tail is_shade q ps (all_tail is_shade p (q ∷ ps) a))))

-- its first pixels are those that it was made of
pub pixels-first : (ps : List ℕ) → all is_shade ps ≡ true → take (length ps) (pixels_of (bytes_of ps)) ≡ ps
pixels-first ps a = rw (pixels-back ps a) (take-append_seam ps (zeros (bytes_for (length ps) * 2 - length ps)))

-- the bytes of pixels 0 to 8 are a sound picture
pub sound-bytes : (ps : List ℕ) → all is_shade ps ≡ true → sound_picture (length ps) (bytes_of ps) ≡ true
unfolding sound_picture
sound-bytes ps a =
    let k = bytes_for (length ps) * 2 - length ps in
    rw (pixels-back ps a)
    (and_both
    (all is_shade (ps ++ zeros k))
    (all is_nul (drop (length ps) (ps ++ zeros k)))
    (all_append is_shade ps (zeros k) a (zeros-shades k))
    (rw (drop-append_seam ps (zeros k)) (zeros-nul k)))

-- one that is off is sound
pub off-picture : (n k : ℕ) → sound_picture n (zeros k) ≡ true
unfolding sound_picture
off-picture n k =
    rw (pixels-zeros k)
    (and_both (all is_shade (zeros (k * 2))) (all is_nul (drop n (zeros (k * 2)))) (zeros-shades (k * 2)) (all_drop is_nul n (zeros (k * 2)) (zeros-nul (k * 2))))

module _ (n : ℕ) (s : List ℕ) (h : length s ≡ bytes_for n) (g : sound_picture n s ≡ true) where
  parts : (all is_shade (pixels_of s) ≡ true) × (all is_nul (drop n (pixels_of s)) ≡ true)
  unfolding sound_picture
  parts = split (all is_shade (pixels_of s)) g

  pub sound-shades : all is_shade (pixels_of s) ≡ true
  sound-shades = parts.0

  pub length_front : length (take n (pixels_of s)) ≡ n
  length_front = omega (arith, length-take n (pixels_of s), length-pixels s)

  -- a sound picture is the bytes of its first n pixels
  pub sound_back : bytes_of (take n (pixels_of s)) ≡ s
  sound_back =
      let k = length (drop n (pixels_of s)) in
      let z : drop n (pixels_of s) ≡ zeros k = nul-zeros (drop n (pixels_of s)) parts.1 in
      let w : take n (pixels_of s) ++ zeros k ≡ pixels_of s = ap (λ l. take n (pixels_of s) ++ l) (sym z) ∙ take-append-drop n (pixels_of s) in
      let q : length (take n (pixels_of s)) + k ≡ bytes_for (length (take n (pixels_of s))) * 2 = rw length_front (omega (arith, ap length w, length-append (take n (pixels_of s)) (zeros k), length-zeros k, length-pixels s, length_front)) in
      sym (spare-half (take n (pixels_of s)) k q) ∙ ap bytes_of w ∙ bytes_back s
