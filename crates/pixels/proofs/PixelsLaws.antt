-- A pixel read, a pixel put, all of them tested.
use Prim.Native.Nat.{ℕ, zero, suc, ◌+◌, ◌*◌, ◌/◌, ◌%◌, ◌<◌, ◌≤◌}
use mathlib.Core.Path.{◌≡◌, refl, sym, ap, ◌∙◌}
use mathlib.Core.Bool.{Bool, ◌&&◌}
use mathlib.Core.List.{List, [], ◌∷◌}
use native.Mathlib.Omega.{arith}
use lib.ListN.{length, drop, set}
use Rattle.octets.specs.Choice.{◌!◌, ◌is◌, ◌≤?◌, all}
use Rattle.octets.specs.Bytes.{is_nul}
use Rattle.octets.proofs.Tests.{and_assoc, and-some}
use Rattle.std.specs.List.{fold}
use Rattle.pixels.specs.Pixels.{pixels_of, bytes_for, is_shade, sound_picture}
use Rattle.pixels.specs.InnerHalves.{with_half, are_shades, Pixel}

pub length-pixels : (s : List ℕ) → length (pixels_of s) ≡ length s * 2
unfolding pixels_of
length-pixels [] = refl
length-pixels (x ∷ s) = omega (arith, length-pixels s)

-- ---- one pixel

next-half : (k : ℕ) → suc (suc k) / 2 ≡ suc (k / 2)
next-half k = omega arith

-- the upper half of its byte
pub upper : (s : List ℕ) (k : ℕ) → k % 2 ≡ 0 → pixels_of s ! k ≡ s ! (k / 2) / 16
unfolding pixels_of
upper [] k h = refl
upper (x ∷ s) zero h = refl
upper (x ∷ s) (suc zero) h = absurd (omega arith)
upper (x ∷ s) (suc (suc k)) h = rw (next-half k) (upper s k (omega arith))

-- the lower half
pub lower : (s : List ℕ) (k : ℕ) → (k % 2 ≡ 0 → ⊥) → pixels_of s ! k ≡ s ! (k / 2) % 16
unfolding pixels_of
lower [] k h = refl
lower (x ∷ s) zero h = absurd (h refl)
lower (x ∷ s) (suc zero) h = refl
lower (x ∷ s) (suc (suc k)) h = rw (next-half k) (lower s k (λ e. h (omega arith)))

pub read_upper : (s : List ℕ) (k b : ℕ) → b ≡ s ! (k / 2) → b < 256 → k % 2 ≡ 0 → Pixel s k (b / 16)
read_upper s k b e f h = record { read = rw e (sym (upper s k h)); small = omega arith }

pub read_lower : (s : List ℕ) (k b : ℕ) → b ≡ s ! (k / 2) → (k % 2 ≡ 0 → ⊥) → Pixel s k (b % 16)
read_lower s k b e h = record { read = rw e (sym (lower s k h)); small = omega arith }

-- ---- a pixel put

-- only that pixel changes
pub put-pixel : (s : List ℕ) (k v : ℕ) → v < 16 → pixels_of (set s (k / 2) (with_half k (s ! (k / 2)) v)) ≡ set (pixels_of s) k v
unfolding pixels_of with_half
put-pixel [] k v h = refl
put-pixel (x ∷ s) zero v h =
    let a : (v * 16 + x % 16) / 16 ≡ v = omega arith in
    let b : (v * 16 + x % 16) % 16 ≡ x % 16 = omega arith in
    rw (a, b)
put-pixel (x ∷ s) (suc zero) v h =
    let a : (x / 16 * 16 + v) / 16 ≡ x / 16 = omega arith in
    let b : (x / 16 * 16 + v) % 16 ≡ v = omega arith in
    rw (a, b)
put-pixel (x ∷ s) (suc (suc k)) v h =
    let e : suc (suc k) % 2 ≡ k % 2 = omega arith in
    rw (next-half k, e) (ap (λ r. x / 16 ∷ x % 16 ∷ r) (put-pixel s k v h))

pub put-told : (s : List ℕ) (k v b n : ℕ) (s' : List ℕ) → v < 16 → b ≡ s ! (k / 2) → n ≡ with_half k b v → s' ≡ set s (k / 2) n → pixels_of s' ≡ set (pixels_of s) k v
put-told s k v b n s' h e f g = rw (g, f, e) (put-pixel s k v h)

-- ---- all of them tested

pub shades-all : (s : List ℕ) → all are_shades s ≡ all is_shade (pixels_of s)
unfolding all pixels_of are_shades is_shade
shades-all [] = refl
shades-all (x ∷ s) = and_assoc (x / 16 ≤? 8) (x % 16 ≤? 8) (all are_shades s) ∙ ap (λ t. x / 16 ≤? 8 && (x % 16 ≤? 8 && t)) (shades-all s)

-- a fold that keeps whether all passed so far
pub fold_all : (p : ℕ → Bool) (s : List ℕ) (b : Bool) → fold (λ a x. a && p x) b s ≡ (b && all p s)
unfolding all
fold_all p [] b = sym (and-some b refl)
fold_all p (x ∷ s) b = fold_all p s (b && p x) ∙ and_assoc b (p x) (all p s)

-- at most one pixel is left
spare : (l : List ℕ) (n : ℕ) → length l ≤ n + 1 → all is_nul (drop n l) ≡ (l ! n is 0)
unfolding all is_nul
spare [] zero h = refl
spare [] (suc n) h = refl
spare (x ∷ []) zero h = and-some (x is 0) refl
spare (x ∷ y ∷ l) zero h = absurd (omega arith)
spare (x ∷ l) (suc n) h = spare l n (omega arith)

pub sound-told : (n : ℕ) (s : List ℕ) → length s ≡ bytes_for n → sound_picture n s ≡ (all are_shades s && pixels_of s ! n is 0)
unfolding sound_picture
sound-told n s l = rw (← shades-all s) (ap (λ t. all are_shades s && t) (spare (pixels_of s) n (omega (arith, length-pixels s))))

pub ruleset laws = (read_upper, read_lower, put-told, sound-told)
