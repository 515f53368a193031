-- The pictures of a store: one of them replaced, and all of them off.
use Prim.Native.Nat.{ℕ, zero, suc, ◌+◌, ◌-◌, ◌<◌, ◌≤◌}
use mathlib.Core.Path.{◌≡◌, refl, ap, ◌∙◌}
use mathlib.Core.Bool.{true}
use mathlib.Core.List.{List, [], ◌∷◌, ◌++◌}
use native.Mathlib.Omega.{arith}
use native.Mathlib.Nat.{zero-add}
use borrow.Author.Tests.{le-leb, leb-true}
use lib.ListN.{length, take, drop, set, length-drop}
use lib.Seq.{sets, sets-eq, length-sets, drop-set-add, take-set-le, take-append_seam, drop-append_seam, drop-drop}
use Rattle.octets.specs.Choice.{◌!◌, ◌≤?◌}
use Rattle.octets.specs.Buffer.{zeros, splice}
use Rattle.octets.proofs.Buffers.{length-zeros, zeros-nul, take-zeros, drop-zeros, splice-sets}
use Rattle.octets.proofs.Tests.{split}
use Rattle.pixels.specs.Pixels.{bytes_for, sound_picture}
use Rattle.pixels.specs.Store.{sound_store, total, place_of}
use Rattle.pixels.proofs.Picturing.{off-picture}

-- the first file's bytes, and the store behind them
pub record Sound (n : ℕ) (ns t : List ℕ) : Type 0 where
  pub room : bytes_for n ≤ length t
  pub first : sound_picture n (take (bytes_for n) t) ≡ true
  pub rest : sound_store ns (drop (bytes_for n) t) ≡ true

pub sound-store : (n : ℕ) (ns t : List ℕ) → sound_store (n ∷ ns) t ≡ true → Sound n ns t
unfolding sound_store
sound-store n ns t g =
    let p = split (bytes_for n ≤? length t) g in
    let q = split (sound_picture n (take (bytes_for n) t)) p.1 in
    record { room = leb-true (bytes_for n) (length t) p.0; first = q.0; rest = q.1 }

pub store-sound : (n : ℕ) (ns t : List ℕ) → Sound n ns t → sound_store (n ∷ ns) t ≡ true
unfolding sound_store
store-sound n ns t g = rw (le-leb (bytes_for n) (length t) g.room, g.first) g.rest

-- ---- bytes put behind a place, seen from that place on

drop-sets : (b : ℕ) (s : List ℕ) (k : ℕ) (x : List ℕ) → drop b (sets s (b + k) x) ≡ sets (drop b s) k x
drop-sets b s k [] = refl
drop-sets b s k (a ∷ x) =
    let e : suc (b + k) ≡ b + suc k = omega arith in
    rw e (drop-sets b (set s (b + k) a) (suc k) x ∙ ap (λ l. sets l (suc k) x) (drop-set-add b s k a))

take-sets : (b : ℕ) (s : List ℕ) (k : ℕ) (x : List ℕ) → b ≤ k → take b (sets s k x) ≡ take b s
take-sets b s k [] h = refl
take-sets b s k (a ∷ x) h = take-sets b (set s k a) (suc k) x (omega arith) ∙ take-set-le b s k a h

first-sets : (s x : List ℕ) → length x ≤ length s → (take (length x) (sets s 0 x) ≡ x) × (drop (length x) (sets s 0 x) ≡ drop (length x) s)
first-sets s x h =
    let e : sets s 0 x ≡ x ++ drop (length x) s = sets-eq x s 0 (omega arith) ∙ ap (λ n. x ++ drop n s) (zero-add (length x)) in
    (rw e (take-append_seam x (drop (length x) s)), rw e (drop-append_seam x (drop (length x) s)))

-- ---- the pictures

-- a sound store has room for each
pub inside : (ns t : List ℕ) (k : ℕ) → sound_store ns t ≡ true → k < length ns → place_of ns k + bytes_for (ns ! k) ≤ length t
unfolding place_of
inside [] t k g h = absurd (omega arith)
inside (n ∷ ns) t zero g h = omega (arith, (sound-store n ns t g).room)
inside (n ∷ ns) t (suc k) g h =
    let p = sound-store n ns t g in
    omega (arith, p.room, inside ns (drop (bytes_for n) t) k p.rest (omega arith), length-drop (bytes_for n) t)

-- and each is sound
pub each-sound : (ns t : List ℕ) (k : ℕ) → sound_store ns t ≡ true → k < length ns → sound_picture (ns ! k) (take (bytes_for (ns ! k)) (drop (place_of ns k) t)) ≡ true
unfolding place_of
each-sound [] t k g h = absurd (omega arith)
each-sound (n ∷ ns) t zero g h = (sound-store n ns t g).first
each-sound (n ∷ ns) t (suc k) g h =
    rw (← drop-drop (place_of ns k) (bytes_for n) t) (each-sound ns (drop (bytes_for n) t) k (sound-store n ns t g).rest (omega arith))

sound-sets : (ns t : List ℕ) (k : ℕ) (x : List ℕ) → sound_store ns t ≡ true → k < length ns → length x ≡ bytes_for (ns ! k) → sound_picture (ns ! k) x ≡ true
    → sound_store ns (sets t (place_of ns k) x) ≡ true
unfolding place_of
sound-sets [] t k x g h e f = absurd (omega arith)
sound-sets (n ∷ ns) t zero x g h e f =
    let p = sound-store n ns t g in
    let r = first-sets t x (omega (arith, p.room)) in
    let a : take (bytes_for n) (sets t 0 x) ≡ x = rw e at r.0 in
    let b : drop (bytes_for n) (sets t 0 x) ≡ drop (bytes_for n) t = rw e at r.1 in
    store-sound n ns (sets t 0 x) (record { room = omega (arith, p.room, length-sets t 0 x); first = rw a f; rest = rw b p.rest })
sound-sets (n ∷ ns) t (suc k) x g h e f =
    let p = sound-store n ns t g in
    let z = bytes_for n + place_of ns k in
    store-sound
    n
    ns
    (sets t z x)
    (record {
      room = omega (arith, p.room, length-sets t z x);
      first = rw (take-sets (bytes_for n) t z x (omega arith)) p.first;
      rest = rw (drop-sets (bytes_for n) t (place_of ns k) x) (sound-sets ns (drop (bytes_for n) t) k x p.rest (omega arith) e f);
    })

-- a sound picture in the place of another keeps the store sound
pub store_keeps : (ns t : List ℕ) (k : ℕ) (x : List ℕ) → sound_store ns t ≡ true → k < length ns → length x ≡ bytes_for (ns ! k) → sound_picture (ns ! k) x ≡ true
    → sound_store ns (splice t (place_of ns k) x) ≡ true
store_keeps ns t k x g h e f = rw (splice-sets t (place_of ns k) x (omega (arith, inside ns t k g h))) (sound-sets ns t k x g h e f)

-- and no byte of any other file changes
other-sets : (ns t : List ℕ) (j k : ℕ) (x : List ℕ) → sound_store ns t ≡ true → k < length ns → length x ≡ bytes_for (ns ! k) → (j ≡ k → ⊥) → j < length ns
    → take (bytes_for (ns ! j)) (drop (place_of ns j) (sets t (place_of ns k) x)) ≡ take (bytes_for (ns ! j)) (drop (place_of ns j) t)
unfolding place_of
other-sets [] t j k x g h e d i = absurd (omega arith)
other-sets (n ∷ ns) t zero zero x g h e d i = absurd (d refl)
other-sets (n ∷ ns) t zero (suc k) x g h e d i = take-sets (bytes_for n) t (bytes_for n + place_of ns k) x (omega arith)
other-sets (n ∷ ns) t (suc j) zero x g h e d i =
    let r = first-sets t x (omega (arith, (sound-store n ns t g).room)) in
    let b : drop (bytes_for n) (sets t 0 x) ≡ drop (bytes_for n) t = rw e at r.1 in
    rw (← drop-drop (place_of ns j) (bytes_for n) t, ← drop-drop (place_of ns j) (bytes_for n) (sets t 0 x), b)
other-sets (n ∷ ns) t (suc j) (suc k) x g h e d i =
    let z = bytes_for n + place_of ns k in
    rw (← drop-drop (place_of ns j) (bytes_for n) t, ← drop-drop (place_of ns j) (bytes_for n) (sets t z x), drop-sets (bytes_for n) t (place_of ns k) x)
    (other-sets ns (drop (bytes_for n) t) j k x (sound-store n ns t g).rest (omega arith) e (λ q. d (ap suc q)) (omega arith))

pub others-stay : (ns t : List ℕ) (j k : ℕ) (x : List ℕ) → sound_store ns t ≡ true → k < length ns → length x ≡ bytes_for (ns ! k) → (j ≡ k → ⊥) → j < length ns
    → take (bytes_for (ns ! j)) (drop (place_of ns j) (splice t (place_of ns k) x)) ≡ take (bytes_for (ns ! j)) (drop (place_of ns j) t)
others-stay ns t j k x g h e d i = rw (splice-sets t (place_of ns k) x (omega (arith, inside ns t k g h))) (other-sets ns t j k x g h e d i)

-- ---- a store that is off: a fresh board's, and after "$"

-- zeros that have room for all pictures
pub off-sound : (ns : List ℕ) (m : ℕ) → total ns ≤ m → sound_store ns (zeros m) ≡ true
unfolding sound_store total
off-sound [] m h = zeros-nul m
off-sound (n ∷ ns) m h =
    let a : bytes_for n ≤? length (zeros m) ≡ true = le-leb (bytes_for n) (length (zeros m)) (omega (arith, length-zeros m)) in
    rw (a, take-zeros (bytes_for n) m (omega arith), off-picture n (bytes_for n), drop-zeros (bytes_for n) m) (off-sound ns (m - bytes_for n) (omega arith))

-- and no sound store is shorter
pub sound-fits : (ns t : List ℕ) → sound_store ns t ≡ true → total ns ≤ length t
unfolding total
sound-fits [] t g = omega arith
sound-fits (n ∷ ns) t g =
    let p = sound-store n ns t g in
    omega (arith, p.room, sound-fits ns (drop (bytes_for n) t) p.rest, length-drop (bytes_for n) t)
