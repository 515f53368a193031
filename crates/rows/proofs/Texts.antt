-- Laws of a text by its first byte.
use Prim.Native.Nat.{ℕ, zero, suc, ◌+◌, ◌<◌, ◌≤◌}
use mathlib.Core.Path.{◌≡◌, refl}
use mathlib.Core.Bool.{true, false}
use mathlib.Core.List.{List, [], ◌∷◌}
use borrow.Author.Tests.{eq-eqb, ne_eqb}
use lib.ListN.{length, drop, drop_of_length-le}
use Rattle.octets.specs.Choice.{◌!◌, front, behind, all}
use Rattle.octets.proofs.Spots.{drop-on}
use Rattle.rows.specs.Rows.{CR, LF, without_feeds, not_end, row_text, next_text, is_pixel, well_formed}

-- ---- line feeds

module _ (s : List ℕ) (i : ℕ) where
  pub feed-go : i < length s → s ! i ≡ LF → without_feeds (drop i s) ≡ without_feeds (drop (i + 1) s)
  unfolding without_feeds
  feed-go h e = rw (drop-on s i h, eq-eqb (s ! i) LF e)

  pub feed-stay : i < length s → (s ! i ≡ LF → ⊥) → without_feeds (drop i s) ≡ s ! i ∷ without_feeds (drop (i + 1) s)
  unfolding without_feeds
  feed-stay h n = rw (drop-on s i h, ne_eqb (s ! i) LF n)

  pub feed-end : length s ≤ i → without_feeds (drop i s) ≡ []
  unfolding without_feeds
  feed-end h = rw (drop_of_length-le s h)

-- ---- the first row's text, and what is behind it

module _ (x : ℕ) (l : List ℕ) where
  pub text-end : x ≡ CR → row_text (x ∷ l) ≡ []
  unfolding row_text front not_end
  text-end e = rw (eq-eqb x CR e)

  pub next-end : x ≡ CR → next_text (x ∷ l) ≡ l
  unfolding next_text behind not_end
  next-end e = rw (eq-eqb x CR e)

  pub text-on : (x ≡ CR → ⊥) → row_text (x ∷ l) ≡ x ∷ row_text l
  unfolding row_text front not_end
  text-on n = rw (ne_eqb x CR n)

  pub next-on : (x ≡ CR → ⊥) → next_text (x ∷ l) ≡ next_text l
  unfolding next_text behind not_end
  next-on n = rw (ne_eqb x CR n)

pub text-none : row_text [] ≡ []
unfolding row_text front
text-none = refl

pub next-none : next_text [] ≡ []
unfolding next_text behind
next-none = refl

-- ---- well formed, by the first byte

module _ (h x : ℕ) (l : List ℕ) where
  pub form-end : x ≡ CR → well_formed (suc h) (x ∷ l) ≡ well_formed h l
  unfolding well_formed all
  form-end e = rw (text-end x l e, next-end x l e)

  pub form-on : (x ≡ CR → ⊥) → is_pixel x ≡ true → well_formed (suc h) (x ∷ l) ≡ well_formed (suc h) l
  unfolding well_formed all
  form-on n e = rw (text-on x l n, next-on x l n, e)

  pub form-bad : (x ≡ CR → ⊥) → is_pixel x ≡ false → well_formed (suc h) (x ∷ l) ≡ false
  unfolding well_formed all
  form-bad n e = rw (text-on x l n, e)

pub form-past : (x : ℕ) (l : List ℕ) → well_formed zero (x ∷ l) ≡ false
unfolding well_formed
form-past x l = refl

pub form-none : (h : ℕ) → well_formed h [] ≡ true
unfolding well_formed all
form-none zero = refl
form-none (suc h) = rw (text-none, next-none) (form-none h)
