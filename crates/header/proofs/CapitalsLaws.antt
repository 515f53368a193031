-- A header's capitals: where its bytes stand, and that boards are addressed alike by a header and its capitals.
use mathlib.Core.Path.{◌≡◌, refl, sym, ap, ap₂, ◌∙◌}
use mathlib.Core.Bool.{true, false, not, ◌&&◌, ◌||◌}
use mathlib.Core.List.{List, [], ◌∷◌}
use Prim.Native.Nat.{ℕ, zero, suc, ◌+◌, ◌/◌, ◌%◌}
use native.Mathlib.Omega.{arith}
use native.Mathlib.Nat.{add-zero, zero-add}
use lib.Dec.{lit<}
use lib.ListN.{length, drop}
use borrow.Author.Tests.{eqb-true, ne_eqb, not-true}
use Rattle.std.specs.Prelude.{if◌then◌else◌}
use Rattle.octets.specs.Choice.{◌is◌, ◌!◌, same}
use Rattle.octets.specs.Bytes.{COMMA, ZERO, ANY, PAIRS}
use Rattle.octets.specs.Carried.{is_small, capital}
use Rattle.octets.proofs.Tests.{choice, by-test, or-in, split}
use Rattle.octets.proofs.Capitals.{capital-other, capital-not-small, capital-again, capital-is}
use Rattle.octets.proofs.SlicesLaws.{same-long}
use Rattle.octets.proofs.Spots.{drop-on}
use Rattle.std.specs.List.{range_with_len, list_all}
use Rattle.std.proofs.Common.{drop_of_length-le}
use Rattle.header.specs.Addressing.{is_address_char, char_fits, address_fits, pair_fits, any_fits, addressed, starts}
use Rattle.header.specs.Header.{is_pair, is_pairs, is_sole, is_header}
use Rattle.header.specs.Capitals.{capital_at, capitals_from, header_capitals, no_small_from, no_small}

-- ---- a byte at a place

module _ (i x : ℕ) where
  at-type : i % 4 ≡ 0 → capital_at i x ≡ x
  unfolding capital_at
  at-type e = rw e

  at_other : (i % 4 ≡ 0 → ⊥) → capital_at i x ≡ capital x
  unfolding capital_at
  at_other n = rw (ne_eqb (i % 4) 0 n)

-- a byte that is missing is its own capital
at-missing : (i : ℕ) → capital_at i 0 ≡ 0
unfolding capital_at capital
at-missing i = choice (λ (y : ℕ). y ≡ 0) (i % 4 is 0) (λ e. refl) (λ e. refl)

-- ---- a text from place i on

capitals-long : (i : ℕ) (h : List ℕ) → length (capitals_from i h) ≡ length h
unfolding capitals_from
capitals-long i [] = refl
capitals-long i (x ∷ h) = ap suc (capitals-long (i + 1) h)

capitals-at : (i : ℕ) (h : List ℕ) (k : ℕ) → capitals_from i h ! k ≡ capital_at (i + k) (h ! k)
unfolding capitals_from
capitals-at i [] k = sym (at-missing (i + k))
capitals-at i (x ∷ h) zero = ap (λ (k : ℕ). capital_at k x) (sym (add-zero i))
capitals-at i (x ∷ h) (suc k) = capitals-at (i + 1) h k ∙ ap (λ (j : ℕ). capital_at j (h ! k)) (omega arith)

-- a type code stands at every fourth place
capitals-four : (i : ℕ) (h : List ℕ) → capitals_from (i + 4) h ≡ capitals_from i h
unfolding capitals_from capital_at
capitals-four i [] = refl
capitals-four i (x ∷ h) =
    let e : (i + 4) % 4 ≡ i % 4 = omega arith in
    let z : i + 4 + 1 ≡ i + 1 + 4 = omega arith in
    rw (e, z) (ap (λ (l : List ℕ). (if i % 4 is 0 then x else capital x) ∷ l) (capitals-four (i + 1) h))

-- an address character in capitals is no small letter
capitals-none : (i : ℕ) (h : List ℕ) → no_small_from i (capitals_from i h) ≡ true
unfolding capitals_from no_small_from capital_at
capitals-none i [] = refl
capitals-none i (x ∷ h) =
    by-test (i % 4 is 0) (λ e. rw e (capitals-none (i + 1) h)) (λ e. rw (e, capital-not-small x) (capitals-none (i + 1) h))

-- where none is, the text is its own capitals
capitals-own : (i : ℕ) (h : List ℕ) → no_small_from i h ≡ true → capitals_from i h ≡ h
unfolding capitals_from no_small_from capital_at
capitals-own i [] e = refl
capitals-own i (x ∷ h) e =
    let p = split (i % 4 is 0 || not (is_small x)) e in
    let own : capital_at i x ≡ x =
    or-in (λ z. at-type i x (eqb-true (i % 4) 0 z))
    (λ n. choice (λ (y : ℕ). y ≡ x) (i % 4 is 0) (λ z. refl) (λ z. capital-other x (not-true (is_small x) n))) p.0 in
    ap₂ ◌∷◌ own (capitals-own (i + 1) h p.1)

-- ---- a header's capitals

module _ (h : List ℕ) where
  -- they are as long
  pub header-long : length (header_capitals h) ≡ length h
  unfolding header_capitals
  header-long = capitals-long 0 h

  -- a byte of them
  pub header_at : (k : ℕ) → header_capitals h ! k ≡ capital_at k (h ! k)
  unfolding header_capitals
  header_at k = capitals-at 0 h k ∙ ap (λ (j : ℕ). capital_at j (h ! k)) (zero-add k)

  -- none of their address characters is a small letter
  pub header-none : no_small (header_capitals h) ≡ true
  unfolding header_capitals no_small
  header-none = capitals-none 0 h

  -- a header in capitals is its own capitals
  pub header-own : no_small h ≡ true → header_capitals h ≡ h
  unfolding header_capitals no_small
  header-own e = capitals-own 0 h e

-- those behind the first pair
header-behind : (h : List ℕ) → drop 4 (header_capitals h) ≡ header_capitals (drop 4 h)
unfolding header_capitals capitals_from
header-behind [] = refl
header-behind (a ∷ []) = refl
header-behind (a ∷ b ∷ []) = refl
header-behind (a ∷ b ∷ c ∷ []) = refl
header-behind (a ∷ b ∷ c ∷ d ∷ h) = capitals-four 0 h

-- ---- the pair that a header starts with, and its capitals

char-taken : (c : ℕ) → is_address_char (capital c) ≡ is_address_char c
char-taken c = rw (capital-again c, capital-is c ANY (lit< tt))

char-fits : (c n : ℕ) → char_fits (capital c) n ≡ char_fits c n
char-fits c n = rw (capital-again c, capital-is c ANY (lit< tt))

address-fits : (a b address : ℕ) → address_fits (capital a) (capital b) address ≡ address_fits a b address
unfolding address_fits
address-fits a b address =
    rw (capital-is a ZERO (lit< tt), capital-is b ZERO (lit< tt), char-fits a (address / 16), char-fits b (address % 16))

module _ (h : List ℕ) where
  first_byte : header_capitals h ! 0 ≡ h ! 0
  first_byte = header_at h 0 ∙ at-type 0 (h ! 0) refl

  second-byte : header_capitals h ! 1 ≡ capital (h ! 1)
  second-byte = header_at h 1 ∙ at_other 1 (h ! 1) (λ e. omega arith)

  third-byte : header_capitals h ! 2 ≡ capital (h ! 2)
  third-byte = header_at h 2 ∙ at_other 2 (h ! 2) (λ e. omega arith)

  comma : (header_capitals h ! 3 is COMMA) ≡ (h ! 3 is COMMA)
  comma = ap (λ (x : ℕ). x is COMMA) (header_at h 3 ∙ at_other 3 (h ! 3) (λ e. omega arith)) ∙ capital-is (h ! 3) COMMA (lit< tt)

  pair_same : is_pair (header_capitals h) ≡ is_pair h
  unfolding is_pair
  pair_same = rw (first_byte, second-byte, third-byte, char-taken (h ! 1), char-taken (h ! 2))

  sole-same : is_sole (header_capitals h) ≡ is_sole h
  unfolding is_sole
  sole-same = rw (second-byte, third-byte, char-taken (h ! 1), char-taken (h ! 2), header-long h)

  -- a header and its capitals have one type
  pub starts-same : starts (header_capitals h) ≡ starts h
  unfolding starts
  starts-same = rw first_byte

  fits-same : (own address : ℕ) → pair_fits own address (header_capitals h) ≡ pair_fits own address h
  unfolding pair_fits
  fits-same own address = rw (first_byte, second-byte, third-byte, address-fits (h ! 1) (h ! 2) address)

-- ---- all pairs

any_same : (n own address : ℕ) (h : List ℕ) → any_fits n own address (header_capitals h) ≡ any_fits n own address h
unfolding any_fits
any_same zero own address h = refl
any_same (suc n) own address h = rw (fits-same h own address, header-behind h, any_same n own address (drop 4 h))

pairs-same : (n : ℕ) (h : List ℕ) → is_pairs n (header_capitals h) ≡ is_pairs n h
unfolding is_pairs
pairs-same zero h = refl
pairs-same (suc n) h = rw (pair_same h, header-long h, comma h, header-behind h, pairs-same n (drop 4 h))

module _ (h : List ℕ) where
  -- a board is addressed alike by a header and its capitals
  pub addressed-same : (own address : ℕ) → addressed own address (header_capitals h) ≡ addressed own address h
  unfolding addressed
  addressed-same own address = any_same PAIRS own address h

  -- the capitals of a good header are a good header
  pub header-same : is_header (header_capitals h) ≡ is_header h
  unfolding is_header
  header-same = rw (starts-same h, sole-same h, pairs-same PAIRS h)

-- ---- two headers' capitals, place by place

-- two lists of one length, byte by byte
same-from : (a b : List ℕ) (n i : ℕ) → i + n ≡ length a → length a ≡ length b
    → list_all (λ k. a ! k is b ! k) (range_with_len i n) ≡ same (drop i a) (drop i b)
unfolding same
same-from a b zero i p q =
    let x : drop i a ≡ [] = drop_of_length-le a (omega arith) in
    let y : drop i b ≡ [] = drop_of_length-le b (omega arith) in
    rw (x, y)
same-from a b (suc n) i p q =
    rw (drop-on a i (omega arith), drop-on b i (omega arith)) (ap (λ t. a ! i is b ! i && t) (same-from a b n (i + 1) (omega arith) q))

module _ (h g : List ℕ) where
  pub caps-differ : (length h ≡ length g → ⊥) → false ≡ same (header_capitals h) (header_capitals g)
  caps-differ n = same-long (header_capitals h) (header_capitals g) (λ e. n (sym (header-long h) ∙ e ∙ header-long g))

  pub caps-all : length h ≡ length g
      → list_all (λ i. header_capitals h ! i is header_capitals g ! i) (range_with_len 0 (length h)) ≡ same (header_capitals h) (header_capitals g)
  caps-all e = same-from (header_capitals h) (header_capitals g) (length h) 0 (omega (arith, header-long h)) (header-long h ∙ e ∙ sym (header-long g))
