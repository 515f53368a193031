-- Bytes put into a buffer, one list behind the other: what each call of the code leaves is the piece that it is named after.
use mathlib.Core.Path.{◌≡◌, refl, sym, ap, ◌∙◌}
use mathlib.Core.Bool.{Bool, true, false}
use mathlib.Core.List.{List, [], ◌∷◌, ◌++◌}
use Prim.Native.Nat.{ℕ, ◌+◌, ◌/◌, ◌%◌, ◌<◌, ◌≤◌}
use native.Mathlib.Numerals.{add-one}
use native.Mathlib.Omega.{arith}
use borrow.Author.Rules.{rules}
use borrow.Author.Tests.{ne_eqb}
use lib.ListN.{length, take, drop, length-append, take-append-drop}
use lib.Seq.{length-sets, take-suc, take_all}
use Rattle.octets.specs.Choice.{◌!◌, ◌is◌}
use Rattle.octets.specs.Buffer.{zeros, splice}
use Rattle.octets.proofs.Buffers.{splice-sets, sets-append}
use Rattle.octets.specs.Bytes.{SOH, STX, ETX, ESCAPE}
use Rattle.octets.specs.Hex.{digit, in_hex4}
use Rattle.octets.proofs.Tests.{choice}
use Rattle.octets.proofs.Spots.{drop-on}
use Rattle.header.specs.Capitals.{header_capitals}
use Rattle.header.proofs.CapitalsLaws.{header-long}
use Rattle.body.specs.Sum.{checksum}
use Rattle.forms.specs.Forms.{is_itself, escape_of, nuls}
use Rattle.forms.specs.InnerPieces.{Takes, Puts, in_hex2, encode, parting, ending, piece, heading}
use Rattle.forms.proofs.FormNumbers.{kinds}
use Rattle.forms.proofs.PieceLaws.{encode-append, encode-none, encode-other, encode-itself, encode-escaped, encode-sum, hex4-halves}

-- ---- one list behind the other

pub puts_none : (o : List ℕ) (at : ℕ) → Puts o at [] o at
puts_none o at = record { stored = refl; moved = omega arith }

pub puts-join : {o o₁ o₂ : List ℕ} {at a n : ℕ} (x y : List ℕ) → Puts o at x o₁ a → Puts o₁ a y o₂ n → Puts o at (x ++ y) o₂ n
puts-join {o} {o₁} {o₂} {at} {a} x y p q =
    record {
      stored = q.stored ∙ rw (p.stored, p.moved) (sym (sets-append o at x y));
      moved = q.moved ∙ rw length-append (omega (arith, p.moved));
    }

-- the same of bytes that are given another way
pub puts-as : {o o₁ : List ℕ} {at n : ℕ} {x y : List ℕ} → y ≡ x → Puts o at x o₁ n → Puts o at y o₁ n
puts-as e p = rw e p

-- a buffer keeps its length
pub puts-long : {o o₁ : List ℕ} {at n : ℕ} {x : List ℕ} → Puts o at x o₁ n → length o₁ ≡ length o
puts-long {o} {at} {x} p = rw p.stored (length-sets o at x)

-- two lists behind each other, as a form carries them
pub joined : {o o₁ o₂ : List ℕ} {at a n : ℕ} (form : ℕ) (x y : List ℕ) → Puts o at (encode form x) o₁ a → Puts o₁ a (encode form y) o₂ n → Puts o at (encode form (x ++ y)) o₂ n
joined form x y p q = puts-as (encode-append form x y) (puts-join (encode form x) (encode form y) p q)

-- ---- places for one list behind the other

module _ {o : List ℕ} {at : ℕ} where
  -- the same of bytes that are given another way
  takes-as : {x y : List ℕ} → x ≡ y → Takes o at y → Takes o at x
  takes-as e t = rw e t

  module _ (form : ℕ) (x y : List ℕ) (t : Takes o at (encode form (x ++ y))) where
    both_long : length (encode form (x ++ y)) ≡ length (encode form x) + length (encode form y)
    both_long = rw (encode-append form x y, length-append)

    pub takes_front : Takes o at (encode form x)
    takes_front = record { room = omega (arith, both_long, t.room) }

    pub takes-behind : {o₁ : List ℕ} {a : ℕ} → Puts o at (encode form x) o₁ a → Takes o₁ a (encode form y)
    takes-behind p = record { room = omega (arith, both_long, t.room, p.moved, puts-long p) }

-- ---- a byte

-- places for it
module _ {o : List ℕ} {at : ℕ} (form b : ℕ) (t : Takes o at (encode form (b ∷ []))) where
  pub room-other : (form ≡ 3 → ⊥) → at < length o
  room-other n = omega (arith, (takes-as (sym (encode-other form (b ∷ []) n)) t).room)

  pub room-itself : (r : Bool) → r ≡ is_itself b → r ≡ true → at < length o
  room-itself r e k = omega (arith, (takes-as (sym (encode-itself form b (sym e ∙ k))) t).room)

  pub room-escaped : form ≡ 3 → (r : Bool) → r ≡ is_itself b → r ≡ false → at + 3 ≤ length o
  room-escaped f r e k = omega (arith, (takes-as (sym (encode-escaped form b f (sym e ∙ k))) t).room)

module _ {o o₁ : List ℕ} {at n : ℕ} (b : ℕ) where
  -- its two digits
  pub two-put : {o₂ : List ℕ} {a d e : ℕ} → Puts o₁ a (e ∷ []) o₂ n → e ≡ digit (b % 16) → Puts o at (d ∷ []) o₁ a → d ≡ digit (b / 16)
      → Puts o at (in_hex2 b) o₂ n
  two-put {d} {e} q f p g = rw (← f, ← g) (puts-join (d ∷ []) (e ∷ []) p q)

  -- its escape
  pub escape-put : {o₂ : List ℕ} {a : ℕ} → Puts o₁ a (in_hex2 b) o₂ n → Puts o at (ESCAPE ∷ []) o₁ a → Puts o at (escape_of b) o₂ n
  escape-put q p = puts-join (ESCAPE ∷ []) (in_hex2 b) p q

  -- it in a form
  pub one-other : (form : ℕ) → (form ≡ 3 → ⊥) → Puts o at (b ∷ []) o₁ n → Puts o at (encode form (b ∷ [])) o₁ n
  one-other form t p = puts-as (encode-other form (b ∷ []) t) p

  pub one-itself : (form : ℕ) (r : Bool) → r ≡ is_itself b → r ≡ true → Puts o at (b ∷ []) o₁ n → Puts o at (encode form (b ∷ [])) o₁ n
  one-itself form r e t p = puts-as (encode-itself form b (sym e ∙ t)) p

  pub one-escaped : (form : ℕ) → form ≡ 3 → (r : Bool) → r ≡ is_itself b → r ≡ false → Puts o at (escape_of b) o₁ n
      → Puts o at (encode form (b ∷ [])) o₁ n
  one-escaped form f r e t p = puts-as (encode-escaped form b f (sym e ∙ t)) p

-- a place on, in the same buffer
module _ {o o₁ : List ℕ} {at a x : ℕ} (p : Puts o at (x ∷ []) o₁ a) where
  pub room-one : at + 2 ≤ length o → a < length o₁
  room-one h = omega (arith, p.moved, puts-long p)

  pub room-two : at + 3 ≤ length o → a + 2 ≤ length o₁
  room-two h = omega (arith, p.moved, puts-long p)

pub ruleset bytes = (kinds, two-put, escape-put, one-other, one-itself, one-escaped, room-other, room-itself, room-escaped, room-one, room-two, rules)

-- ---- the bytes of a slice

-- the bytes before place i are put
pub record Copying (o : List ℕ) (at form : ℕ) (s o₁ : List ℕ) (next i : ℕ) : Type 0 where
  pub puts : Puts o at (encode form (take i s)) o₁ next
  pub long : length o₁ ≡ length o
  pub inside : i ≤ length s

pub copy_start : (o : List ℕ) (at form : ℕ) (s : List ℕ) → Copying o at form s o at 0
copy_start o at form s =
    record { puts = puts-as (encode-none form) (puts_none o at); long = refl; inside = omega arith }

module _ {o : List ℕ} {at form : ℕ} {s o₁ : List ℕ} {next i : ℕ} (g : Copying o at form s o₁ next i) where
  pub copy-room : Takes o at (encode form s) → i < length s → Takes o₁ next (encode form (s ! i ∷ []))
  copy-room t h =
      let e : take i s ++ (s ! i ∷ drop (i + 1) s) ≡ s = ap (λ (l : List ℕ). take i s ++ l) (sym (drop-on s i h)) ∙ take-append-drop i s in
      takes_front form (s ! i ∷ []) (drop (i + 1) s) (takes-behind form (take i s) _ (rw e t) g.puts)

  pub copy-on : {o₂ : List ℕ} {n : ℕ} → i < length s → Puts o₁ next (encode form (s ! i ∷ [])) o₂ n → Copying o at form s o₂ n (i + 1)
  copy-on h p =
      record {
        puts = rw (add-one i, take-suc s i 0 h) (joined form (take i s) (s ! i ∷ []) g.puts p);
        long = puts-long p ∙ g.long;
        inside = omega arith;
      }

  pub copy-end : length s ≤ i → Puts o at (encode form s) o₁ next
  copy-end h = rw (take_all i s h) at g.puts

pub ruleset copying = (copy_start, copy-room, copy-on, copy-end, rules)

-- ---- a slice as a whole

module _ {o : List ℕ} {at : ℕ} {s : List ℕ} (t : Takes o at s) where
  pub run_room : at + length s ≤ length o
  run_room = t.room

  pub run-put : (o₁ : List ℕ) → o₁ ≡ splice o at s → Puts o at s o₁ (at + length s)
  run-put o₁ e = record { stored = e ∙ splice-sets o at s t.room; moved = refl }

module _ {o : List ℕ} {at form : ℕ} {s : List ℕ} (n : form ≡ 3 → ⊥) where
  pub all_room : Takes o at (encode form s) → Takes o at s
  all_room t = takes-as (sym (encode-other form s n)) t

  pub all-put : {o₁ : List ℕ} {k : ℕ} → Puts o at s o₁ k → Puts o at (encode form s) o₁ k
  all-put p = puts-as (encode-other form s n) p

pub ruleset runs = (kinds, run_room, run-put, all_room, all-put, rules)

-- ---- the bytes of a header text, in capitals

module _ {o : List ℕ} {at form : ℕ} (h : List ℕ) {o₁ : List ℕ} {next i : ℕ} (g : Copying o at form (header_capitals h) o₁ next i) where
  pub header-room : Takes o at (encode form (header_capitals h)) → i < length h → (x : ℕ) → x ≡ header_capitals h ! i → Takes o₁ next (encode form (x ∷ []))
  header-room t l x e = rw e (copy-room g t (rw (header-long h) l))

  pub header-on : {o₂ : List ℕ} {n : ℕ} → i < length h → (x : ℕ) → x ≡ header_capitals h ! i → Puts o₁ next (encode form (x ∷ [])) o₂ n
      → Copying o at form (header_capitals h) o₂ n (i + 1)
  header-on l x e p = copy-on g (rw (header-long h) l) (rw (← e) p)

  pub header-end : length h ≤ i → Puts o at (encode form (header_capitals h)) o₁ next
  header-end l = copy-end g (rw (header-long h) l)

pub ruleset capitals = (copy_start, header-room, header-on, header-end, rules)

-- ---- the pieces of a block

ending-as : (form v : ℕ) → (form ≡ 1 → ⊥) → ending form v ≡ ETX ∷ in_hex4 v
unfolding ending
ending-as form v n = rw (ne_eqb form 1 n)

piece-as : (form : ℕ) (first : Bool) (c : ℕ) (d : List ℕ) → piece form first c d ≡ parting form first ++ (STX ∷ c ∷ d ++ ending form (checksum c d))
unfolding piece
piece-as form first c d = refl

-- nothing is put where a form asks nothing
silent : {o : List ℕ} {at : ℕ} (form : ℕ) {x : List ℕ} → x ≡ [] → Puts o at (encode form x) o at
silent {o} {at} form e = rw e (puts-as (encode-none form) (puts_none o at))

module _ {o : List ℕ} {at : ℕ} (form : ℕ) where
  pub parting-other : (first : Bool) → (form ≡ 1 → ⊥) → Puts o at (encode form (parting form first)) o at
  unfolding parting
  parting-other first t = silent form (rw (ne_eqb form 1 t))

  pub parting-first : (first : Bool) → first ≡ true → Puts o at (encode form (parting form first)) o at
  unfolding parting
  parting-first first e = silent form (rw e (choice (λ l. l ≡ []) (form is 1) (λ t. refl) (λ t. refl)))

  pub parting-more : {o₁ : List ℕ} {n : ℕ} (first : Bool) → form ≡ 1 → first ≡ false → Puts o at (encode form (ETX ∷ [])) o₁ n
      → Puts o at (encode form (parting form first)) o₁ n
  unfolding parting
  parting-more first t e p = rw (t, e) (rw t at p)

  pub command-put : {o₁ o₂ : List ℕ} {a n : ℕ} (c : ℕ) → Puts o₁ a (encode form (c ∷ [])) o₂ n → Puts o at (encode form (STX ∷ [])) o₁ a
      → Puts o at (encode form (STX ∷ c ∷ [])) o₂ n
  command-put c q p = joined form (STX ∷ []) (c ∷ []) p q

  pub command-front : (c : ℕ) → Takes o at (encode form (STX ∷ c ∷ [])) → Takes o at (encode form (STX ∷ []))
  command-front c t = takes_front form (STX ∷ []) (c ∷ []) t

  pub command-behind : (c : ℕ) → Takes o at (encode form (STX ∷ c ∷ [])) → {o₁ : List ℕ} {a : ℕ} → Puts o at (encode form (STX ∷ [])) o₁ a
      → Takes o₁ a (encode form (c ∷ []))
  command-behind c t p = takes-behind form (STX ∷ []) (c ∷ []) t p

  pub parting-room : (first : Bool) → form ≡ 1 → first ≡ false → Takes o at (encode form (parting form first)) → Takes o at (encode form (ETX ∷ []))
  unfolding parting
  parting-room first e f t = rw e (rw (e, f) at t)

  module _ (v : ℕ) where
    pub ending-none : form ≡ 1 → Puts o at (encode form (ending form v)) o at
    unfolding ending
    ending-none t = silent form (rw t)

    module _ (n : form ≡ 1 → ⊥) where
      pub ending-room : Takes o at (encode form (ending form v)) → Takes o at (encode form (ETX ∷ []))
      ending-room t = takes_front form (ETX ∷ []) (in_hex4 v) (rw (ending-as form v n) at t)

      pub sum_room : v < 65536 → Takes o at (encode form (ending form v)) → {o₁ : List ℕ} {a : ℕ} → Puts o at (encode form (ETX ∷ [])) o₁ a
          → a + 4 ≤ length o₁
      unfolding in_hex4
      sum_room k t p = (takes-as (sym (encode-sum form v k)) (takes-behind form (ETX ∷ []) (in_hex4 v) (rw (ending-as form v n) at t) p)).room

      pub ending-sum : {o₁ o₂ : List ℕ} {a n : ℕ} → v < 65536 → Puts o₁ a (in_hex4 v) o₂ n → Puts o at (encode form (ETX ∷ [])) o₁ a
          → Puts o at (encode form (ending form v)) o₂ n
      ending-sum k q p = rw (ending-as form v n) (joined form (ETX ∷ []) (in_hex4 v) p (puts-as (encode-sum form v k) q))

  module _ (c : ℕ) (d : List ℕ) where
    pub opened-front : Takes o at (encode form (STX ∷ c ∷ d)) → Takes o at (encode form (STX ∷ c ∷ []))
    opened-front t = takes_front form (STX ∷ c ∷ []) d t

    pub opened-behind : Takes o at (encode form (STX ∷ c ∷ d)) → {o₁ : List ℕ} {a : ℕ} → Puts o at (encode form (STX ∷ c ∷ [])) o₁ a
        → Takes o₁ a (encode form d)
    opened-behind t p = takes-behind form (STX ∷ c ∷ []) d t p

    pub opened-put : {o₁ o₂ : List ℕ} {a n : ℕ} → Puts o₁ a (encode form d) o₂ n → Puts o at (encode form (STX ∷ c ∷ [])) o₁ a
        → Puts o at (encode form (STX ∷ c ∷ d)) o₂ n
    opened-put q p = joined form (STX ∷ c ∷ []) d p q

    module _ (first : Bool) (t : Takes o at (encode form (piece form first c d))) where
      whole : Takes o at (encode form (parting form first ++ (STX ∷ c ∷ d ++ ending form (checksum c d))))
      whole = rw (piece-as form first c d) at t

      pub piece-parting : Takes o at (encode form (parting form first))
      piece-parting = takes_front form (parting form first) _ whole

      module _ {o₁ : List ℕ} {a : ℕ} (p : Puts o at (encode form (parting form first)) o₁ a) where
        pub piece-opened : Takes o₁ a (encode form (STX ∷ c ∷ d))
        piece-opened = takes_front form (STX ∷ c ∷ d) (ending form (checksum c d)) (takes-behind form (parting form first) _ whole p)

        module _ {o₂ : List ℕ} {b : ℕ} (q : Puts o₁ a (encode form (STX ∷ c ∷ d)) o₂ b) (v : ℕ) (e : v ≡ checksum c d) where
          pub piece-ending : Takes o₂ b (encode form (ending form v))
          piece-ending = rw e (takes-behind form (STX ∷ c ∷ d) (ending form (checksum c d)) (takes-behind form (parting form first) _ whole p) q)

          pub piece-put : {o₃ : List ℕ} {n : ℕ} → Puts o₂ b (encode form (ending form v)) o₃ n → Puts o at (encode form (piece form first c d)) o₃ n
          piece-put r =
              rw (piece-as form first c d)
              (joined form (parting form first) _ p (joined form (STX ∷ c ∷ d) (ending form (checksum c d)) q (rw e at r)))

-- its sum, two digits and two
pub sum-put : {o o₁ o₂ : List ℕ} {at a n : ℕ} (v : ℕ) → v < 65536 → (l : List ℕ) → l ≡ (v / 256) % 256 ∷ v % 256 ∷ []
    → Puts o₁ a (in_hex2 (l ! 1)) o₂ n → Puts o at (in_hex2 (l ! 0)) o₁ a → Puts o at (in_hex4 v) o₂ n
sum-put v h l e q p =
    let z : (v / 256) % 256 ≡ v / 256 = omega arith in
    puts-as (hex4-halves v) (puts-join (in_hex2 (v / 256)) (in_hex2 (v % 256)) (rw (e, z) at p) (rw e at q))

pub sum-behind : {o o₁ : List ℕ} {at a : ℕ} (v : ℕ) → at + 4 ≤ length o → Puts o at (in_hex2 v) o₁ a → a + 2 ≤ length o₁
sum-behind v h p = omega (arith, p.moved, puts-long p)

pub ruleset parts =
    (kinds, sum-put, sum-behind, parting-other, parting-first, parting-more, parting-room, ending-none, ending-room, sum_room, ending-sum, command-front, command-behind, command-put, opened-front, opened-behind, opened-put, rules)

pub ruleset piecing = (piece-parting, piece-opened, piece-ending, piece-put, rules)

-- ---- what stands before the blocks

nuls-as : (form : ℕ) → (form ≡ 3 → ⊥) → encode form (nuls form) ≡ 0 ∷ 0 ∷ 0 ∷ 0 ∷ 0 ∷ []
unfolding nuls zeros
nuls-as form n = encode-other form (nuls form) n ∙ rw (ne_eqb form 3 n)

heading-as : (form : ℕ) (h : List ℕ) → heading form h ≡ nuls form ++ (SOH ∷ h)
unfolding heading
heading-as form h = refl

module _ {o : List ℕ} (form : ℕ) where
  pub nuls-none : form ≡ 3 → Puts o 0 (encode form (nuls form)) o 0
  unfolding nuls
  nuls-none t = silent form (rw t)

  pub nuls-room : (form ≡ 3 → ⊥) → Takes o 0 (encode form (nuls form)) → Takes o 0 (0 ∷ 0 ∷ 0 ∷ 0 ∷ 0 ∷ [])
  nuls-room n t = takes-as (sym (nuls-as form n)) t

  pub nuls-put : {o₁ : List ℕ} {k : ℕ} → (form ≡ 3 → ⊥) → Puts o 0 (0 ∷ 0 ∷ 0 ∷ 0 ∷ 0 ∷ []) o₁ k → Puts o 0 (encode form (nuls form)) o₁ k
  nuls-put n p = puts-as (nuls-as form n) p

  module _ (h : List ℕ) (t : Takes o 0 (encode form (heading form h))) where
    begun : Takes o 0 (encode form (nuls form ++ (SOH ∷ h)))
    begun = rw (heading-as form h) at t

    pub heading-nuls : Takes o 0 (encode form (nuls form))
    heading-nuls = takes_front form (nuls form) (SOH ∷ h) begun

    module _ {o₁ : List ℕ} {a : ℕ} (p : Puts o 0 (encode form (nuls form)) o₁ a) where
      pub heading-soh : Takes o₁ a (encode form (SOH ∷ []))
      heading-soh = takes_front form (SOH ∷ []) h (takes-behind form (nuls form) (SOH ∷ h) begun p)

      pub heading-text : {o₂ : List ℕ} {b : ℕ} → Puts o₁ a (encode form (SOH ∷ [])) o₂ b → Takes o₂ b (encode form h)
      heading-text q = takes-behind form (SOH ∷ []) h (takes-behind form (nuls form) (SOH ∷ h) begun p) q

  pub heading-put : {o₁ o₂ o₃ : List ℕ} {a b n : ℕ} (h : List ℕ) → Puts o₂ b (encode form h) o₃ n → Puts o₁ a (encode form (SOH ∷ [])) o₂ b
      → Puts o 0 (encode form (nuls form)) o₁ a → Puts o 0 (encode form (heading form h)) o₃ n
  unfolding heading
  heading-put h r q p = joined form (nuls form) (SOH ∷ h) p (joined form (SOH ∷ []) h q r)

pub ruleset headings = (kinds, nuls-none, nuls-room, nuls-put, heading-nuls, heading-soh, heading-text, heading-put, rules)
