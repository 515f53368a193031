-- A fresh board, case by case.
use Prim.Native.Nat.{ℕ, ◌+◌, ◌≤◌}
use mathlib.Core.Path.{◌≡◌, sym, ◌∙◌}
use mathlib.Core.Bool.{Bool, true, false, not}
use mathlib.Core.List.{List, append-nil}
use native.Mathlib.Omega.{arith}
use mir.Syntax.{w16}
use mir.Val.{Fits}
use borrow.Author.Rules.{rules}
use borrow.Author.Tests.{not-false}
use lib.ListN.{length, drop_of_length-le}
use Rattle.octets.specs.Buffer.{zeros, splice}
use Rattle.octets.proofs.Buffers.{length-zeros}
use Rattle.header.specs.Addressing.{is_own_type}
use Rattle.board.specs.Soundness.{is_memory}
use Rattle.board.proofs.SoundParts.{memory-most}
use Rattle.sign.specs.Fresh.{making, all_zero, fresh_settings, fresh}
use Rattle.sign.specs.InnerRunning.{made_as}
use Rattle.sign.specs.declared.Made.{Made}

-- all of memory zeros
splice_all : (m : List ℕ) (n : ℕ) → n ≡ length m → splice m 0 (zeros n) ≡ zeros (length m)
unfolding splice
splice_all m n e =
    let z : length m ≤ 0 + length (zeros n) = rw (length-zeros, e) (omega arith) in
    rw (drop_of_length-le m z, append-nil, e)

-- memory's length is told in two bytes
pub fresh-fits : (n : ℕ) (k : Bool) → k ≡ is_memory n → not k ≡ false → Fits w16 n
fresh-fits n k f z = record { fits = omega (arith, memory-most n (sym f ∙ not-false k z)) }

module _ (own : ℕ) (m : List ℕ) (b : Bool) (e : b ≡ is_own_type own) where
  -- 10
  pub fresh-type : not b ≡ true → (r : Made) → r ≡ made_as 10 all_zero → making r m ≡ fresh own m
  unfolding fresh
  fresh-type t r q = rw (q, ← e, t)

  module _ (y : not b ≡ false) (n : ℕ) (l : n ≡ length m) (k : Bool) (f : k ≡ is_memory n) where
    -- 11
    pub fresh-length : not k ≡ true → (r : Made) → r ≡ made_as 11 all_zero → making r m ≡ fresh own m
    unfolding fresh
    fresh-length t r q = rw (q, ← e, y, ← l, ← f, t)

    -- 0
    pub fresh-made : not k ≡ false → (r : Made) → r ≡ made_as 0 (fresh_settings own n) → (m' : List ℕ) → m' ≡ splice m 0 (zeros n) → making r m' ≡ fresh own m
    unfolding fresh
    fresh-made z r q m' p = rw (q, p, splice_all m n l, ← e, y, ← l, ← f, z)

pub ruleset fresh-boards = (fresh-type, fresh-length, fresh-fits, fresh-made, rules)
