-- The answers of the calls: numbers and lengths.
use mathlib.Core.Path.{◌≡◌}
use Prim.Native.Nat.{ℕ, ◌<◌, ◌≤◌}
use native.Mathlib.Omega.{arith}
use borrow.Author.Rules.{rules}
use borrow.Author.Tests.{lt-ltb, le-ltb}
use Rattle.octets.specs.Bytes.{BLOCKS, TRANSLATED}
use Rattle.forms.specs.InnerLengths.{form_length, render_length, Known}
use Rattle.writing.specs.Output.{written_as}
use Rattle.writing.specs.InnerSources.{Reckoned, fitted}

-- ---- numbers and lengths

module _ (form h n t e room : ℕ) where
  pub fit-known : Reckoned h n t e → Known h n t
  fit-known g = record { first = omega (arith, g.header); second = omega (arith, g.count); third = omega (arith, g.text) }

  pub fit-many : BLOCKS < n → written_as 18 0 ≡ fitted form h n t e room
  unfolding fitted
  fit-many k = rw (lt-ltb BLOCKS n k)

  module _ (a : n ≤ BLOCKS) (long : ℕ) (l : long ≡ form_length form h n t) where
    pub fit-long : TRANSLATED < long → written_as 18 0 ≡ fitted form h n t e room
    unfolding fitted
    fit-long k = rw (le-ltb BLOCKS n a, ← l, lt-ltb TRANSLATED long k)

    module _ (b : long ≤ TRANSLATED) where
      pub fit-reckoned : Reckoned h n t e → Known long n e
      fit-reckoned g = record { first = omega arith; second = omega arith; third = omega (arith, g.escapes) }

      module _ (raw : ℕ) (c : raw ≡ render_length form long n e) where
        pub fit-full : room < raw → written_as 14 0 ≡ fitted form h n t e room
        unfolding fitted
        fit-full k = rw (le-ltb BLOCKS n a, ← l, le-ltb TRANSLATED long b, ← c, lt-ltb room raw k)

        pub fit-good : raw ≤ room → written_as 0 raw ≡ fitted form h n t e room
        unfolding fitted
        fit-good k = rw (le-ltb BLOCKS n a, ← l, le-ltb TRANSLATED long b, ← c, le-ltb room raw k)

pub ruleset answering = (fit-known, fit-many, fit-long, fit-reckoned, fit-full, fit-good, rules)
