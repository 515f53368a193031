-- A sign and a digit as the code tells them.
use Prim.Native.Nat.{ℕ, ◌≤◌}
use mathlib.Core.Path.{◌≡◌}
use mathlib.Core.Bool.{true, ◌||◌}
use mathlib.Core.List.{List}
use lib.ListN.{length}
use borrow.Author.Tests.{eqb-true, leb-true}
use Rattle.octets.specs.Choice.{◌is◌, ◌≤?◌, ◌!◌}
use Rattle.octets.specs.Decimal.{is_decimal}
use Rattle.octets.proofs.Tests.{split}
use Rattle.temperature.specs.Offset.{PLUS, MINUS, is_signed_digit}

-- ---- "a sign and one digit 0 to 9", and nothing else

module _ (d : List ℕ) where
  module _ (e : is_signed_digit d ≡ true) where
    pub two-long : length d ≡ 2
    unfolding is_signed_digit
    two-long = eqb-true (length d) 2 (split (length d is 2) e).0

    pub second-digit : is_decimal (d ! 1) ≡ true
    unfolding is_signed_digit
    second-digit = (split (d ! 0 is PLUS || d ! 0 is MINUS) (split (length d is 2) e).1).1

-- ---- its number

module _ (d : ℕ) (e : is_decimal d ≡ true) where
  pub digit-most : d ≤ 57
  unfolding is_decimal
  digit-most = leb-true d 57 (split (48 ≤? d) e).1
