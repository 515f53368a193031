-- How large an offset and a reading are.
use Prim.Native.Nat.{ℕ, ◌≤◌}
use mathlib.Core.Path.{◌≡◌}
use mathlib.Core.Bool.{true}
use mathlib.Core.Logic.{⊎_elim}
use native.Mathlib.Omega.{arith}
use lib.IntN.{ℤ, negsuc}
use lib.Signed.{mag}
use borrow.Author.Tests.{leb-true}
use Rattle.octets.specs.Choice.{◌≤?◌}
use Rattle.octets.proofs.Tests.{split}
use Rattle.signed.proofs.Held.{mag-between}
use Rattle.temperature.specs.Offset.{is_offset}
use Rattle.temperature.specs.Correcting.{is_reading}

pub offset-mag : (z : ℤ) → is_offset z ≡ true → mag z ≤ 9
unfolding is_offset
offset-mag z e = ⊎_elim (λ h. omega arith) (λ h. h) (mag-between 8 9 z e)

pub below : (n : ℕ) → is_offset (negsuc n) ≡ true → n ≤ 8
unfolding is_offset
below n e = leb-true n 8 (split (n ≤? 8) e).0

pub reading-mag : (z : ℤ) → is_reading z ≡ true → mag z ≤ 127
unfolding is_reading
reading-mag z e = ⊎_elim (λ h. h) (λ h. h) (mag-between 127 127 z e)

pub ruleset sizes = (offset-mag, reading-mag)
