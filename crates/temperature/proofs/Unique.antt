-- The call has one outcome: its promise is an equation.
use mathlib.Core.Path.{◌≡◌, sym, ◌∙◌}
use lib.IntN.{ℤ}
use Rattle.temperature.specs.Correcting.{add_offset}
use Rattle.temperature.specs.declared.Corrected.{Corrected}

pub sum-unique : (o r : ℤ) (x y : Corrected) → x ≡ add_offset o r → y ≡ add_offset o r → x ≡ y
sum-unique o r x y p q = p ∙ sym q
