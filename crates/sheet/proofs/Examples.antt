-- Every starred example of document 01 holds: one statement, `examples`, by computing.
use mathlib.Core.Path.{refl}
use Rattle.sign.proofs.Alike.{reads-alike}
use Rattle.sheet.specs.Sheet.{bytes, start, in_turn, on_fresh, addressed_at, Says, Every, table}
use Rattle.sheet.proofs.Computing.{base}

infixr 10 ◌&◌
-- one row and the others
pub ◌&◌ : {X Y : Type 0} → X → Y → X × Y
x & y = (x, y)

-- every example of the table holds
pub examples : Every Says table
unfolding bytes start in_turn on_fresh addressed_at table base
examples =
    refl & refl & refl
    & refl
    & refl
    & refl & refl & (refl, refl, refl)
    & refl & refl & refl & refl & refl
    & (λ b o. reads-alike b o (bytes "_01Z00_02AAHELLO_04") (bytes "\0\0\0\0\0\u{1}Z00\u{2}AAHELLO\u{4}") refl) & refl
    & tt
