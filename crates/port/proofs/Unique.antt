-- `pagozkin_read` has one outcome. A step and the soundness test promise an equation, the others what the call they wrap promises.
use mathlib.Core.Path.{◌≡◌, sym, ◌∙◌}
use mathlib.Core.List.{List}
use Prim.Native.Nat.{ℕ}
use Rattle.port.specs.Blocks.{ReadsAs}
use Rattle.port.specs.declared.Places.{Places}

pub unique : {s room a a' : List ℕ} {r r' : Places} → ReadsAs s room r a → ReadsAs s room r' a' → (r ≡ r') × (a ≡ a')
unique p q = (p.places ∙ sym q.places, p.left ∙ sym q.left)
