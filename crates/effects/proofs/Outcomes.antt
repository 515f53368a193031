-- What a command leaves in a reply buffer: nothing of it is touched where there is no reply.
use Prim.Native.Nat.{ℕ}
use mathlib.Core.Path.{◌≡◌, sym, ap, ◌∙◌}
use mathlib.Core.List.{List, []}
use lib.ListN.{length}
use Rattle.octets.specs.Buffer.{overlay}
use Rattle.buffers.proofs.Splices.{overlay-none}
use Rattle.board.specs.Board.{Board}
use Rattle.effects.specs.Effects.{Effect, effect, replied}
use Rattle.effects.specs.InnerLeaving.{left, leaving}

-- refused or done without a reply
pub left-quiet : (o : List ℕ) (e : Effect) (n : ℕ) (b : Board) → effect n b [] ≡ e → left n b o 0 ≡ leaving o e
unfolding leaving
left-quiet o e n b p = ap (λ (x : List ℕ). left n b x 0) (sym (overlay-none o)) ∙ ap (leaving o) p

-- done, with one
pub left-replied : (o : List ℕ) (b : Board) (r o' : List ℕ) (k : ℕ) → o' ≡ overlay o r → k ≡ length r → left 0 b o' k ≡ leaving o (replied b r)
unfolding leaving
left-replied o b r o' k p q = λ i. left 0 b (p i) (q i)
