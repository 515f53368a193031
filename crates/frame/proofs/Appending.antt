-- Blocks with others behind them: what holds of both parts holds of the whole.
use mathlib.Core.Path.{◌≡◌, refl, ap, ◌∙◌}
use mathlib.Core.Bool.{Bool, true, false, ◌&&◌, ◌||◌}
use mathlib.Core.List.{List, [], ◌∷◌, ◌++◌}
use Prim.Native.Nat.{ℕ, ◌+◌}
use native.Mathlib.Omega.{arith}
use lib.ListN.{length-append}
use Rattle.octets.specs.Bytes.{is_plain}
use Rattle.octets.proofs.Tests.{or-out-left, or-out-right}
use Rattle.body.specs.Body.{Block, is_read, read_not_last, has_read, all_right}
use Rattle.body.proofs.Plain.{BlocksOf}
use Rattle.body.proofs.WellFormed.{Blocks}

of-append : (p : ℕ → Bool) (bs cs : List Block) → BlocksOf p bs → BlocksOf p cs → BlocksOf p (bs ++ cs)
of-append p [] cs a b = b
of-append p (c ∷ bs) cs a b = (a.0, of-append p bs cs a.1 b)

-- their number, and what their bytes pass
pub blocks-append : (r : ℕ → Bool) (n m : ℕ) (bs cs : List Block) → Blocks r n bs → Blocks r m cs → Blocks r (n + m) (bs ++ cs)
blocks-append r n m bs cs a b =
    record {
      plain = of-append is_plain bs cs a.plain b.plain;
      passing = of-append r bs cs a.passing b.passing;
      some = rw length-append (omega arith);
      few = rw length-append (omega arith);
    }

and-turn : (a b c : Bool) → (a && (b && c)) ≡ ((a && b) && c)
and-turn true b c = refl
and-turn false b c = refl

or_turn : (a b c : Bool) → (a || (b || c)) ≡ ((a || b) || c)
or_turn true b c = refl
or_turn false b c = refl

-- their sums
pub right-append : (bs cs : List Block) → all_right (bs ++ cs) ≡ (all_right bs && all_right cs)
unfolding all_right
right-append [] cs = refl
right-append (b ∷ bs) cs = ap (λ t. b.right && t) (right-append bs cs) ∙ and-turn b.right (all_right bs) (all_right cs)

-- a read among them
pub has_read-append : (bs cs : List Block) → has_read (bs ++ cs) ≡ (has_read bs || has_read cs)
unfolding has_read
has_read-append [] cs = refl
has_read-append (b ∷ bs) cs =
    ap (λ t. is_read b.command || t) (has_read-append bs cs) ∙ or_turn (is_read b.command) (has_read bs) (has_read cs)

-- a read that is not last, where none is in the first part
pub reads-append : (bs cs : List Block) → has_read bs ≡ false → read_not_last false (bs ++ cs) ≡ read_not_last false cs
unfolding has_read read_not_last
reads-append [] cs a = refl
reads-append (b ∷ bs) cs a =
    rw (or-out-left (is_read b.command) (has_read bs) a) (reads-append bs cs (or-out-right (is_read b.command) (has_read bs) a))
