-- The port driver's call, over what it promises: a sound board stays sound, once more is no change, and the order does not matter.
use Prim.Native.Nat.{ℕ}
use mathlib.Core.Path.{◌≡◌, ap, ◌∙◌}
use mathlib.Core.Bool.{true, false}
use lib.Bits.{bit_and}
use Rattle.octets.proofs.Tests.{by-test, choice}
use Rattle.register.specs.Register.{is_register, driven_by}
use Rattle.register.proofs.Noting.{again, either_order, driver-fixed}
use Rattle.board.specs.Settings.{with_errors}
use Rattle.board.specs.Board.{Board, with_settings}
use Rattle.board.specs.Soundness.{sound}
use Rattle.board.specs.declared.Settings.{Settings}
use Rattle.keeping.proofs.Keeping.{errors-sound}
use Rattle.sign.specs.Errors.{driven_as, port_errors}
use Rattle.sign.specs.declared.Driven.{Driven}

-- a sound board stays sound
pub port-sound : (b : Board) (bits : ℕ) → sound b ≡ true → sound (with_settings b (port_errors b.settings bits).settings) ≡ true
unfolding port_errors
port-sound b bits g =
    let r = b.settings.errors in
    choice (λ (x : Driven). sound (with_settings b x.settings) ≡ true) (is_register r)
    (λ e. errors-sound b (driven_by r bits) (driver-fixed r bits) g) (λ e. g)

-- twice over two bytes: the two outcomes behind one another
port-twice : (s : Settings) (a b : ℕ) → is_register s.errors ≡ true →
    port_errors (port_errors s a).settings b ≡ driven_as 0 (with_errors s (driven_by (driven_by s.errors a) b))
unfolding port_errors
port-twice s a b e = rw (e, driver-fixed s.errors a e)

port-refused : (s : Settings) (a b : ℕ) → is_register s.errors ≡ false → port_errors (port_errors s a).settings b ≡ driven_as 1 s
unfolding port_errors
port-refused s a b e = rw (e, e)

-- setting bits again changes nothing
pub port-again : (s : Settings) (b : ℕ) → port_errors (port_errors s b).settings b ≡ port_errors s b
unfolding port_errors
port-again s b =
    by-test (is_register s.errors) (λ e. port-twice s b b e ∙ rw e (ap (λ (x : ℕ). driven_as 0 (with_errors s x)) (again s.errors (bit_and b 7))))
    (λ e. port-refused s b b e ∙ rw e)

-- the order does not matter
pub port-order : (s : Settings) (a b : ℕ) → port_errors (port_errors s a).settings b ≡ port_errors (port_errors s b).settings a
port-order s a b =
    by-test (is_register s.errors)
    (λ e. rw (port-twice s a b e, port-twice s b a e) (ap (λ (x : ℕ). driven_as 0 (with_errors s x)) (either_order s.errors (bit_and a 7) (bit_and b 7))))
    (λ e. rw (port-refused s a b e, port-refused s b a e))
