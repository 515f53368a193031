-- What holds while a text is drawn, by the text that is left, and its steps.
use Prim.Native.Nat.{ℕ, zero, suc, ◌+◌, ◌-◌, ◌*◌, ◌≤◌}
use mathlib.Core.Path.{◌≡◌, refl, sym, ap, ◌∙◌}
use mathlib.Core.Bool.{true}
use mathlib.Core.List.{List, [], ◌∷◌, ◌++◌}
use native.Mathlib.Numerals.{add-one}
use native.Mathlib.Omega.{arith}
use borrow.Author.Tests.{leb-true}
use lib.ListN.{length, set, length-append, length-set}
use lib.Seq.{sets}
use Rattle.octets.specs.Choice.{◌≤?◌}
use Rattle.octets.specs.Bytes.{ZERO}
use Rattle.octets.specs.Buffer.{zeros}
use Rattle.octets.proofs.Tests.{suc-less-one, by-test, never, split}
use Rattle.octets.proofs.Buffers.{length-zeros, zeros-nul, sets-append}
use Rattle.pixels.specs.Pixels.{pixels_of, bytes_of, bytes_for}
use Rattle.pixels.proofs.PixelsLaws.{length-pixels}
use Rattle.pixels.proofs.Picturing.{bytes_back, spare-half}
use Rattle.rows.specs.Rows.{CR, is_pixel, well_formed}
use Rattle.rows.proofs.Texts.{form-end, form-on, form-bad, form-past}
use Rattle.rows.proofs.Onward.{onward, onward-room, onward-end, onward-skip, onward-set, onward-none}
use Rattle.rows.proofs.Offs.{Off, sets-off, off-more, off_set, sets-zeros}

-- h rows of w columns are drawn as far as pixel `at`; `left` rows are to go, the first with `room` for more; their text is l
pub record Here (h w : ℕ) (whole store : List ℕ) (left room at : ℕ) (l : List ℕ) : Type 0 where
  pub long : length store ≡ bytes_for (h * w)
  pub few : length store ≤ 65535
  pub good : well_formed left l ≡ true
  pub fits : at + length (onward left room w l) ≡ h * w
  pub off : Off (pixels_of store) at
  pub same : sets (pixels_of store) at (onward left room w l) ≡ sets (zeros (bytes_for (h * w) * 2)) 0 whole

-- ---- one byte

pub good-pixel : (k x : ℕ) (l : List ℕ) → well_formed k (x ∷ l) ≡ true → (x ≡ CR → ⊥) → is_pixel x ≡ true
good-pixel zero x l g n = never (sym g ∙ form-past x l)
good-pixel (suc k) x l g n = by-test (is_pixel x) (λ t. t) (λ t. never (sym g ∙ form-bad k x l n t))

pub pixel-between : (x : ℕ) → is_pixel x ≡ true → (ZERO ≤ x) × (x ≤ 0x38)
unfolding is_pixel
pixel-between x e = let p = split (ZERO ≤? x) e in (leb-true ZERO x p.0, leb-true x 0x38 p.1)

module _ {h w : ℕ} {whole store : List ℕ} where
  pub here-rows : (left room at x : ℕ) (l : List ℕ) → Here h w whole store left room at (x ∷ l) → 1 ≤ left
  here-rows zero room at x l g = never (sym g.good ∙ form-past x l)
  here-rows (suc k) room at x l g = omega arith

  pub here-fits : (left room at x : ℕ) (l : List ℕ) → Here h w whole store left room at (x ∷ l) → at + room ≤ 131070
  here-fits zero room at x l g = never (sym g.good ∙ form-past x l)
  here-fits (suc k) room at x l g = omega (arith, g.long, g.few, g.fits, onward-room k room w (x ∷ l))

  pub here-row : (left room at x : ℕ) (l : List ℕ) → Here h w whole store left room at (x ∷ l) → x ≡ CR → Here h w whole store (left - 1) w (at + room) l
  here-row zero room at x l g e = never (sym g.good ∙ form-past x l)
  here-row (suc k) room at x l g e =
      let o : onward (suc k) room w (x ∷ l) ≡ zeros room ++ onward k w w l = onward-end k w x l room e in
      rw (suc-less-one k) (record {
        long = g.long;
        few = g.few;
        good = sym (form-end k x l e) ∙ g.good;
        fits = omega (arith, g.fits, ap length o, length-append (zeros room) (onward k w w l), length-zeros room);
        off = off-more (pixels_of store) at room g.off;
        same =
            ap (λ r. sets r (at + room) (onward k w w l)) (sym (sets-off (pixels_of store) at (zeros room) g.off (zeros-nul room)))
            ∙ ap (λ n. sets (sets (pixels_of store) at (zeros room)) (at + n) (onward k w w l)) (sym (length-zeros room))
            ∙ sym (sets-append (pixels_of store) at (zeros room) (onward k w w l)) ∙ ap (sets (pixels_of store) at) (sym o) ∙ g.same;
      })

  pub here-skip : (left room at x : ℕ) (l : List ℕ) → Here h w whole store left room at (x ∷ l) → (x ≡ CR → ⊥) → room ≡ 0 → Here h w whole store left room at l
  here-skip zero room at x l g n e = never (sym g.good ∙ form-past x l)
  here-skip (suc k) zero at x l g n e =
      let o : onward (suc k) 0 w (x ∷ l) ≡ onward (suc k) 0 w l = onward-skip k w x l n in
      record {
        long = g.long;
        few = g.few;
        good = sym (form-on k x l n (good-pixel (suc k) x l g.good n)) ∙ g.good;
        fits = ap (λ r. at + length r) (sym o) ∙ g.fits;
        off = g.off;
        same = ap (sets (pixels_of store) at) (sym o) ∙ g.same;
      }
  here-skip (suc k) (suc r) at x l g n e = absurd (omega arith)

  pub here-set : (left room at x : ℕ) (l : List ℕ) → Here h w whole store left room at (x ∷ l) → (x ≡ CR → ⊥) → (room ≡ 0 → ⊥) → (store' : List ℕ)
      → pixels_of store' ≡ set (pixels_of store) at (x - ZERO) → Here h w whole store' left (room - 1) (at + 1) l
  here-set zero room at x l g n m store' e = never (sym g.good ∙ form-past x l)
  here-set (suc k) zero at x l g n m store' e = absurd (m refl)
  here-set (suc k) (suc r) at x l g n m store' e =
      let o : onward (suc k) (suc r) w (x ∷ l) ≡ (x - ZERO) ∷ onward (suc k) r w l = onward-set k w x l r n in
      let len : length store' ≡ length store = omega (arith, ap length e, length-set (pixels_of store) at (x - ZERO), length-pixels store, length-pixels store') in
      rw (suc-less-one r) (record {
        long = len ∙ g.long;
        few = omega (arith, g.few);
        good = sym (form-on k x l n (good-pixel (suc k) x l g.good n)) ∙ g.good;
        fits = omega (arith, g.fits, ap length o);
        off = rw e (off_set (pixels_of store) at (x - ZERO) g.off);
        same = rw (e, add-one at) (ap (sets (pixels_of store) at) (sym o) ∙ g.same);
      })

  pub here_end : (left room at : ℕ) → Here h w whole store left room at [] → length whole ≡ h * w → store ≡ bytes_of whole
  here_end left room at g e =
      let n = bytes_for (h * w) * 2 in
      let p : pixels_of store ≡ whole ++ zeros (n - length whole) =
      sym (sets-off (pixels_of store) at (onward left room w []) g.off (onward-none left room w)) ∙ g.same ∙ sets-zeros whole n (omega arith) in
      sym (bytes_back store) ∙ ap bytes_of p ∙ spare-half whole (n - length whole) (rw e (omega arith))
