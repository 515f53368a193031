-- What holds while a text is judged and while it is drawn, at a place of the text, and the steps.
use Prim.Native.Nat.{ℕ, zero, suc, ◌+◌, ◌-◌, ◌*◌, ◌<◌, ◌≤◌}
use mathlib.Core.Path.{◌≡◌, refl, sym, ap, ◌∙◌}
use mathlib.Core.Bool.{Bool, true, false, not}
use mathlib.Core.List.{List, ◌∷◌}
use native.Mathlib.Omega.{arith}
use borrow.Author.Rules.{rules}
use borrow.Author.Tests.{not-true, not-false}
use mir.Val.{Fits}
use mir.Syntax.{w64}
use lib.ListN.{length, drop, set, replicate}
use Rattle.octets.specs.Choice.{◌!◌, between}
use Rattle.octets.specs.Bytes.{ZERO}
use Rattle.octets.specs.Buffer.{zeros}
use Rattle.octets.proofs.Tests.{suc-less-one}
use Rattle.octets.proofs.Buffers.{length-zeros}
use Rattle.pixels.specs.Pixels.{pixels_of, bytes_of, bytes_for}
use Rattle.pixels.proofs.Picturing.{pixels-zeros}
use Rattle.rows.specs.Rows.{LF, CR, without_feeds, is_pixel, well_formed, drawn}
use Rattle.rows.specs.InnerDrawn.{Judged}
use Rattle.rows.proofs.Texts.{feed-go, feed-stay, feed-end, form-end, form-on, form-bad, form-past, form-none}
use Rattle.rows.proofs.Onward.{onward-drawn, length-drawn}
use Rattle.rows.proofs.Offs.{zeros-at}
use Rattle.rows.proofs.Here.{Here, good-pixel, pixel-between, here-rows, here-fits, here-row, here-skip, here-set, here_end}

-- ---- judged

-- the text from place i on is one of `left` rows just if the whole is one of h
pub record Judging (h : ℕ) (s : List ℕ) (left i : ℕ) : Type 0 where
  pub same : well_formed left (without_feeds (drop i s)) ≡ well_formed h (without_feeds s)

pub judge-start : (h : ℕ) (s : List ℕ) → Judging h s h 0
judge-start h s = record { same = refl }

-- laws of one row or more, where the rows are a number that is not 0
form-less : (k x : ℕ) (l : List ℕ) → (k ≡ 0 → ⊥) → x ≡ CR → well_formed k (x ∷ l) ≡ well_formed (k - 1) l
form-less zero x l n e = absurd (n refl)
form-less (suc k) x l n e = rw (suc-less-one k) (form-end k x l e)

form-keep : (k x : ℕ) (l : List ℕ) → (k ≡ 0 → ⊥) → (x ≡ CR → ⊥) → is_pixel x ≡ true → well_formed k (x ∷ l) ≡ well_formed k l
form-keep zero x l n m e = absurd (n refl)
form-keep (suc k) x l n m e = form-on k x l m e

form-not : (k x : ℕ) (l : List ℕ) → (x ≡ CR → ⊥) → is_pixel x ≡ false → well_formed k (x ∷ l) ≡ false
form-not zero x l m e = form-past x l
form-not (suc k) x l m e = form-bad k x l m e

module _ {h : ℕ} {s : List ℕ} {left i : ℕ} (g : Judging h s left i) (p : i < length s) where
  pub judge-feed : s ! i ≡ LF → Judging h s left (i + 1)
  judge-feed e = record { same = ap (well_formed left) (sym (feed-go s i p e)) ∙ g.same }

  at_byte : (s ! i ≡ LF → ⊥) → well_formed left (s ! i ∷ without_feeds (drop (i + 1) s)) ≡ well_formed h (without_feeds s)
  at_byte n = ap (well_formed left) (sym (feed-stay s i p n)) ∙ g.same

  pub judge-past : (s ! i ≡ LF → ⊥) → left ≡ 0 → false ≡ well_formed h (without_feeds s)
  judge-past n e = sym (form-past (s ! i) (without_feeds (drop (i + 1) s))) ∙ ap (λ k. well_formed k (s ! i ∷ without_feeds (drop (i + 1) s))) (sym e) ∙ at_byte n

  pub judge-row : (s ! i ≡ LF → ⊥) → (left ≡ 0 → ⊥) → s ! i ≡ CR → Judging h s (left - 1) (i + 1)
  judge-row n m e = record { same = sym (form-less left (s ! i) (without_feeds (drop (i + 1) s)) m e) ∙ at_byte n }

  pub judge-bad : (s ! i ≡ LF → ⊥) → (s ! i ≡ CR → ⊥) → (b : Bool) → b ≡ between ZERO 0x38 (s ! i) → not b ≡ true → false ≡ well_formed h (without_feeds s)
  unfolding is_pixel
  judge-bad n m b e t = sym (form-not left (s ! i) (without_feeds (drop (i + 1) s)) m (sym e ∙ not-true b t)) ∙ at_byte n

  pub judge-pixel : (s ! i ≡ LF → ⊥) → (left ≡ 0 → ⊥) → (s ! i ≡ CR → ⊥) → (b : Bool) → b ≡ between ZERO 0x38 (s ! i) → not b ≡ false → Judging h s left (i + 1)
  unfolding is_pixel
  judge-pixel n k m b e t = record { same = sym (form-keep left (s ! i) (without_feeds (drop (i + 1) s)) k m (sym e ∙ not-false b t)) ∙ at_byte n }

pub judge-end : {h : ℕ} {s : List ℕ} {left i : ℕ} → Judging h s left i → length s ≤ i → true ≡ well_formed h (without_feeds s)
judge-end {h} {s} {left} {i} g p = sym (form-none left) ∙ ap (well_formed left) (sym (feed-end s i p)) ∙ g.same

pub ruleset judging = (judge-start, judge-feed, judge-past, judge-row, judge-bad, judge-pixel, judge-end, rules)

-- ---- drawn

-- drawn as far as place i of the text

pub record Drawing (h w : ℕ) (s store : List ℕ) (left room at i : ℕ) : Type 0 where
  pub here : Here h w (drawn h w (without_feeds s)) store left room at (without_feeds (drop i s))

-- every pixel was turned off
pub draw-start : (h w : ℕ) (s store₀ store : List ℕ) → Judged h w s store₀ → store ≡ replicate (length store₀) 0 → Drawing h w s store h w 0 0
unfolding zeros
draw-start h w s store₀ store j f =
    let n = bytes_for (h * w) in
    let z : store ≡ zeros n = f ∙ ap zeros j.room.long in
    let p : pixels_of store ≡ zeros (n * 2) = ap pixels_of z ∙ pixels-zeros n in
    record {
      here = record {
        long = ap length z ∙ length-zeros n;
        few = omega (arith, ap length z, length-zeros n, j.room.long, j.room.few);
        good = j.good;
        fits = omega (arith, ap length (onward-drawn h w (without_feeds s)), length-drawn h w (without_feeds s));
        off = λ k a. ap (λ r. r ! k) p ∙ zeros-at (n * 2) k;
        same = rw (p, onward-drawn h w (without_feeds s));
      };
    }

module _ {h w : ℕ} {s store : List ℕ} {left room at i : ℕ} (g : Drawing h w s store left room at i) where
  pub draw-end : length s ≤ i → store ≡ bytes_of (drawn h w (without_feeds s))
  draw-end p = here_end left room at (rw (feed-end s i p) at g.here) (length-drawn h w (without_feeds s))

  pub draw-long : (store₀ : List ℕ) → Judged h w s store₀ → length store ≡ length store₀
  draw-long store₀ j = g.here.long ∙ sym j.room.long

  pub draw-feed : i < length s → s ! i ≡ LF → Drawing h w s store left room at (i + 1)
  draw-feed p e = record { here = rw (feed-go s i p e) at g.here }

  module _ (p : i < length s) (n : s ! i ≡ LF → ⊥) where
    byte-here : Here h w (drawn h w (without_feeds s)) store left room at (s ! i ∷ without_feeds (drop (i + 1) s))
    byte-here = rw (feed-stay s i p n) at g.here

    pub draw-rows : 1 ≤ left
    draw-rows = here-rows left room at (s ! i) (without_feeds (drop (i + 1) s)) byte-here

    pub draw-fits : at + room ≤ 131070
    draw-fits = here-fits left room at (s ! i) (without_feeds (drop (i + 1) s)) byte-here

    pub draw-next : Fits w64 (at + 1)
    draw-next = omega (arith, draw-fits)

    module _ (m : s ! i ≡ CR → ⊥) where
      in_between : (ZERO ≤ s ! i) × (s ! i ≤ 0x38)
      in_between = pixel-between (s ! i) (good-pixel left (s ! i) (without_feeds (drop (i + 1) s)) byte-here.good m)

      pub draw-low : ZERO ≤ s ! i
      draw-low = in_between.0

      pub draw-small : s ! i - ZERO < 16
      draw-small = omega (arith, in_between)

      pub draw-skip : room ≡ 0 → Drawing h w s store left room at (i + 1)
      draw-skip e = record { here = here-skip left room at (s ! i) (without_feeds (drop (i + 1) s)) byte-here m e }

      pub draw-set : (room ≡ 0 → ⊥) → (store' : List ℕ) → pixels_of store' ≡ set (pixels_of store) at (s ! i - ZERO) → Drawing h w s store' left (room - 1) (at + 1) (i + 1)
      draw-set k store' e = record { here = here-set left room at (s ! i) (without_feeds (drop (i + 1) s)) byte-here m k store' e }

  pub draw-row : i < length s → s ! i ≡ CR → (k : ℕ) → k ≡ at + room → Drawing h w s store (left - 1) w k (i + 1)
  draw-row p e k f =
      let n : (s ! i ≡ LF → ⊥) = λ l. omega (arith, e) in
      record { here = rw f (here-row left room at (s ! i) (without_feeds (drop (i + 1) s)) (byte-here p n) e) }

pub ruleset drawing = (draw-start, draw-end, draw-long, draw-feed, draw-rows, draw-fits, draw-next, draw-row, draw-low, draw-small, draw-skip, draw-set, rules)
