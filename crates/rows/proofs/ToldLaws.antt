-- What holds while a picture is told, and its steps.
use Prim.Native.Nat.{ℕ, ◌+◌, ◌-◌, ◌*◌, ◌/◌, ◌%◌, ◌^◌, ◌<◌, ◌≤◌}
use mathlib.Core.Path.{◌≡◌, refl, sym, ap, ◌∙◌}
use mathlib.Core.List.{List, ◌∷◌, ◌++◌, append-nil}
use native.Mathlib.Numerals.{add-one}
use native.Mathlib.Omega.{arith}
use mir.Val.{Fits}
use mir.Syntax.{w64}
use borrow.Rule.Slice.PartMut.{put_mid}
use native.Mathlib.Nat.{zero-add}
use lib.ListN.{length, take, drop, set, length-set, length-append, length-take, length-drop}
use lib.Seq.{sets, sets-eq, length-sets, drop-length}
use Rattle.octets.specs.Bytes.{ZERO}
use Rattle.octets.specs.Hex.{in_hex4}
use Rattle.octets.specs.Buffer.{splice}
use Rattle.octets.proofs.Buffers.{sets-append, splice-sets, length-splice}
use Rattle.buffers.proofs.Stores.{length-in_hex4, written-part}
use Rattle.pixels.specs.Pixels.{pixels_of}
use Rattle.pixels.specs.InnerHalves.{Pixel}
use Rattle.rows.specs.Rows.{CR}
use Rattle.rows.specs.Told.{characters, told_rows, told}
use Rattle.rows.proofs.Lengths.{length-characters, length-rows, length-told, characters-on, rows_on}

-- ---- one row

-- d pixels of the row are put
pub record Row (row₀ s : List ℕ) (k : ℕ) (row : List ℕ) (d : ℕ) : Type 0 where
  pub long : length row ≡ length row₀
  pub same : sets row d (characters (length row₀ - d) (drop (k + d) (pixels_of s))) ≡ characters (length row₀) (drop k (pixels_of s))

pub row-start : (row s : List ℕ) (k : ℕ) → Row row s k row 0
row-start row s k =
    let c = characters (length row) (drop k (pixels_of s)) in
    let n : length c ≡ length row = length-characters (length row) (drop k (pixels_of s)) in
    let j : k + 0 ≡ k = omega arith in
    let l : length row - 0 ≡ length row = omega arith in
    record {
      long = refl;
      same = rw (j, l) (sets-eq c row 0 (omega (arith, n)) ∙ rw (zero-add (length c), n, drop-length row) (append-nil c));
    }

module _ {row₀ s : List ℕ} {k : ℕ} {row : List ℕ} {d : ℕ} (g : Row row₀ s k row d) where
  pub row_next : d < length row₀ → (p : ℕ) → Pixel s (k + d) p → Row row₀ s k (set row d (ZERO + p)) (d + 1)
  row_next h p q = record {
    long = rw length-set g.long;
    same =
        let j : k + (d + 1) ≡ k + d + 1 = omega arith in
        let l : length row₀ - (d + 1) ≡ length row₀ - d - 1 = omega arith in
        rw (j, l, add-one d, q.read)
        (ap (sets row d) (sym (characters-on (length row₀ - d) (k + d) (pixels_of s) (omega arith))) ∙ g.same);
  }

  pub row-end : length row₀ ≤ d → row ≡ characters (length row₀) (drop k (pixels_of s))
  unfolding characters
  row-end h = let e : length row₀ - d ≡ 0 = omega arith in rw e at g.same

pub ruleset tell_row = (row-start, row_next, row-end)

-- a row put where it stands in the buffer
pub row-put : (out : List ℕ) (i w k : ℕ) (s row : List ℕ) → i + w ≤ length out
    → row ≡ characters (length (take (i + w - i) (drop i out))) (drop k (pixels_of s)) → put_mid i (i + w - i) out row ≡ sets out i (characters w (drop k (pixels_of s)))
row-put out i w k s row h e =
    let m : length (take (i + w - i) (drop i out)) ≡ w = omega (arith, length-take (i + w - i) (drop i out), length-drop i out) in
    let n : length (characters w (drop k (pixels_of s))) ≡ w = length-characters w (drop k (pixels_of s)) in
    written-part out i (i + w - i) row (characters w (drop k (pixels_of s))) (rw m at e) (omega (arith, n))
    ∙ splice-sets out i (characters w (drop k (pixels_of s))) (omega (arith, n))

-- ---- the rows

-- d rows are put: the next one from pixel k on and from place i on
pub record Rows (out₀ : List ℕ) (at h w : ℕ) (s out : List ℕ) (i k d : ℕ) : Type 0 where
  pub long : length out ≡ length out₀
  pub fits : i + length (told_rows (h - d) w (drop k (pixels_of s))) ≤ length out₀
  pub low : k ≤ i
  pub same : sets out i (told_rows (h - d) w (drop k (pixels_of s))) ≡ sets out₀ at (told_rows h w (pixels_of s))

pub rows_start : (out : List ℕ) (at h w : ℕ) (s : List ℕ) → at + h * (w + 1) ≤ length out → Rows out at h w s out at 0 0
rows_start out at h w s r =
    let e : h - 0 ≡ h = omega arith in
    record { long = refl; fits = rw e (omega (arith, length-rows h w (pixels_of s))); low = omega arith; same = rw e }

module _ {out₀ : List ℕ} {at h w : ℕ} {s out : List ℕ} {i k d : ℕ} (g : Rows out₀ at h w s out i k d) (p : d < h) where
  -- what is told next
  next : told_rows (h - d) w (drop k (pixels_of s)) ≡ characters w (drop k (pixels_of s)) ++ (CR ∷ told_rows (h - (d + 1)) w (drop (k + w) (pixels_of s)))
  next = let e : h - (d + 1) ≡ h - d - 1 = omega arith in rw e (rows_on (h - d) w k (pixels_of s) (omega arith))

  far : i + w + 1 + length (told_rows (h - (d + 1)) w (drop (k + w) (pixels_of s))) ≤ length out₀
  far =
      omega
      (arith, g.fits, ap length next, length-append (characters w (drop k (pixels_of s))) (CR ∷ told_rows (h - (d + 1)) w (drop (k + w) (pixels_of s))), length-characters w (drop k (pixels_of s)))

  -- the sums that the code makes
  pub rows-reach : length out₀ < 2 ^ 64 → Fits w64 (i + w)
  rows-reach b = omega (arith, far)

  pub rows-past : length out₀ < 2 ^ 64 → Fits w64 (i + w + 1)
  rows-past b = omega (arith, far)

  pub rows-pixel : length out₀ < 2 ^ 64 → Fits w64 (k + w)
  rows-pixel b = omega (arith, far, g.low)

  pub rows-span : i + w ≤ length out
  rows-span = omega (arith, far, g.long)

  module _ (out₁ : List ℕ) (e : out₁ ≡ sets out i (characters w (drop k (pixels_of s)))) where
    long₁ : length out₁ ≡ length out₀
    long₁ = ap length e ∙ length-sets out i (characters w (drop k (pixels_of s))) ∙ g.long

    pub rows_in : i + w < length out₁
    rows_in = omega (arith, far, long₁)

    pub rows_next : Rows out₀ at h w s (set out₁ (i + w) CR) (i + w + 1) (k + w) (d + 1)
    rows_next =
        let c = characters w (drop k (pixels_of s)) in
        let t = told_rows (h - (d + 1)) w (drop (k + w) (pixels_of s)) in
        record {
          long = rw length-set long₁;
          fits = far;
          low = omega (arith, g.low);
          same =
              rw (add-one (i + w), e)
              (ap (λ n. sets (sets out i c) (i + n) (CR ∷ t)) (sym (length-characters w (drop k (pixels_of s)))) ∙ sym (sets-append out i c (CR ∷ t)) ∙ ap (sets out i) (sym next) ∙ g.same);
        }

pub rows_end : {out₀ : List ℕ} {at h w : ℕ} {s out : List ℕ} {i k d : ℕ} → Rows out₀ at h w s out i k d → h ≤ d → out ≡ sets out₀ at (told_rows h w (pixels_of s))
unfolding told_rows
rows_end {h} {d} g p = let e : h - d ≡ 0 = omega arith in rw e at g.same

pub ruleset tell_rows = (rows_start, rows-reach, rows-past, rows-pixel, rows-span, row-put, rows_in, rows_next, rows_end)

-- ---- all of it

module _ (out : List ℕ) (at size : ℕ) (s : List ℕ) (r : at + (4 + size / 256 * (size % 256 + 1)) ≤ length out) where
  pub tell-room : (out₁ : List ℕ) → out₁ ≡ splice out at (in_hex4 size) → at + 4 + size / 256 * (size % 256 + 1) ≤ length out₁
  tell-room out₁ e =
      omega (arith, ap length e, length-splice out at (in_hex4 size) (omega (arith, length-in_hex4 size)))

  pub tell-all : (out₁ out₂ : List ℕ) → out₁ ≡ splice out at (in_hex4 size) → out₂ ≡ sets out₁ (at + 4) (told_rows (size / 256) (size % 256) (pixels_of s)) → out₂ ≡ splice out at (told size (pixels_of s))
  unfolding told
  tell-all out₁ out₂ e f =
      let t = told_rows (size / 256) (size % 256) (pixels_of s) in
      let d = in_hex4 size in
      let n : length d ≡ 4 = length-in_hex4 size in
      let a : out₁ ≡ sets out at d = e ∙ splice-sets out at d (omega arith) in
      let l : length (d ++ t) ≡ 4 + size / 256 * (size % 256 + 1) = length-told size (pixels_of s) in
      f ∙ ap (λ x. sets x (at + 4) t) a ∙ ap (λ k. sets (sets out at d) (at + k) t) (sym n) ∙ sym (sets-append out at d t)
      ∙ sym (splice-sets out at (d ++ t) (omega arith))

pub ruleset tells = (tell-room, tell-all)
