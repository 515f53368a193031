-- How long a reply to J is, and its next pixel and row.
use Prim.Native.Nat.{ℕ, zero, suc, ◌+◌, ◌-◌, ◌*◌, ◌/◌, ◌%◌, ◌<◌}
use mathlib.Core.Path.{◌≡◌, refl, sym, ap}
use mathlib.Core.List.{List, ◌∷◌, ◌++◌}
use native.Mathlib.Nat.{zero-mul, suc-mul}
use native.Mathlib.Omega.{arith}
use lib.ListN.{length, drop, length-append}
use lib.Seq.{drop-drop}
use Rattle.octets.specs.Choice.{◌!◌}
use Rattle.octets.specs.Bytes.{ZERO}
use Rattle.octets.specs.Hex.{in_hex4}
use Rattle.octets.proofs.Tests.{suc-less-one}
use Rattle.octets.proofs.Spots.{head_at}
use Rattle.buffers.proofs.Stores.{length-in_hex4}
use Rattle.rows.specs.Rows.{CR}
use Rattle.rows.specs.Told.{characters, told_rows, told}

pub length-characters : (w : ℕ) (ps : List ℕ) → length (characters w ps) ≡ w
unfolding characters
length-characters zero ps = refl
length-characters (suc w) ps = ap suc (length-characters w (drop 1 ps))

pub length-rows : (h w : ℕ) (ps : List ℕ) → length (told_rows h w ps) ≡ h * (w + 1)
unfolding told_rows
length-rows zero w ps = sym (zero-mul (w + 1))
length-rows (suc h) w ps =
    omega (arith, length-append (characters w ps) (CR ∷ told_rows h w (drop w ps)), length-characters w ps, length-rows h w (drop w ps), suc-mul h (w + 1))

-- a reply's data, behind the label: its length does not depend on the pixels
pub length-told : (size : ℕ) (ps : List ℕ) → length (told size ps) ≡ 4 + size / 256 * (size % 256 + 1)
unfolding told
length-told size ps =
    omega (arith, length-append (in_hex4 size) (told_rows (size / 256) (size % 256) ps), length-in_hex4 size, length-rows (size / 256) (size % 256) ps)

-- the next pixel
pub characters-on : (n j : ℕ) (ps : List ℕ) → 0 < n → characters n (drop j ps) ≡ (ZERO + ps ! j) ∷ characters (n - 1) (drop (j + 1) ps)
unfolding characters
characters-on zero j ps h = absurd (omega arith)
characters-on (suc n) j ps h = rw (suc-less-one n, head_at ps j, drop-drop 1 j ps)

-- the next row
pub rows_on : (h w k : ℕ) (ps : List ℕ) → 0 < h → told_rows h w (drop k ps) ≡ characters w (drop k ps) ++ (CR ∷ told_rows (h - 1) w (drop (k + w) ps))
unfolding told_rows
rows_on zero w k ps p = absurd (omega arith)
rows_on (suc h) w k ps p = rw (suc-less-one h, drop-drop w k ps)
