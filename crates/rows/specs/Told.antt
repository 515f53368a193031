-- Request 2, command J: "The reply to J uses I, with a CR after every row."
use Rattle.std.specs.Prelude.{ℕ, zero, suc, ◌+◌, ◌/◌, ◌%◌, List, [], ◌∷◌, ◌++◌, drop}
use Rattle.octets.specs.Choice.{◌!◌}
use Rattle.octets.specs.Bytes.{ZERO}
use Rattle.octets.specs.Hex.{in_hex4}
use Rattle.rows.specs.Rows.{CR}

-- the characters of the next w pixels: "pixel characters "0" to "8" whatever the colour status"
unfoldable pub characters : ℕ → List ℕ → List ℕ
characters zero ps = []
characters (suc w) ps = (ZERO + ps ! 0) ∷ characters w (drop 1 ps)

-- h rows of w pixels, "with a CR after every row"
unfoldable pub told_rows : ℕ → ℕ → List ℕ → List ℕ
told_rows zero w ps = []
told_rows (suc h) w ps = characters w ps ++ (CR ∷ told_rows h w (drop w ps))

-- height, width and rows: "SIZE holds rows then columns", two digits each, and so its four digits are the height and the width
unfoldable pub told : ℕ → List ℕ → List ℕ
told size ps = in_hex4 size ++ told_rows (size / 256) (size % 256) ps
