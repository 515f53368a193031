-- For contracts of inner functions only: what a call wants of a text, of a picture's bytes and of a buffer.
use Rattle.std.specs.Prelude.{◌≡◌, ℕ, ◌*◌, ◌≤◌, true, List, length}
use Rattle.pixels.specs.Pixels.{bytes_for}
use Rattle.rows.specs.Rows.{without_feeds, well_formed}

-- the bytes of one picture of h rows and w columns, of a store of up to 65,535 bytes
pub record Picture (h w : ℕ) (s : List ℕ) : Type 0 where
  pub long : length s ≡ bytes_for (h * w)
  pub few : length s ≤ 65535

-- a text that was judged, and the bytes into which it is drawn
pub record Judged (h w : ℕ) (text s : List ℕ) : Type 0 where
  pub room : Picture h w s
  pub good : well_formed h (without_feeds text) ≡ true
