-- Request 1: which dates there are in the years 2000 to 2099. A year stands in full; months and days count from 1.
use Rattle.std.specs.Prelude.{ℕ, ◌%◌, Bool, ◌&&◌, List, [], ◌∷◌, if◌then◌else◌}
use Rattle.octets.specs.Choice.{◌is◌, between, ◌!◌}

-- "years being 2000 to 2099"
abbrev pub FIRST-YEAR : ℕ
FIRST-YEAR = 2000

abbrev pub LAST-YEAR : ℕ
LAST-YEAR = 2099

-- "with 29 February in each year divisible by four"
unfoldable pub february : ℕ → ℕ
february y = if y % 4 is 0 then 29 else 28

-- "true month lengths": January to December at places 1 to 12; place 0 is no month
abbrev pub month_lengths : ℕ → List ℕ
month_lengths y = 0 ∷ 31 ∷ february y ∷ 31 ∷ 30 ∷ 31 ∷ 30 ∷ 31 ∷ 31 ∷ 30 ∷ 31 ∷ 30 ∷ 31 ∷ []

-- the length of a month; what is no month has no days
unfoldable pub month_length : ℕ → ℕ → ℕ
month_length y m = month_lengths y ! m

-- a date that exists: its year is one of these, its day one of its month's
unfoldable pub is_date : ℕ → ℕ → ℕ → Bool
is_date y m d = between FIRST-YEAR LAST-YEAR y && between 1 (month_length y m) d
