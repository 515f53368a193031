-- For contracts of inner functions only: how long a result is, reckoned from what is known of its blocks.
use Rattle.std.specs.Prelude.{ℕ, ◌+◌, ◌*◌, ◌≤◌, Bool, not, ◌&&◌, List, [], ◌∷◌, if◌then◌else◌}
use Rattle.octets.specs.Choice.{◌is◌}
use Rattle.octets.specs.Bytes.{is_plain}
use Rattle.octets.specs.InnerCounts.{count}
use Rattle.body.specs.Body.{Block}
use Rattle.forms.specs.Forms.{is_itself}

-- a byte 05H to FFH that form 3 carries as an escape
unfoldable pub is_escaped : ℕ → Bool
is_escaped x = is_plain x && not (is_itself x)

-- how many of a list are
abbrev pub escapes : List ℕ → ℕ
escapes l = count is_escaped l

-- how many of the blocks' commands and data are
unfoldable pub block_escapes : List Block → ℕ
block_escapes [] = 0
block_escapes (b ∷ bs) = escapes (b.command ∷ b.text) + block_escapes bs

-- the bytes that a form stands for, by the length of its header, the number of its blocks and the bytes of their data: five NUL, SOH and
-- EOT beside the header; to a block STX and the command, ETX before all but the first, or ETX and four digits behind each
unfoldable pub form_length : ℕ → ℕ → ℕ → ℕ → ℕ
form_length form h n t =
    if form is 1 then 6 + h + 3 * n + t
    else if form is 3 then 2 + h + 7 * n + t
    else 7 + h + 7 * n + t

-- the result's, by those, the number of the blocks and of the escapes in them: in form 3 an escape takes two bytes more, and SOH, EOT, and
-- STX and ETX of each block are escapes too
unfoldable pub render_length : ℕ → ℕ → ℕ → ℕ → ℕ
render_length form long n e = if form is 3 then long + 2 * (2 + 2 * n + e) else long

-- three numbers that are far from the last that a number holds
pub record Known (a n b : ℕ) : Type 0 where
  pub first : a ≤ 1000000
  pub second : n ≤ 1000000
  pub third : b ≤ 1000000
