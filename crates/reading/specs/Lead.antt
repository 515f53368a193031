-- "Lead: five or more NUL and then SOH, or six or more SOH of which the last opens the header.
-- Printable: any number of NUL, none included, then SOH; or one or more SOH."
use Rattle.std.specs.Prelude.{ℕ, Bool, List, length, drop, if◌then◌else◌}
use Rattle.octets.specs.Choice.{◌is◌, ◌isn't◌, ◌<?◌, ◌!◌, front, behind}
use Rattle.octets.specs.Bytes.{NUL, SOH, is_nul}

-- the byte SOH
unfoldable pub is_soh : ℕ → Bool
is_soh x = x is SOH

-- "five or more", "any number"
abbrev pub fewest_nul : Bool → ℕ
fewest_nul printable = if printable then 0 else 5

-- "six or more", "one or more"
abbrev pub fewest_soh : Bool → ℕ
fewest_soh printable = if printable then 1 else 6

-- what stands behind the lead, or a wrong lead
pub data Led : Type 0 where
  misled : Led
  led : List ℕ → Led

-- NUL and then SOH
unfoldable pub nul_lead : Bool → List ℕ → Led
nul_lead printable t =
    if length (front is_nul t) <? fewest_nul printable then misled
    else if behind is_nul t ! 0 isn't SOH then misled
    else led (drop 1 (behind is_nul t))

-- SOH "of which the last opens the header"
unfoldable pub soh_lead : Bool → List ℕ → Led
soh_lead printable t = if length (front is_soh t) <? fewest_soh printable then misled else led (behind is_soh t)

-- the first byte says which of the two
unfoldable pub lead_of : Bool → List ℕ → Led
lead_of printable t = if t ! 0 is NUL then nul_lead printable t else soh_lead printable t
