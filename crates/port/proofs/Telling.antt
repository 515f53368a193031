-- Where C is told to go on, and what it is told of a renewal and of a reading of a temperature.
use Prim.Native.Nat.{ℕ}
use mathlib.Core.Path.{◌≡◌, refl, ap, ap₂, ◌∙◌}
use mathlib.Core.List.{List}
use lib.ListN.{length}
use borrow.Author.Rules.{rules}
use lib.IntN.{ℤ}
use mir.Syntax.{w8, w16}
use mir.Val.{SFits}
use mir.Facts.{to_z-of_z}
use Rattle.body.specs.Readers.{place_behind}
use Rattle.body.specs.declared.BlockStep.{BlockStep}
use Rattle.body.specs.declared.BlockStep.TheVariants.{Stray, More, Last}
use Rattle.signed.proofs.Held.{held}
use Rattle.renewal.specs.Renewing.{renewal_date}
use Rattle.renewal.specs.declared.Date.{Date}
use Rattle.renewal.specs.declared.Renewed.{Renewed}
use Rattle.temperature.specs.Correcting.{add_offset}
use Rattle.temperature.specs.declared.Corrected.{Corrected}
use Rattle.port.specs.Blocks.{block_as}

-- ---- where the reader is left

-- the place that C is told to go on at is the one at which a reader is left
pub told-left : (s : List ℕ) (b : BlockStep) → (block_as s b).next ≡ place_behind b (length s)
unfolding block_as place_behind
told-left s Stray = refl
told-left s (More b n) = refl
told-left s (Last b) = refl

-- ---- a renewal: the count is passed on as its bits

pub told-renewed : (first : Date) (n : ℤ) (r : Renewed) → SFits w16 n → r ≡ renewal_date first (held w16 n) → r ≡ renewal_date first n
told-renewed first n r f e = e ∙ ap (renewal_date first) (to_z-of_z f)

pub ruleset renewing = (told-renewed, rules)

-- ---- a reading of a temperature: offset and reading are passed on as their bits

pub told-corrected : (o n : ℤ) (r : Corrected) → SFits w8 o → SFits w16 n → r ≡ add_offset (held w8 o) (held w16 n) → r ≡ add_offset o n
told-corrected o n r f g e = e ∙ ap₂ add_offset (to_z-of_z f) (to_z-of_z g)

pub ruleset correcting = (told-corrected, rules)
