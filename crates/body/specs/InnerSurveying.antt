-- For contracts of inner functions only: what one walk over the blocks of a body tells of them.
use Rattle.std.specs.Prelude.{ℕ, ◌+◌, ◌-◌, ◌^◌, ◌<◌, ◌≤◌, Bool, false, ◌&&◌, ◌||◌, List, [], ◌∷◌, length, Result, Ok, Err, if◌then◌else◌}
use Rattle.octets.specs.Bytes.{BLOCKS}
use Rattle.body.specs.Body.{Block, Body, bad_body, body, is_read, read_not_last, has_read, all_right}
use Rattle.body.specs.declared.Placed.{Placed}
use Rattle.body.specs.declared.surveying.Survey.{Survey}
use Rattle.body.specs.declared.surveying.Refusal.{Refusal}
use Rattle.body.specs.declared.surveying.Refusal.TheVariants.{BadBody, ReadNotLast}

-- 7 "bad body", 8 "a read that is not last"
abbrev pub number_of : Refusal → ℕ
number_of BadBody = 7
number_of (ReadNotLast t) = 8

-- how many bytes of data blocks have
unfoldable pub text_bytes : List Block → ℕ
text_bytes [] = 0
text_bytes (b ∷ bs) = length b.text + text_bytes bs

-- a read among the blocks, all sums right, how many blocks, how many bytes of data
abbrev pub survey_as : Bool → Bool → ℕ → ℕ → Survey
survey_as r k n t = record { read = r; right = k; count = n; bytes = t }

-- what is known of blocks
abbrev pub known : List Block → Survey
known bs = survey_as (has_read bs) (all_right bs) (length bs) (text_bytes bs)

-- a whole body
unfoldable pub surveyed : Body → Result Survey Refusal
surveyed bad_body = Err BadBody
surveyed (body bs) = if read_not_last false bs then Err (ReadNotLast (known bs)) else Ok (known bs)

-- the survey that is answered, beside 8 too; of a bad body nothing is known
unfoldable pub survey_in : Result Survey Refusal → Survey
survey_in (Ok t) = t
survey_in (Err BadBody) = survey_as false false 0 0
survey_in (Err (ReadNotLast t)) = t

-- one block more
abbrev pub further : Survey → Placed → Survey
further t b = survey_as (t.read || is_read b.command) (t.right && b.right) (t.count + 1) (t.bytes + (b.to - b.from))

-- one block more may be counted
pub record Countable (t : Survey) (b : Placed) : Type 0 where
  pub few : t.count < BLOCKS
  pub ordered : b.from ≤ b.to
  pub short : t.bytes + (b.to - b.from) < 2 ^ 64
