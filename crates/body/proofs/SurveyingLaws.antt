-- What holds while the blocks of a body are walked once, its steps, and what the walk tells of them.
use Rattle.std.proofs.Common.{◌≡◌, ℕ, suc, ◌+◌, ◌-◌, ◌^◌, ◌<◌, ◌≤◌, Bool, true, false, ◌&&◌, ◌||◌, ◌⊎◌, List, [], ◌∷◌, length, drop, sym, refl, ap, ◌∙◌, subst, inl, inr, ⊎_elim, arith, length-drop, length-take, rules, ne_eqb, Result, Ok, Err, if◌then◌else◌}
use Rattle.octets.specs.Bytes.{BLOCKS}
use Rattle.octets.proofs.Tests.{by-test, or-none, and_assoc, and-some}
use Rattle.body.specs.Body.{Block, Step, stray, more, last, Body, bad_body, body, block_at, prepend, blocks}
use Rattle.body.specs.Body.{is_read, read_not_last, has_read, all_right}
use Rattle.body.specs.Steps.{placed, found_at, data_of, read_back}
use Rattle.body.specs.InnerSurveying.{number_of, survey_as, known, further, surveyed, survey_in, text_bytes, Countable}
use Rattle.body.specs.declared.Placed.{Placed}
use Rattle.body.specs.declared.BlockStep.{BlockStep}
use Rattle.body.specs.declared.BlockStep.TheVariants.{Stray, More, Last}
use Rattle.body.specs.declared.surveying.Survey.{Survey}
use Rattle.body.specs.declared.surveying.Refusal.{Refusal}
use Rattle.body.specs.declared.surveying.Refusal.TheVariants.{BadBody, ReadNotLast}
use Rattle.body.proofs.FoundBlocks.{blocks-stray, blocks_last, blocks_more, blocks-none}
use Rattle.body.proofs.FoundBlocks.{more-in, more-ordered, more-inside, last-ordered, last-inside}
use Rattle.body.proofs.WellFormed.{anything, all-anything, BodyOf, blocks-of}

-- ---- one block more

or_assoc : (a b c : Bool) → ((a || b) || c) ≡ (a || (b || c))
or_assoc true b c = refl
or_assoc false b c = refl

-- what is known of blocks, with more behind them
abbrev onto : Survey → List Block → Survey
onto t bs = survey_as (t.read || has_read bs) (t.right && all_right bs) (t.count + length bs) (t.bytes + text_bytes bs)

-- a body behind blocks of which something is known
unfoldable pub survey_from : Survey → Body → Result Survey Refusal
survey_from t bad_body = Err BadBody
survey_from t (body bs) = if read_not_last t.read bs then Err (ReadNotLast (onto t bs)) else Ok (onto t bs)

survey-whole : (x : Body) → survey_from (survey_as false true 0 0) x ≡ surveyed x
unfolding survey_from surveyed
survey-whole bad_body = refl
survey-whole (body bs) =
    let n : 0 + length bs ≡ length bs = omega arith in
    let t : 0 + text_bytes bs ≡ text_bytes bs = omega arith in
    rw (n, t)

-- blocks that are a body's
abbrev Some : Body → Type 0
Some bad_body = Unit {0}
Some (body bs) = 1 ≤ length bs

some-of : (n : ℕ) (x : Body) → BodyOf anything n x → Some x
some-of n bad_body g = tt
some-of n (body bs) g = g.some

some : (n : ℕ) (l : List ℕ) → Some (blocks n l)
some n l = some-of n (blocks n l) (blocks-of anything n l (all-anything l))

alike : {v w r r' k k' : Bool} {n n' t t' : ℕ} → v ≡ w → r ≡ r' → k ≡ k' → n ≡ n' → t ≡ t'
    → ◌≡◌ {A = Result Survey Refusal} (if v then Err (ReadNotLast (survey_as r k n t)) else Ok (survey_as r k n t)) (if w then Err (ReadNotLast (survey_as r' k' n' t')) else Ok (survey_as r' k' n' t'))
alike a b c d e = rw (a, b, c, d, e)

-- a block in front of others
survey-prepend : (t : Survey) (b : Placed) (s : List ℕ) (x : Body) → Some x → length (data_of s b) ≡ b.to - b.from
    → survey_from t (prepend (read_back s b) x) ≡ survey_from (further t b) x
unfolding survey_from prepend read_not_last has_read all_right text_bytes
survey-prepend t b s bad_body h e = refl
survey-prepend t b s (body []) h e = absurd (omega arith)
survey-prepend t b s (body (c ∷ bs)) h e =
    let r : Bool = is_read b.command in
    alike (sym (or_assoc t.read r (read_not_last (is_read c.command) bs))) (sym (or_assoc t.read r (has_read (c ∷ bs))))
    (sym (and_assoc t.right b.right (all_right (c ∷ bs)))) (omega arith) (omega (arith, e))

-- the last block
module _ (t : Survey) (b : Placed) (s : List ℕ) where
  survey-early : t.read ≡ true → length (data_of s b) ≡ b.to - b.from → survey_from t (body (read_back s b ∷ [])) ≡ Err (ReadNotLast (further t b))
  unfolding survey_from read_not_last has_read all_right text_bytes
  survey-early h e =
      alike (or-none t.read ∙ h) (ap (λ x. t.read || x) (or-none (is_read b.command))) (ap (λ x. t.right && x) (and-some b.right refl)) (omega arith) (omega (arith, e))

  survey-single : t.read ≡ false → length (data_of s b) ≡ b.to - b.from → survey_from t (body (read_back s b ∷ [])) ≡ Ok (further t b)
  unfolding survey_from read_not_last has_read all_right text_bytes
  survey-single h e =
      alike (or-none t.read ∙ h) (ap (λ x. t.read || x) (or-none (is_read b.command))) (ap (λ x. t.right && x) (and-some b.right refl)) (omega arith) (omega (arith, e))

-- ---- where a block's data start, and how long they are

-- two bytes behind the place of the block
abbrev Starts : ℕ → BlockStep → Type 0
Starts at Stray = Unit {0}
Starts at (More b n) = b.from ≡ at + 2
Starts at (Last b) = b.from ≡ at + 2

placed-starts : (s : List ℕ) (at : ℕ) (x : Step) → Starts at (placed s at x)
unfolding placed
placed-starts s at stray = tt
placed-starts s at (more b l) = refl
placed-starts s at (last b) = refl

found-starts : (s : List ℕ) (at : ℕ) → Starts at (found_at s at)
unfolding found_at
found-starts s at = placed-starts s at (block_at (drop at s))

data-long : (s : List ℕ) (b : Placed) → b.to ≤ length s → length (data_of s b) ≡ b.to - b.from
data-long s b h = simp (length-take, length-drop) (omega arith)

-- ---- the walk

-- behind i blocks, the others with what was seen before them tell what the whole body tells; and few blocks with few bytes were seen
pub record Surveying (s : List ℕ) (from at i : ℕ) (seen : Survey) : Type 0 where
  pub same : survey_from seen (blocks (BLOCKS - i) (drop at s)) ≡ surveyed (blocks BLOCKS (drop from s))
  pub few : seen.count ≤ i
  pub short : seen.bytes ≤ at

-- nothing was seen
pub survey-start : (s : List ℕ) (from : ℕ) → Surveying s from from 0 (survey_as false true 0 0)
survey-start s from = record { same = survey-whole (blocks BLOCKS (drop from s)); few = omega arith; short = omega arith }

module _ {s : List ℕ} {from at i : ℕ} {seen : Survey} (g : Surveying s from at i seen) where
  abbrev left : ℕ
  left = BLOCKS - i

  survey-bad : blocks left (drop at s) ≡ bad_body → Err BadBody ≡ surveyed (blocks BLOCKS (drop from s))
  unfolding survey_from
  survey-bad h = sym (ap (survey_from seen) h) ∙ g.same

  -- no block may stand there
  pub survey-end : BLOCKS ≤ i → Err BadBody ≡ surveyed (blocks BLOCKS (drop from s))
  survey-end p = survey-bad (blocks-none (drop at s) left (omega arith))

  module _ (l : i < BLOCKS) (r : BlockStep) (e : r ≡ found_at s at) where
    p : 0 < left
    p = omega arith

    -- no block stands there
    pub survey-stray : r ≡ Stray → Err BadBody ≡ surveyed (blocks BLOCKS (drop from s))
    survey-stray h = survey-bad (blocks-stray s at r e h left p)

    module _ {b : Placed} (h : r ≡ Last b) where
      last-starts : b.from ≡ at + 2
      last-starts = subst (Starts at) (sym e ∙ h) (found-starts s at)

      -- the last block may be counted
      pub last-countable : length s < 2 ^ 64 → Countable seen b
      last-countable w = record {
        few = omega (arith, g.few);
        ordered = last-ordered s at r e h;
        short = omega (arith, g.short, last-starts, last-ordered s at r e h, last-inside s at r e h);
      }

      -- and ends the walk: behind a read, or not
      pub survey-read-early : seen.read ≡ true → (t : Survey) → t ≡ further seen b → Err (ReadNotLast t) ≡ surveyed (blocks BLOCKS (drop from s))
      survey-read-early q t f =
          ap (λ x. Err (ReadNotLast x)) f
          ∙ sym (ap (survey_from seen) (blocks_last s at r e h left p) ∙ survey-early seen b s q (data-long s b (last-inside s at r e h)))
          ∙ g.same

      pub survey-last : seen.read ≡ false → (t : Survey) → t ≡ further seen b → Ok t ≡ surveyed (blocks BLOCKS (drop from s))
      survey-last q t f =
          ap Ok f
          ∙ sym (ap (survey_from seen) (blocks_last s at r e h left p) ∙ survey-single seen b s q (data-long s b (last-inside s at r e h)))
          ∙ g.same

    module _ {b : Placed} {n : ℕ} (h : r ≡ More b n) where
      more-starts : b.from ≡ at + 2
      more-starts = subst (Starts at) (sym e ∙ h) (found-starts s at)

      -- a block with another behind it may be counted
      pub more-countable : length s < 2 ^ 64 → Countable seen b
      more-countable w = record {
        few = omega (arith, g.few);
        ordered = more-ordered s at r e h;
        short = omega (arith, g.short, more-starts, more-ordered s at r e h, more-inside s at r e h);
      }

      -- and the walk goes on behind it
      pub survey-more : (t : Survey) → t ≡ further seen b → Surveying s from n (i + 1) t
      survey-more t q =
          let z : left - 1 ≡ BLOCKS - (i + 1) = omega arith in
          rw q (record {
            same =
                rw (← z) (sym (ap (survey_from seen) (blocks_more s at r e h left p)
                ∙ survey-prepend seen b s (blocks (left - 1) (drop n s)) (some (left - 1) (drop n s)) (data-long s b (more-inside s at r e h)))
                ∙ g.same);
            few = omega (arith, g.few);
            short = omega (arith, g.short, more-starts, more-in s at r e h);
          })

-- ---- what the walk tells

-- 7 "bad body", 8 "a read that is not last", 0 for a good body
unfoldable pub verdict : Body → ℕ
verdict bad_body = 7
verdict (body bs) = if read_not_last false bs then 8 else 0

-- what the walk answers, as that number
abbrev pub told : Result Survey Refusal → ℕ
told (Ok t) = 0
told (Err e) = number_of e

-- the answer is the body's: 7, 8 or 0
pub survey-number : (x : Body) → told (surveyed x) ≡ verdict x
unfolding surveyed verdict
survey-number bad_body = refl
survey-number (body bs) = by-test (read_not_last false bs) (λ e. rw e) (λ e. rw e)

survey-known : (bs : List Block) → survey_in (surveyed (body bs)) ≡ known bs
unfolding survey_in surveyed
survey-known bs = by-test (read_not_last false bs) (λ e. rw e) (λ e. rw e)

module _ (bs : List Block) where
  -- how many blocks there are
  pub survey-count : (survey_in (surveyed (body bs))).count ≡ length bs
  survey-count = ap (λ x. x.count) (survey-known bs)

  -- whether no sum is wrong
  pub survey-right : (survey_in (surveyed (body bs))).right ≡ all_right bs
  survey-right = ap (λ x. x.right) (survey-known bs)

  -- whether one is a read
  pub survey-read : (survey_in (surveyed (body bs))).read ≡ has_read bs
  survey-read = ap (λ x. x.read) (survey-known bs)

  -- how many bytes of data they have
  pub survey-bytes : (survey_in (surveyed (body bs))).bytes ≡ text_bytes bs
  survey-bytes = ap (λ x. x.bytes) (survey-known bs)

pub ruleset surveys = (survey-start, survey-end, survey-stray, last-countable, survey-read-early, survey-last, more-countable, survey-more, rules)
