-- What the special functions that set make of data, test by test: another setting, or that the data are malformed.
use Prim.Native.Nat.{ℕ, ◌-◌, ◌<◌, ◌≤◌}
use mathlib.Core.Path.{◌≡◌, refl, sym, ap, ◌∙◌}
use mathlib.Core.List.{List, [], ◌∷◌}
use mathlib.Core.Bool.{Bool, true, false, not, ◌&&◌, ◌||◌}
use native.Mathlib.Omega.{arith}
use lib.ListN.{length, take, drop}
use lib.IntN.{ℤ}
use lib.Seq.{take_all}
use lib.Signed.{mag}
use mir.Syntax.{w8}
use mir.Facts.{to_z-of_z}
use borrow.Author.Rules.{rules}
use borrow.Author.Tests.{eq-eqb, ne_eqb, not-true, not-false}
use Rattle.std.specs.Prelude.{Option, Some, None, Result, Ok, Err}
use Rattle.octets.specs.Choice.{◌is◌, ◌≤?◌, ◌!◌, all, same}
use Rattle.octets.specs.Bytes.{ZERO, F}
use Rattle.octets.specs.Decimal.{is_decimal, decimal2}
use Rattle.octets.specs.Carried.{capitals}
use Rattle.octets.specs.InnerDigits.{two}
use Rattle.octets.proofs.Tests.{and_none, and-some}
use Rattle.octets.proofs.Told.{two_none, two-some}
use Rattle.signed.proofs.Held.{held}
use Rattle.temperature.proofs.OffsetLaws.{two-long, second-digit}
use Rattle.temperature.specs.Offset.{is_signed_digit, signed_digit}
use Rattle.board.specs.Settings.{FORMAT-S, FORMAT-M, OFF, ON, in_date, with_time, with_date, with_format, with_speaker, with_address, with_offset, cleared}
use Rattle.board.specs.declared.Settings.{Settings}
use Rattle.board.specs.Board.{Board}
use Rattle.effects.specs.Effects.{refuse, change}
use Rattle.configuration.specs.Configuration.{configure}
use Rattle.special.specs.Special.{TIME, SPEAKER, CONFIGURATION, FORMAT, ADDRESS, DATE, OFFSET, CLEAR}
use Rattle.special.specs.Special.{to, malformed, unknown, set_time, set_speaker, set_format, set_date, set_address, set_offset, clear_errors, set_by, write_special}
use Rattle.special.specs.InnerSetting.{put, put_read}
use Rattle.special.specs.declared.special.Setting.{Setting}
use Rattle.effects.specs.InnerLeaving.{number}
use Rattle.effects.specs.declared.Changed.{Changed}
use Rattle.effects.specs.declared.Refusal.{Refusal}

-- data that are digits alone: b is the code's answer
pub digits-alone : (d : List ℕ) (b : Bool) → b ≡ all is_decimal d → not b ≡ false → all is_decimal d ≡ true
digits-alone d b e h = sym e ∙ not-false b h

-- ---- the time

module _ (s : Settings) (d : List ℕ) where
  pub time-length : (length d ≡ 4 → ⊥) → malformed s ≡ set_time s d
  unfolding set_time
  time-length n = rw (ne_eqb (length d) 4 n)

  module _ (l : length d ≡ 4) (b : Bool) (e : b ≡ all is_decimal d) where
    pub time-letters : not b ≡ true → malformed s ≡ set_time s d
    unfolding set_time
    time-letters h = rw (eq-eqb (length d) 4 l, ← e, not-true b h)

    module _ (h : not b ≡ false) (x y : ℕ) (p : x ≡ decimal2 d) (q : y ≡ decimal2 (drop 2 d)) (t : Bool) (f : t ≡ (x ≤? 23 && y ≤? 59)) where
      pub time-late : not t ≡ true → malformed s ≡ set_time s d
      unfolding set_time
      time-late n = rw (eq-eqb (length d) 4 l, ← e, not-false b h, ← p, ← q, ← f, not-true t n)

      pub time-right : not t ≡ false → to (with_time s x y) ≡ set_time s d
      unfolding set_time
      time-right n = rw (eq-eqb (length d) 4 l, ← e, not-false b h, ← p, ← q, ← f, not-false t n)

pub ruleset timing = (digits-alone, time-length, time-letters, time-late, time-right, rules)

-- ---- the date

module _ (s : Settings) (d : List ℕ) where
  pub date-length : (length d ≡ 6 → ⊥) → malformed s ≡ set_date s d
  unfolding set_date
  date-length n = rw (ne_eqb (length d) 6 n)

  module _ (l : length d ≡ 6) (b : Bool) (e : b ≡ all is_decimal d) where
    pub date-letters : not b ≡ true → malformed s ≡ set_date s d
    unfolding set_date
    date-letters h = rw (eq-eqb (length d) 6 l, ← e, not-true b h)

    module _ (h : not b ≡ false) (x y z : ℕ) (p : x ≡ decimal2 d) (q : y ≡ decimal2 (drop 2 d)) (w : z ≡ decimal2 (drop 4 d))
        (t : Bool) (f : t ≡ in_date x y z) where
      pub date-none : not t ≡ true → malformed s ≡ set_date s d
      unfolding set_date
      date-none n = rw (eq-eqb (length d) 6 l, ← e, not-false b h, ← p, ← q, ← w, ← f, not-true t n)

      pub date-right : not t ≡ false → to (with_date s x y z) ≡ set_date s d
      unfolding set_date
      date-right n = rw (eq-eqb (length d) 6 l, ← e, not-false b h, ← p, ← q, ← w, ← f, not-false t n)

pub ruleset dating = (digits-alone, date-length, date-letters, date-none, date-right, rules)

-- ---- the speaker

-- data that are two bytes
same-two : (d : List ℕ) (x y : ℕ) → same d (x ∷ y ∷ []) ≡ (length d is 2 && (d ! 0 is x && d ! 1 is y))
unfolding same
same-two [] x y = refl
same-two (a ∷ []) x y = and_none (a is x) refl
same-two (a ∷ b ∷ []) x y = rw (and-some (b is y) refl)
same-two (a ∷ b ∷ c ∷ d) x y = rw (and_none (b is y) refl, and_none (a is x) refl, ne_eqb (length (a ∷ b ∷ c ∷ d)) 2 (λ e. omega arith))

module _ (s : Settings) (d : List ℕ) (b : Bool) (e : b ≡ same d (ZERO ∷ ZERO ∷ [])) where
  on_test : (length d is 2 && (d ! 0 is ZERO && d ! 1 is ZERO)) ≡ b
  on_test = sym (e ∙ same-two d ZERO ZERO)

  pub speaker-on : b ≡ true → to (with_speaker s ON) ≡ set_speaker s d
  unfolding set_speaker
  speaker-on h = rw (on_test, h)

  module _ (h : b ≡ false) (t : Bool) (f : t ≡ same d (F ∷ F ∷ [])) where
    off-test : (length d is 2 && (d ! 0 is F && d ! 1 is F)) ≡ t
    off-test = sym (f ∙ same-two d F F)

    pub speaker-off : t ≡ true → to (with_speaker s OFF) ≡ set_speaker s d
    unfolding set_speaker
    speaker-off k = rw (on_test, h, off-test, k)

    pub speaker-neither : t ≡ false → malformed s ≡ set_speaker s d
    unfolding set_speaker
    speaker-neither k = rw (on_test, h, off-test, k)

pub ruleset speaking = (speaker-on, speaker-off, speaker-neither, rules)

-- ---- the time format

module _ (s : Settings) (d : List ℕ) where
  pub format-none : length d < 1 → malformed s ≡ set_format s d
  unfolding set_format
  format-none n = rw (ne_eqb (length d) 1 (λ e. omega arith))

  pub format-excess : 2 ≤ length d → malformed s ≡ set_format s d
  unfolding set_format
  format-excess n = rw (ne_eqb (length d) 1 (λ e. omega arith))

  module _ (k : 1 ≤ length d) (l : length d < 2) (b : Bool) (e : b ≡ (d ! 0 is FORMAT-S || d ! 0 is FORMAT-M)) where
    one : length d ≡ 1
    one = omega arith

    pub format-other : b ≡ false → malformed s ≡ set_format s d
    unfolding set_format
    format-other h = rw (eq-eqb (length d) 1 one, ← e, h)

    pub format-right : b ≡ true → to (with_format s (d ! 0)) ≡ set_format s d
    unfolding set_format
    format-right h = rw (eq-eqb (length d) 1 one, ← e, h)

pub ruleset formatting = (format-none, format-excess, format-other, format-right, rules)

-- ---- the address

module _ (s : Settings) (d : List ℕ) where
  pub address-length : (length d ≡ 2 → ⊥) → malformed s ≡ set_address s d
  unfolding set_address
  address-length n = rw (ne_eqb (length d) 2 n)

  module _ (l : length d ≡ 2) (x : Option ℕ) (e : x ≡ two (capitals d)) where
    pub address-letters : x ≡ None → malformed s ≡ set_address s d
    unfolding set_address
    address-letters h = rw (eq-eqb (length d) 2 l, two_none (capitals d) (sym e ∙ h))

    pub address-right : (v : ℕ) → x ≡ Some v → to (with_address s v) ≡ set_address s d
    unfolding set_address
    address-right v h = let w = two-some (capitals d) v (sym e ∙ h) in rw (eq-eqb (length d) 2 l, w.0, w.1)

pub ruleset addressing = (address-length, address-letters, address-right, rules)

-- ---- the temperature offset

module _ (d : List ℕ) (b : Bool) (e : b ≡ is_signed_digit d) where
  pub offset-other : not b ≡ true → (s : Settings) → malformed s ≡ set_offset s d
  unfolding set_offset
  offset-other h s = rw (← e, not-true b h)

  module _ (h : not b ≡ false) where
    signed : is_signed_digit d ≡ true
    signed = sym e ∙ not-false b h

    pub offset-first : 0 < length d
    offset-first = omega (arith, two-long d signed)

    pub offset-second : 1 < length d
    offset-second = omega (arith, two-long d signed)

    pub offset-digit : is_decimal (d ! 1) ≡ true
    offset-digit = second-digit d signed

    pub offset-right : (z : ℤ) → mag z < 128 → z ≡ signed_digit (d ! 0) (d ! 1) → (s : Settings) → to (with_offset s (held w8 z)) ≡ set_offset s d
    unfolding set_offset
    offset-right z k p s = rw (signed, ← p) (ap (λ (x : ℤ). to (with_offset s x)) (to_z-of_z {w = w8} record { sfits = k }))

pub ruleset offsetting = (offset-other, offset-first, offset-second, offset-digit, offset-right, rules)

-- ---- the register

module _ (s : Settings) where
  pub clear-excess : (d : List ℕ) → 1 ≤ length d → malformed s ≡ clear_errors s d
  unfolding clear_errors
  clear-excess [] n = absurd (omega arith)
  clear-excess (x ∷ d) n = refl

  pub clear-right : (d : List ℕ) → length d < 1 → to (cleared s) ≡ clear_errors s d
  unfolding clear_errors
  clear-right [] l = refl
  clear-right (x ∷ d) l = absurd (omega arith)

pub ruleset clearing = (clear-excess, clear-right, rules)

-- ---- one of them, by its label

module _ (l : ℕ) (d : List ℕ) where
  -- k is one of the labels
  pub set-labelled : (k : ℕ) (r : Result Setting Refusal) → l ≡ k → ((s : Settings) → put_read s r ≡ set_by s k d) → (s : Settings) → put_read s r ≡ set_by s l d
  set-labelled k r e h s = rw e (h s)

  pub set-none : (l ≡ TIME → ⊥) → (l ≡ SPEAKER → ⊥) → (l ≡ FORMAT → ⊥) → (l ≡ ADDRESS → ⊥) → (l ≡ DATE → ⊥) →
      (l ≡ OFFSET → ⊥) → (l ≡ CLEAR → ⊥) → (s : Settings) → unknown s ≡ set_by s l d
  unfolding set_by
  set-none a b c f e g h s =
      rw (
        ne_eqb l TIME a,
        ne_eqb l SPEAKER b,
        ne_eqb l FORMAT c,
        ne_eqb l DATE e,
        ne_eqb l ADDRESS f,
        ne_eqb l OFFSET g,
        ne_eqb l CLEAR h,
      )

  -- put where it belongs
  pub set-put : (s : Settings) (x : Setting) (r : Settings) → ((s : Settings) → put_read s (Ok x) ≡ set_by s l d) → r ≡ put s x → to r ≡ set_by s l d
  set-put s x r h e = rw e (h s)

  pub set-refused : (s : Settings) (x : Refusal) (n : ℕ) → ((s : Settings) → put_read s (Err x) ≡ set_by s l d) → n ≡ number x →
      record { number = n; settings = s } ≡ set_by s l d
  set-refused s x n h e = rw e (h s)

pub ruleset labelled = (set-labelled, set-none, set-put, set-refused, rules)

-- ---- E

-- the data behind a label
behind-label : (l : ℕ) (d : List ℕ) → take (length (l ∷ d) - 1) (drop 1 (l ∷ d)) ≡ d
behind-label l d = take_all (length (l ∷ d) - 1) d (omega arith)

module _ (b : Board) where
  -- by the definitions
  lists : (text : List ℕ) → (length text ≡ 0 → ⊥) → text ! 0 ≡ CONFIGURATION → configure b (take (length text - 1) (drop 1 text)) ≡ write_special b text
  unfolding write_special
  lists [] h k = absurd (h refl)
  lists (l ∷ d) h k = rw (k, behind-label l d)

  sets : (text : List ℕ) → (length text ≡ 0 → ⊥) → (text ! 0 ≡ CONFIGURATION → ⊥) →
      change b (set_by b.settings (text ! 0) (take (length text - 1) (drop 1 text))) ≡ write_special b text
  unfolding write_special
  sets [] h k = absurd (h refl)
  sets (l ∷ d) h k = rw (ne_eqb l CONFIGURATION k, behind-label l d)

  pub write-none : (text : List ℕ) → length text ≡ 0 → refuse 22 b ≡ write_special b text
  unfolding write_special
  write-none [] h = refl
  write-none (l ∷ d) h = absurd (omega arith)

  -- a is the board, its memory as it was left
  module _ (text : List ℕ) (h : length text ≡ 0 → ⊥) (r : Changed) (a : Board) where
    pub write-lists : text ! 0 ≡ CONFIGURATION → change a r ≡ configure b (take (length text - 1) (drop 1 text)) → change a r ≡ write_special b text
    write-lists k e = e ∙ lists text h k

    pub write-sets : (text ! 0 ≡ CONFIGURATION → ⊥) → r ≡ set_by b.settings (text ! 0) (take (length text - 1) (drop 1 text)) → a ≡ b →
        change a r ≡ write_special b text
    write-sets k e f = rw (e, f) (sets text h k)

pub ruleset writing = (write-none, write-lists, write-sets, rules)
