-- The special functions that set keep settings in range, and touch neither own type nor anything that is kept of memory;
-- one alone sets the address, and one clears the register.
use Prim.Native.Nat.{ℕ}
use mathlib.Core.Path.{◌≡◌, refl, sym, ap, ◌∙◌}
use mathlib.Core.List.{List}
use lib.IntN.{ℤ}
use mathlib.Core.Bool.{Bool, true, false, ◌&&◌, ◌||◌}
use native.Mathlib.Omega.{arith}
use lib.ListN.{length, drop}
use borrow.Author.Tests.{eqb-true}
use Rattle.std.specs.Prelude.{if◌then◌else◌}
use Rattle.octets.specs.Choice.{◌is◌, ◌≤?◌, ◌!◌, none, all}
use Rattle.octets.specs.Carried.{is_carried2, carried2}
use Rattle.octets.specs.Decimal.{is_decimal, decimal2}
use Rattle.octets.specs.Bytes.{ZERO, F}
use Rattle.octets.proofs.Tests.{choice, never, split}
use Rattle.temperature.specs.Offset.{is_signed_digit}
use Rattle.temperature.proofs.Spelling.{set-offset}
use Rattle.register.specs.Register.{CLEARED, is_register}
use Rattle.board.specs.Settings.{FORMAT-S, FORMAT-M, OFF, ON, in_date, in_range, set_to}
use Rattle.board.specs.Board.{board}
use Rattle.board.specs.Soundness.{keeps_true}
use Rattle.board.specs.declared.Settings.{Settings}
use Rattle.board.proofs.Ranges.{time-ranged, date-ranged, format-ranged, speaker-ranged, address-ranged, offset-ranged, errors-ranged}
use Rattle.effects.specs.declared.Changed.{Changed}
use Rattle.special.specs.Special.{TIME, SPEAKER, FORMAT, DATE, ADDRESS, OFFSET, CLEAR, to, malformed, set_time, set_speaker, set_format, set_date, set_address, set_offset, clear_errors, set_by}

-- what a special function keeps of the settings s; the tests say whether it may set the address, and whether it clears the register
pub record Kept (moves clear : Bool) (s : Settings) (c : Changed) : Type 0 where
  pub own : c.settings.own ≡ s.own
  pub files : c.settings.files ≡ s.files
  pub kept : (m : List ℕ) → keeps_true (board c.settings m) ≡ keeps_true (board s m)
  pub address : moves ≡ false → c.settings.address ≡ s.address
  pub ranged : in_range s ≡ true → in_range c.settings ≡ true
  pub refused : (c.number ≡ 0 → ⊥) → c.settings ≡ s
  pub errors : c.number ≡ 0 → c.settings.errors ≡ (if clear then CLEARED else s.errors)

module _ (x y : Bool) (s : Settings) (d : List ℕ) where
  -- a refusal keeps all
  stays : {n : ℕ} → (n ≡ 0 → ⊥) → Kept x y s (record { number = n; settings = s })
  stays z =
      record {
        own = refl;
        files = refl;
        kept = λ m. refl;
        address = λ n. refl;
        ranged = λ g. g;
        refused = λ n. refl;
        errors = λ n. absurd (z n);
      }

  malformed-keeps : Kept x y s (malformed s)
  malformed-keeps = stays (λ n. omega arith)

  -- another time, date, format, speaker, address, offset or register
  sets : {h n m d i f v a : ℕ} {t : ℤ} {b : ℕ} → (x ≡ false → a ≡ s.address) → b ≡ (if y then CLEARED else s.errors) →
      (in_range s ≡ true → in_range (set_to s h n m d i f v a t b) ≡ true) → Kept x y s (to (set_to s h n m d i f v a t b))
  unfolding keeps_true
  sets e g r =
      record {
        own = refl;
        files = refl;
        kept = λ m. refl;
        address = e;
        ranged = r;
        refused = λ n. absurd (n refl);
        errors = λ n. g;
      }

  -- clearing the register
  pub clear-keeps : y ≡ true → Kept x y s (clear_errors s d)
  unfolding clear_errors is_register
  clear-keeps q =
      choice (Kept x y s) (none d) (λ e. sets (λ n. refl) (rw q) (λ g. errors-ranged s g CLEARED refl)) (λ e. malformed-keeps)

  -- any other leaves it
  module _ (q : y ≡ false) where
    as-was : s.errors ≡ (if y then CLEARED else s.errors)
    as-was = rw q

    -- setting the time
    pub time-keeps : Kept x y s (set_time s d)
    unfolding set_time
    time-keeps =
        choice (Kept x y s) (length d is 4 && (all is_decimal d && (decimal2 d ≤? 23 && decimal2 (drop 2 d) ≤? 59)))
        (λ e.
        let a = split (all is_decimal d) (split (length d is 4) e).1 in
        let b = split (decimal2 d ≤? 23) a.1 in
        sets (λ n. refl) as-was (λ g. time-ranged s g _ _ b.0 b.1))
        (λ e. malformed-keeps)

    -- setting the date
    pub date-keeps : Kept x y s (set_date s d)
    unfolding set_date
    date-keeps =
        choice (Kept x y s) (length d is 6 && (all is_decimal d && in_date (decimal2 d) (decimal2 (drop 2 d)) (decimal2 (drop 4 d))))
        (λ e.
        let a = (split (all is_decimal d) (split (length d is 6) e).1).1 in
        sets (λ n. refl) as-was (λ g. date-ranged s g _ _ _ a))
        (λ e. malformed-keeps)

    -- setting the time format
    pub format-keeps : Kept x y s (set_format s d)
    unfolding set_format
    format-keeps =
        choice (Kept x y s) (length d is 1 && (d ! 0 is FORMAT-S || d ! 0 is FORMAT-M))
        (λ e.
        let a = (split (length d is 1) e).1 in
        sets (λ n. refl) as-was (λ g. format-ranged s g _ a))
        (λ e. malformed-keeps)

    -- setting the speaker
    pub speaker-keeps : Kept x y s (set_speaker s d)
    unfolding set_speaker
    speaker-keeps =
        choice (Kept x y s) (length d is 2 && (d ! 0 is ZERO && d ! 1 is ZERO))
        (λ e. sets (λ n. refl) as-was (λ g. speaker-ranged s g ON refl))
        (λ e. choice (Kept x y s) (length d is 2 && (d ! 0 is F && d ! 1 is F))
        (λ f. sets (λ n. refl) as-was (λ g. speaker-ranged s g OFF refl))
        (λ f. malformed-keeps))

    -- setting the address
    pub address-keeps : x ≡ true → Kept x y s (set_address s d)
    unfolding set_address
    address-keeps t =
        choice (Kept x y s) (length d is 2 && is_carried2 d)
        (λ e. sets (λ n. never (sym t ∙ n)) as-was (λ g. address-ranged s g (carried2 d)))
        (λ e. malformed-keeps)

    -- setting the temperature offset
    pub offset-keeps : Kept x y s (set_offset s d)
    unfolding set_offset
    offset-keeps =
        choice (Kept x y s) (is_signed_digit d)
        (λ e. sets (λ n. refl) as-was (λ g. offset-ranged s g _ (set-offset d e)))
        (λ e. malformed-keeps)

-- whichever it is, by its label
pub set_keeps : (x : Bool) (s : Settings) (d : List ℕ) (label : ℕ) → ((label is ADDRESS) ≡ true → x ≡ true) → Kept x (label is CLEAR) s (set_by s label d)
unfolding set_by
set_keeps x s d label t =
    choice K (label is TIME) (λ e. time-keeps x y s d (other TIME e)) (λ e.
    choice K (label is SPEAKER) (λ e. speaker-keeps x y s d (other SPEAKER e)) (λ e.
    choice K (label is FORMAT) (λ e. format-keeps x y s d (other FORMAT e)) (λ e.
    choice K (label is DATE) (λ e. date-keeps x y s d (other DATE e)) (λ e.
    choice K (label is ADDRESS) (λ e. address-keeps x y s d (other ADDRESS e) (t e)) (λ e.
    choice K (label is OFFSET) (λ e. offset-keeps x y s d (other OFFSET e)) (λ e.
    choice K (label is CLEAR) (λ e. clear-keeps x y s d e) (λ e. stays x y s d (λ n. omega arith))))))))
  where
    y : Bool
    y = label is CLEAR

    K : Changed → Type 0
    K = Kept x y s

    -- the label is k
    other : (k : ℕ) → (label is k) ≡ true → y ≡ (k is CLEAR)
    other k e = ap (λ (l : ℕ). l is CLEAR) (eqb-true label k e)
