-- What the special functions that tell put into the reply buffer.
use Prim.Native.Nat.{ℕ, ◌+◌, ◌-◌, ◌<◌, ◌≤◌, ◌^◌}
use mir.Syntax.{w16, w64}
use mir.Val.{Fits}
use mathlib.Core.Path.{◌≡◌, refl, sym, ap, ◌∙◌}
use mathlib.Core.List.{List, [], ◌∷◌, ◌++◌, append_assoc, append-nil}
use mathlib.Core.Bool.{Bool, true, false, not}
use mathlib.Core.Logic.{◌⊎◌, ⊎_elim, inl, inr}
use native.Mathlib.Omega.{arith}
use lib.ListN.{length, take, drop, set, length-append, length-drop}
use lib.Seq.{length-take-le}
use borrow.Author.Rules.{rules}
use borrow.Author.Tests.{eq-eqb, ne_eqb, leb-true, not-true, not-false}
use Rattle.std.specs.Prelude.{Ok, Err, if◌then◌else◌}
use Rattle.octets.specs.Choice.{◌is◌, ◌isn't◌, ◌!◌}
use Rattle.octets.specs.Bytes.{COMMA, ZERO, E, F}
use Rattle.octets.specs.Hex.{in_hex4}
use Rattle.octets.specs.Decimal.{in_decimal2}
use Rattle.octets.specs.Buffer.{splice}
use Rattle.octets.proofs.Tests.{by-test}
use Rattle.octets.proofs.Buffers.{length-splice}
use Rattle.octets.proofs.Ranges.{on}
use Rattle.buffers.proofs.Stores.{store-one}
use Rattle.buffers.proofs.Splices.{splice-none, splice-next, splice-in, overlay-covers}
use Rattle.board.specs.Settings.{ON, in_range, cleared}
use Rattle.board.specs.Files.{taken, files_of, heads, unused}
use Rattle.board.specs.Soundness.{holds_files, sound}
use Rattle.board.specs.declared.Settings.{Settings}
use Rattle.board.proofs.Ranges.{range, month-most, day-most, year-most}
use Rattle.board.proofs.Walking.{Standing, room, stand-start, stand-next, standing}
use Rattle.board.proofs.Inside.{sound-ranged, sound-held, sound-least, sound-most, sound-unused, heads-step, heads-none}
use Rattle.board.specs.Board.{Board, board, with_settings, files_on}
use Rattle.effects.specs.Reply.{reply_of, reply_room}
use Rattle.effects.specs.Effects.{replied, refuse}
use Rattle.special.specs.Special.{TIME, SPEAKER, POOL, CONFIGURATION, FORMAT, DATE, ERRORS}
use Rattle.special.specs.Special.{tell_time, tell_date, tell_speaker, tell_pool, is_told, tell, after_told, read_special}
use Rattle.effects.specs.InnerLeaving.{number, done_by, Replied, Told, left_as, leaving, Ready}
use Rattle.effects.specs.declared.Refusal.{Refusal}
use Rattle.effects.specs.declared.Refusal.TheVariants.{Malformed, Unknown}
use Rattle.effects.proofs.ReplyLengths.{reply-length, room-least}
use Rattle.special.proofs.TellLengths.{told-fits}
use Rattle.effects.proofs.Outcomes.{left-quiet, left-replied}

-- ---- labels that are told

-- a label, by where it stands among the bytes
module _ (l : ℕ) where
  pub told-key : (l ≡ FORMAT) ⊎ ((l ≡ ERRORS) ⊎ (l ≡ DATE)) → true ≡ is_told l
  unfolding is_told
  told-key h = ⊎_elim (λ e. rw e) (⊎_elim (λ e. rw e) (λ e. rw e)) h

  pub told-first : 0x20 ≤ l → l < 0x22 → true ≡ is_told l
  unfolding is_told
  told-first a b = sym (on is_told true 0x20 2 refl l a b)

  pub told-second : 0x23 ≤ l → l < 0x25 → true ≡ is_told l
  unfolding is_told
  told-second a b = sym (on is_told true 0x23 2 refl l a b)

  told_none : (l ≡ TIME → ⊥) → (l ≡ SPEAKER → ⊥) → (l ≡ FORMAT → ⊥) → (l ≡ DATE → ⊥) → (l ≡ CONFIGURATION → ⊥) → (l ≡ POOL → ⊥) →
      (l ≡ ERRORS → ⊥) → false ≡ is_told l
  unfolding is_told
  told_none a b c d e f g =
      rw (
        ne_eqb l TIME a,
        ne_eqb l SPEAKER b,
        ne_eqb l FORMAT c,
        ne_eqb l DATE d,
        ne_eqb l CONFIGURATION e,
        ne_eqb l POOL f,
        ne_eqb l ERRORS g,
      )

  pub told_below : l < 0x20 → false ≡ is_told l
  told_below h = told_none (λ e. omega arith) (λ e. omega arith) (λ e. omega arith) (λ e. omega arith) (λ e. omega arith) (λ e. omega arith) (λ e. omega arith)

  pub told-between : 0x22 ≤ l → l < 0x23 → false ≡ is_told l
  told-between a b = told_none (λ e. omega arith) (λ e. omega arith) (λ e. omega arith) (λ e. omega arith) (λ e. omega arith) (λ e. omega arith) (λ e. omega arith)

  pub told-above : ((l ≡ FORMAT) ⊎ ((l ≡ ERRORS) ⊎ (l ≡ DATE)) → ⊥) → 0x25 ≤ l → false ≡ is_told l
  told-above n a =
      told_none (λ e. omega arith) (λ e. omega arith) (λ e. n (inl e)) (λ e. n (inr (inr e))) (λ e. omega arith) (λ e. omega arith) (λ e. n (inr (inl e)))

pub ruleset listed = (told-key, told-first, told-second, told_below, told-between, told-above, rules)

-- ---- a board that is ready

module _ {b : Board} {out : List ℕ} (g : Ready b out) where
  pub ready-ranged : in_range b.settings ≡ true
  ready-ranged = sound-ranged b g.sound

  pub ready_held : holds_files b.settings.files b.memory ≡ true
  ready_held = sound-held b g.sound

  pub ready-room : 128 ≤ length out
  ready-room = omega (arith, sound-least b g.sound, g.room, room-least b.memory)

  -- what memory holds is told in four digits
  pub total-fits : Fits w16 (length b.memory)
  total-fits = record { fits = omega (arith, sound-most b g.sound) }

-- ---- the time and the date

-- each number has two digits
module _ (s : Settings) (e : in_range s ≡ true) where
  pub hour-small : s.hour < 100
  hour-small = omega (arith, leb-true s.hour 23 (range s e).hour)

  pub minute-small : s.minute < 100
  minute-small = omega (arith, leb-true s.minute 59 (range s e).minute)

  pub month-small : s.month < 100
  month-small = omega (arith, month-most s e)

  pub day-small : s.day < 100
  day-small = omega (arith, day-most s e)

  pub year-small : s.year < 100
  year-small = omega (arith, year-most s e)

-- data that are put part by part are there
module _ (out : List ℕ) (h : 128 ≤ length out) where
  pub time-put : (s : Settings) (a b : List ℕ) → a ≡ splice out 27 (in_decimal2 s.hour) → b ≡ splice a 29 (in_decimal2 s.minute) →
      Told out (tell_time s) b 4
  unfolding tell_time in_decimal2
  time-put s a b p q =
      record { stored = q ∙ rw p (splice-next out 27 (in_decimal2 s.hour) (in_decimal2 s.minute) 29 (omega arith) refl); long = refl }

  pub date-put : (s : Settings) (a b c : List ℕ) → a ≡ splice out 27 (in_decimal2 s.month) → b ≡ splice a 29 (in_decimal2 s.day) →
      c ≡ splice b 31 (in_decimal2 s.year) → Told out (tell_date s) c 6
  unfolding tell_date in_decimal2
  date-put s a b c p q r =
      let x = in_decimal2 s.month in
      let y = in_decimal2 s.day in
      let z = in_decimal2 s.year in
      record {
        stored = r ∙ rw (q, p, splice-next out 27 x y 29 (omega arith) refl) (splice-next out 27 (x ++ y) z 31 (omega arith) refl);
        long = refl;
      }

pub ruleset clock = (hour-small, minute-small, month-small, day-small, year-small, time-put, date-put, rules)

-- ---- the speaker

-- its text is two bytes, which leaves room
pub text-room : {k : ℕ} (v : ℕ) (x : List ℕ) → x ≡ (if v is ON then ZERO ∷ ZERO ∷ [] else F ∷ F ∷ []) → 128 ≤ k → 27 + length x ≤ k
text-room v x e h =
    by-test (v is ON) (λ t. rw (rw t at e) (omega arith)) (λ t. rw (rw t at e) (omega arith))

-- ---- the pool

pub pool-put : (total unused : ℕ) (out a b c : List ℕ) → 128 ≤ length out →
    a ≡ splice out 27 (in_hex4 total) → b ≡ set a 31 COMMA → c ≡ splice b 32 (in_hex4 unused) →
    Told out (in_hex4 total ++ (COMMA ∷ in_hex4 unused)) c 9
unfolding in_hex4
pool-put total unused out a b c h p q r =
    let x = in_hex4 total in
    let y : List ℕ = COMMA ∷ [] in
    let z = in_hex4 unused in
    let n : 31 < length a = rw (p, length-splice out 27 x (omega arith)) (omega arith) in
    record {
      stored = r ∙ rw (q, store-one a 31 COMMA n, p, splice-next out 27 x y 31 (omega arith) refl) (splice-next out 27 (x ++ y) z 32 (omega arith) refl);
      long = refl;
    }

pub ruleset pool = (pool-put, rules)

-- request 3, "The reply must not change.": on a sound board it is told what the records add up to
pub pool-unchanged : (b : Board) → sound b ≡ true →
    tell_pool b ≡ in_hex4 (length b.memory) ++ (COMMA ∷ in_hex4 (unused b.settings.files b.memory))
unfolding tell_pool
pool-unchanged b e = rw (sound-unused b e)

-- ---- the records

-- so far told stands in the buffer, and what is left of memory makes up the rest
pub record Gathering (m : List ℕ) (n : ℕ) (out out' : List ℕ) (at place left : ℕ) : Type 0 where
  pub stands : Standing m at left
  pub room : reply_room m ≤ length out
  pub told : List ℕ
  pub stored : out' ≡ splice out 27 told
  pub ends : place ≡ 27 + length told
  pub few : length told ≤ at
  pub long : length out' ≡ length out
  pub rest : told ++ heads (files_of left (drop at m)) ≡ heads (files_of n m)

pub gather-start : (m : List ℕ) (n left : ℕ) (out : List ℕ) → left ≡ n → holds_files n m ≡ true → reply_room m ≤ length out → Gathering m n out out 0 27 left
gather-start m n left out k e h =
    record {
      stands = rw k (stand-start m n e);
      room = h;
      told = [];
      stored = sym (splice-none out 27);
      ends = refl;
      few = omega arith;
      long = refl;
      rest = rw k refl;
    }

module _ {m : List ℕ} {n : ℕ} {out out' : List ℕ} {at place left : ℕ} (g : Gathering m n out out' at place left) where
  module _ (p : 0 < left) where
    inside : at + 11 + taken (drop at m) ≤ length m
    inside = omega (arith, room m at left p g.stands)

    record-long : length (take 11 (drop at m)) ≡ 11
    record-long = length-take-le 11 (drop at m) (rw (length-drop at m) (omega (arith, inside)))

    pub gather-end : length m < 2 ^ 64 → Fits w64 (at + 11)
    gather-end h = record { fits = omega (arith, inside) }

    pub gather-room : place + length (take (at + 11 - at) (drop at m)) ≤ length out'
    gather-room =
        let z : at + 11 - at ≡ 11 = omega arith in
        rw (z, record-long) (omega (arith, inside, g, room-least m))

    pub gather-next : (long less : ℕ) (a : List ℕ) → less ≡ left - 1 → long ≡ 11 + taken (drop at m) → a ≡ splice out' place (take (at + 11 - at) (drop at m)) →
        Gathering m n out a (at + long) (place + 11) less
    gather-next long less a k e q =
        let z : at + 11 - at ≡ 11 = omega arith in
        let r : List ℕ = take 11 (drop at m) in
        let t = g.told in
        let i : 27 + length t ≤ length out = omega (arith, inside, g, room-least m) in
        let s : a ≡ splice out 27 (t ++ r) = q ∙ rw (z, g.stored) (splice-next out 27 t r place i g.ends) in
        record {
          stands = rw k (stand-next g.stands p long e);
          room = g.room;
          told = t ++ r;
          stored = s;
          ends = rw (length-append, record-long) (omega (arith, g.ends));
          few = rw (length-append, record-long) (omega (arith, g.few));
          long = rw (s, length-splice out 27 (t ++ r) (rw (length-append, record-long) (omega (arith, inside, g, room-least m))));
          rest = rw (k, e, append_assoc t r _) (ap (λ l. t ++ l) (sym (heads-step m at left p)) ∙ g.rest);
        }

  pub gather-whole : left ≤ 0 → Told out (heads (files_of n m)) out' (place - 27)
  gather-whole p =
      let t : g.told ≡ heads (files_of n m) = sym (append-nil g.told) ∙ rw (heads-none m at left p) at g.rest in
      record { stored = rw (← t) g.stored; long = rw (← t) (omega (arith, g.ends)) }

pub ruleset gathering = (gather-start, gather-end, gather-room, gather-next, gather-whole, standing, rules)

-- ---- one of them, by its label

module _ (b : Board) (l : ℕ) (out a : List ℕ) (k : ℕ) where
  pub tell-time : l ≡ TIME → Told out (tell_time b.settings) a k → Told out (tell b l) a k
  unfolding tell
  tell-time e t = rw e t

  pub tell-speaker : (x : List ℕ) → l ≡ SPEAKER → x ≡ (if b.settings.speaker is ON then ZERO ∷ ZERO ∷ [] else F ∷ F ∷ []) → Told out x a k → Told out (tell b l) a k
  unfolding tell tell_speaker
  tell-speaker x e f t = rw e (rw f at t)

  pub tell-format : l ≡ FORMAT → Told out (b.settings.format ∷ []) a k → Told out (tell b l) a k
  unfolding tell
  tell-format e t = rw e t

  pub tell-date : l ≡ DATE → Told out (tell_date b.settings) a k → Told out (tell b l) a k
  unfolding tell
  tell-date e t = rw e t

  pub tell-records : l ≡ CONFIGURATION → Told out (heads (files_on b)) a k → Told out (tell b l) a k
  unfolding tell
  tell-records e t = rw e t

  pub tell-errors : l ≡ ERRORS → Told out (b.settings.errors ∷ []) a k → Told out (tell b l) a k
  unfolding tell
  tell-errors e t = rw e t

  pub tell-pool : (l ≡ TIME → ⊥) → (l ≡ SPEAKER → ⊥) → (l ≡ CONFIGURATION → ⊥) → (l ≡ FORMAT → ⊥) → (l ≡ ERRORS → ⊥) → (l ≡ DATE → ⊥) →
      Told out (in_hex4 (length b.memory) ++ (COMMA ∷ in_hex4 b.settings.unused)) a k → Told out (tell b l) a k
  unfolding tell tell_pool
  tell-pool f g h i n j t =
      rw (ne_eqb l TIME f, ne_eqb l SPEAKER g, ne_eqb l FORMAT i, ne_eqb l DATE j, ne_eqb l CONFIGURATION h, ne_eqb l ERRORS n) t

pub ruleset telling = (ready-ranged, ready_held, ready-room, total-fits, text-room, tell-time, tell-speaker, tell-format, tell-date, tell-records, tell-errors, tell-pool, rules)

-- ---- the settings once it is told

module _ (s : Settings) (l : ℕ) where
  pub told-cleared : l ≡ ERRORS → (r : Settings) → r ≡ cleared s → r ≡ after_told s l
  unfolding after_told
  told-cleared e r q = rw e q

  pub told-left : (l ≡ ERRORS → ⊥) → s ≡ after_told s l
  unfolding after_told
  told-left n = rw (ne_eqb l ERRORS n)

pub ruleset behind = (told-cleared, told-left, rules)

-- ---- F

-- by its label, if there is one
read_some : (b : Board) (text : List ℕ) → (length text ≡ 0 → ⊥) → read_special b text ≡
    (if not (is_told (text ! 0)) then refuse 21 b else if length text isn't 1 then refuse 22 b
    else replied (with_settings b (after_told b.settings (text ! 0))) (reply_of E (text ! 0) (tell b (text ! 0))))
unfolding read_special
read_some b [] h = absurd (h refl)
read_some b (l ∷ []) h = refl
read_some b (l ∷ x ∷ d) h = rw (ne_eqb (length (l ∷ x ∷ d)) 1 (λ e. omega arith))

module _ (s : Settings) (m out : List ℕ) where
  abbrev b : Board
  b = board s m

  -- refused, the buffer is as it was
  refused : (x : Refusal) (text : List ℕ) → read_special b text ≡ refuse (number x) b →
      left_as (done_by (Err x)) s m out ≡ leaving out (read_special b text)
  refused x text e = left-quiet out (read_special b text) (number x) b (sym e)

  pub read_none : (text : List ℕ) → length text ≡ 0 → left_as (done_by (Err Malformed)) s m out ≡ leaving out (read_special b text)
  unfolding read_special
  read_none [] h = refused Malformed [] refl
  read_none (l ∷ d) h = absurd (omega arith)

  module _ (l : ℕ) (g : Ready b out) where
    fits : 33 + length (tell b l) ≤ length out
    fits = omega (arith, told-fits b l, reply-length E l (tell b l), g.room)

    -- what is told leaves room for the reply around it
    pub read-room : (a : List ℕ) (n : ℕ) → Told out (tell b l) a n → n + 33 ≤ length a
    read-room a n t = rw (t.stored, length-splice out 27 (tell b l) (omega (arith, fits))) (omega (arith, fits, t.long))

    replied-told : (a c : List ℕ) (n k : ℕ) → Told out (tell b l) a n → Replied a E l (take n (drop 27 a)) c k →
        left_as (done_by (Ok k)) (after_told s l) m c ≡ leaving out (replied (with_settings b (after_told s l)) (reply_of E l (tell b l)))
    replied-told a c n k t y =
        let d = tell b l in
        let i : 27 + length d ≤ length out = omega (arith, fits) in
        let z : take n (drop 27 a) ≡ d = rw (t.long, t.stored) (splice-in out 27 d i) in
        left-replied out (with_settings b (after_told s l)) (reply_of E l d) c k
        (y.stored ∙ rw (z, t.stored) (overlay-covers out 27 d (reply_of E l d) i (rw reply-length (omega arith))))
        (y.long ∙ ap (λ x. length (reply_of E l x)) z)

  module _ (text : List ℕ) (h : length text ≡ 0 → ⊥) (t : Bool) (f : t ≡ is_told (text ! 0)) where
    pub read-unknown : not t ≡ true → left_as (done_by (Err Unknown)) s m out ≡ leaving out (read_special b text)
    read-unknown n = refused Unknown text (read_some b text h ∙ rw (← f, not-true t n))

    module _ (n : not t ≡ false) where
      pub read-long : (length text ≡ 1 → ⊥) → left_as (done_by (Err Malformed)) s m out ≡ leaving out (read_special b text)
      read-long k = refused Malformed text (read_some b text h ∙ rw (← f, not-false t n, ne_eqb (length text) 1 k))

      pub read_told : (a c : List ℕ) (i k : ℕ) (x : Settings) → x ≡ after_told s (text ! 0) → length text ≡ 1 → Ready b out →
          Told out (tell b (text ! 0)) a i → Replied a E (text ! 0) (take i (drop 27 a)) c k →
          left_as (done_by (Ok k)) x m c ≡ leaving out (read_special b text)
      read_told a c i k x q l g d y =
          rw (read_some b text h, ← f, not-false t n, eq-eqb (length text) 1 l, q) (replied-told (text ! 0) g a c i k d y)

pub ruleset reading = (read_none, read-room, read-unknown, read-long, read_told, rules)
