-- What every command keeps: own type and memory's length; a sound board sound; the address and memory where they are not set;
-- files that it does not name; the reply buffer where it is no read. One walk over the commands gives all of it.
use Prim.Native.Nat.{ℕ, ◌≤◌}
use mathlib.Core.Path.{◌≡◌, refl, sym, ap, ◌∙◌}
use mathlib.Core.List.{List, [], ◌∷◌}
use mathlib.Core.Bool.{Bool, true, false, not}
use native.Mathlib.Omega.{arith}
use lib.ListN.{length, take, drop}
use borrow.Author.Tests.{ltb-false, eqb-true, eqb-false}
use Rattle.std.specs.Prelude.{Option, Some, None, if◌then◌else◌}
use Rattle.octets.specs.Choice.{◌is◌, ◌isn't◌, ◌<?◌, ◌!◌, none, front}
use Rattle.octets.specs.Bytes.{A, B, E, F, G, H, is_plain}
use Rattle.octets.proofs.Tests.{choice, by-test, never}
use Rattle.octets.proofs.Lists.{all_tail}
use Rattle.body.specs.Body.{Block, is_read}
use Rattle.board.specs.declared.Content.{Content}
use Rattle.board.specs.declared.Settings.{Settings}
use Rattle.register.specs.Register.{CLEARED, is_register}
use Rattle.board.specs.Settings.{in_range, with_errors, cleared}
use Rattle.board.specs.Files.{content, TEXT, STRING, File, files_of, heads}
use Rattle.board.specs.Board.{Board, with_settings, with_memory, files_on}
use Rattle.board.specs.Soundness.{sound_memory, keeps_true, sound}
use Rattle.board.proofs.Ranges.{range, errors-ranged}
use Rattle.board.proofs.SoundParts.{sound-parts, kept-true, sound-whole}
use Rattle.board.proofs.Inside.{sound-held, sound-unused, sound-index}
use Rattle.effects.specs.Reply.{reply_of, reply_room}
use Rattle.effects.specs.Effects.{Effect, done, replied, refuse, change}
use Rattle.effects.specs.declared.Changed.{Changed}
use Rattle.effects.specs.Recording.{fault_noted, with_fault, recorded}
use Rattle.commands.specs.Commands.{find_on, holding}
use Rattle.commands.specs.Commands.{put_message, write_file, get_content, read_file}
use Rattle.configuration.specs.Capitals.{list_capitals}
use Rattle.configuration.specs.Records.{refusal}
use Rattle.configuration.specs.Configuration.{replaced, replace, configure}
use Rattle.special.specs.Special.{CONFIGURATION, CLEAR, ERRORS, sets_address, set_by, write_special, is_told, tell, after_told, read_special}
use Rattle.commands.specs.Blocks.{command, do_block, run_block}
use Rattle.keeping.specs.Keeping.{file_in, configures, writes, clears, Keeps}
use Rattle.keeping.proofs.Messages.{padded, put-others, put-heads, holding-files, holding-length, holding-unused, holding-index, holding-sound}
use Rattle.configuration.proofs.ConfigurationLaws.{replaced-length, replaced-sound}
use Rattle.keeping.proofs.Changes.{Kept, set_keeps}
use Rattle.special.proofs.TellLengths.{told-fits}
use Rattle.effects.proofs.ReplyLengths.{content-fits}
use Rattle.effects.proofs.RecordingLaws.{fault-fixed}

-- other settings that are in range and keep the same of memory
other-settings : (b : Board) (t : Settings) → (in_range b.settings ≡ true → in_range t ≡ true) → t.files ≡ b.settings.files →
    keeps_true (with_settings b t) ≡ keeps_true b → sound b ≡ true → sound (with_settings b t) ≡ true
other-settings b t r f k e =
    let q = sound-parts b e in
    sound-whole (with_settings b t)
    (record { ranged = r q.ranged; filed = ap (λ (n : ℕ). sound_memory n b.memory) f ∙ q.filed; kept = k ∙ q.kept })

-- another register with its fixed bits
pub errors-sound : (b : Board) (x : ℕ) → (is_register b.settings.errors ≡ true → is_register x ≡ true) → sound b ≡ true →
    sound (with_settings b (with_errors b.settings x)) ≡ true
unfolding keeps_true
errors-sound b x h =
    let s = b.settings in
    other-settings b (with_errors s x) (λ r. errors-ranged s r x (h (range s r).errors)) refl refl

-- a number that is noted
fault-sound : (b : Board) (n : ℕ) → sound b ≡ true → sound (with_settings b (with_fault b.settings n)) ≡ true
fault-sound b n = errors-sound b (fault_noted b.settings.errors n) (fault-fixed b.settings.errors n)

-- what a command keeps once its number is noted
unfoldable Noted : Board → ℕ → List ℕ → Effect → Type 0
Noted b c d e = Keeps b c d (recorded e)

module _ (b : Board) (c : ℕ) where
  -- a command that is done leaves nothing to note
  as-done : (d : List ℕ) (after : Board) (r : List ℕ) → Keeps b c d (replied after r) → Noted b c d (replied after r)
  unfolding Noted fault_noted
  as-done d after r x = x

  -- a command that is refused
  refuses : (d : List ℕ) (n : ℕ) → (n ≡ 0 → ⊥) → Noted b c d (refuse n b)
  unfolding Noted
  refuses d n z =
      record {
        own = refl;
        long = refl;
        sound = λ p s. fault-sound b n s;
        address = λ n. refl;
        files = λ n. refl;
        memory = λ n. refl;
        others = λ n p s k o. refl;
        records = λ n p s. refl;
        refused = λ n. (refl, refl);
        errors = λ e. absurd (z e);
        read = λ t e. absurd (z e);
        quiet = λ n. refl;
        fits = omega arith;
      }

  malformed : (d : List ℕ) → Noted b c d (refuse 22 b)
  malformed d = refuses d 22 (λ e. omega arith)

  -- a read that is answered
  replies : (d r : List ℕ) → is_read c ≡ true → length r ≤ reply_room b.memory →
      Noted b c d (replied (with_settings b (if clears c d then cleared b.settings else b.settings)) r)
  unfolding is_register
  replies d r t f =
      as-done d (with_settings b (if clears c d then cleared b.settings else b.settings)) r
      (by-test (clears c d) (λ e. rw e (whole CLEARED (rw e) (rw e) (errors-sound b CLEARED (λ g. refl))))
      (λ e. rw e (whole b.settings.errors (rw e) (rw e) (λ g. g))))
    where
      whole : (x : ℕ) → x ≡ (if clears c d then CLEARED else b.settings.errors) →
          with_errors b.settings x ≡ (if clears c d then cleared b.settings else b.settings) →
          (sound b ≡ true → sound (with_settings b (with_errors b.settings x)) ≡ true) →
          Keeps b c d (replied (with_settings b (with_errors b.settings x)) r)
      whole x e g h =
          record {
            own = refl;
            long = refl;
            sound = λ p s. h s;
            address = λ n. refl;
            files = λ n. refl;
            memory = λ n. refl;
            others = λ n p s k o. refl;
            records = λ n p s. refl;
            refused = λ n. absurd (n refl);
            errors = λ n. e;
            read = λ t n. ap (with_settings b) g;
            quiet = λ n. never (sym t ∙ n);
            fits = f;
          }

  -- ---- A and G
  puts : (label kind : ℕ) (msg : List ℕ) → writes c (label ∷ msg) ≡ true → is_read c ≡ false → clears c (label ∷ msg) ≡ false →
      Noted b c (label ∷ msg) (put_message b (find_on b label kind) msg)
  unfolding put_message
  puts label kind msg w t z = go (find_on b label kind) refl
    where
      n : ℕ
      n = b.settings.files

      m : List ℕ
      m = b.memory

      fit : (start size : ℕ) → find_on b label kind ≡ Some (content start size) → (size <? length msg) ≡ false →
          Keeps b c (label ∷ msg) (done (with_memory b (holding m start size msg)))
      fit start size e q =
          let small : length msg ≤ size = ltb-false size (length msg) q in
          record {
            own = refl;
            long = holding-length label kind n m start size msg e small;
            sound = λ p s.
                let t = sound-parts b s in
                let q = all_tail is_plain label msg p in
                let h = sound-held b s in
                let u = holding-unused n m h label kind start size e msg small q in
                let i = holding-index n m h label kind start size e msg small q b.settings.places in
                sound-whole (with_memory b (holding m start size msg))
                (record {
                  ranged = t.ranged;
                  filed = holding-sound n m t.filed label kind start size e msg small q;
                  kept =
                      kept-true (with_memory b (holding m start size msg))
                      (record { unused = sound-unused b s ∙ sym u; index = i ∙ sound-index b s });
                });
            address = λ n. refl;
            files = λ n. refl;
            memory = λ n. never (sym w ∙ n);
            others = λ x p s k o.
                ap (λ (fs : List File). file_in fs k)
                (holding-files n m s label kind start size e msg small (all_tail is_plain label msg p))
                ∙ put-others (files_on b) label kind (padded size msg) k o;
            records = λ x p s.
                ap heads (holding-files n m s label kind start size e msg small (all_tail is_plain label msg p))
                ∙ put-heads (files_on b) label kind (padded size msg);
            refused = λ n. absurd (n refl);
            errors = λ n. rw z;
            read = λ r. never (sym r ∙ t);
            quiet = λ n. refl;
            fits = omega arith;
          }

      go : (f : Option Content) → find_on b label kind ≡ f → Noted b c (label ∷ msg) (put_message b f msg)
      go None e = refuses (label ∷ msg) 23 (λ e. omega arith)
      go (Some x) e =
          choice (Noted b c (label ∷ msg)) (x.size <? length msg) (λ q. refuses (label ∷ msg) 24 (λ e. omega arith))
          (λ q. as-done (label ∷ msg) (with_memory b (holding m x.start x.size msg)) [] (fit x.start x.size e q))

  write-effects : (kind : ℕ) (d : List ℕ) → writes c d ≡ true → is_read c ≡ false → clears c d ≡ false → Noted b c d (write_file kind b d)
  unfolding write_file
  write-effects kind [] w t z = malformed []
  write-effects kind (label ∷ msg) w t z = puts label kind msg w t z

  -- ---- B and H
  gets : (code : ℕ) (d : List ℕ) (label : ℕ) (f : Option Content) → is_read c ≡ true → clears c d ≡ false → Noted b c d (get_content code b label f)
  unfolding get_content
  gets code d label None t z = refuses d 23 (λ e. omega arith)
  gets code d label (Some x) t z =
      let r = reply_of code label (front is_plain (take x.size (drop x.start b.memory))) in
      rw z at (replies d r t (content-fits code label b.memory x.start x.size))

  read-effects : (kind code : ℕ) (d : List ℕ) → is_read c ≡ true → clears c d ≡ false → Noted b c d (read_file kind code b d)
  unfolding read_file
  read-effects kind code d t z =
      choice (Noted b c d) (length d isn't 1) (λ e. malformed d) (λ e. gets code d (d ! 0) (find_on b (d ! 0) kind) t z)

  -- ---- E
  changes : (d : List ℕ) (x : Changed) → is_read c ≡ false → Kept (sets_address c d) (clears c d) b.settings x → Noted b c d (change b x)
  unfolding Noted fault_noted
  changes d x t k =
      record {
        own = k.own;
        long = refl;
        sound = λ p s.
            fault-sound (with_settings b x.settings) x.number
            (other-settings b x.settings k.ranged k.files (k.kept b.memory) s);
        address = k.address;
        files = λ n. k.files;
        memory = λ n. refl;
        others = λ x p s i o. ap (λ (n : ℕ). file_in (files_of n b.memory) i) k.files;
        records = λ x p s. ap (λ (n : ℕ). heads (files_of n b.memory)) k.files;
        refused = λ n. (ap (λ (t : Settings). with_settings b (with_fault t x.number)) (k.refused n), refl);
        errors = λ n. rw n (k.errors n);
        read = λ r. never (sym r ∙ t);
        quiet = λ n. refl;
        fits = omega arith;
      }

  configure-effects : (label : ℕ) (d : List ℕ) → configures c (label ∷ d) ≡ true → is_read c ≡ false → clears c (label ∷ d) ≡ false →
      Noted b c (label ∷ d) (configure b d)
  unfolding configure replace replaced
  configure-effects label d w r z =
      choice (Noted b c (label ∷ d)) (refusal l (length b.memory) is 0) (λ e. fit (eqb-true (refusal l (length b.memory)) 0 e))
      (λ e. refuses (label ∷ d) (refusal l (length b.memory)) (eqb-false _ 0 e))
    where
      l : List ℕ
      l = list_capitals d

      fit : refusal l (length b.memory) ≡ 0 → Noted b c (label ∷ d) (done (replaced b l))
      fit e =
          as-done (label ∷ d) (replaced b l) []
          (record {
            own = refl;
            long = replaced-length b l e;
            sound = λ p. replaced-sound b l e;
            address = λ n. refl;
            files = λ n. never (sym w ∙ n);
            memory = λ n. never (sym (rw w) ∙ n);
            others = λ n. never (sym w ∙ n);
            records = λ n. never (sym w ∙ n);
            refused = λ n. absurd (n refl);
            errors = λ n. rw z;
            read = λ q. never (sym q ∙ r);
            quiet = λ n. refl;
            fits = omega arith;
          })

  special-effects : (d : List ℕ) → (c is E) ≡ true → is_read c ≡ false → Noted b c d (write_special b d)
  unfolding write_special
  special-effects [] t r = malformed []
  special-effects (label ∷ d) t r =
      choice (Noted b c l) (label is CONFIGURATION) (λ e. configure-effects label d (rw (t, e)) r (clear ∙ ap (λ (k : ℕ). k is CLEAR) (eqb-true label CONFIGURATION e)))
      (λ e. changes l (set_by s label d) r (rw (← clear) at (set_keeps (sets_address c l) s d label (λ a. rw (t, a)))))
    where
      l : List ℕ
      l = label ∷ d

      s : Settings
      s = b.settings

      clear : clears c l ≡ (label is CLEAR)
      clear = rw t

  -- ---- F
  tell-effects : (d : List ℕ) → (c is F) ≡ true → is_read c ≡ true → Noted b c d (read_special b d)
  unfolding read_special after_told
  tell-effects [] t r = malformed []
  tell-effects (label ∷ d) t r =
      choice (Noted b c l) (not (is_told label)) (λ e. refuses l 21 (λ e. omega arith)) (λ e.
      choice (Noted b c l) (not (none d)) (λ f. malformed l) (λ f.
      rw clear at (replies l (reply_of E label (tell b label)) r (told-fits b label))))
    where
      l : List ℕ
      l = label ∷ d

      clear : clears c l ≡ (label is ERRORS)
      clear = ap (λ (k : ℕ). clears k l) (eqb-true c F t)

-- ---- the theorems

-- every command, with any data, on any board
command-effects : (b : Board) (c : ℕ) (d : List ℕ) → Noted b c d (command b c d)
unfolding command is_read
command-effects b c d =
    choice P (c is A) (λ e. write-effects b c TEXT d (on w A true refl e) (on is_read A false refl e) (on z A false refl e)) (λ e.
    choice P (c is G) (λ e. write-effects b c STRING d (on w G true refl e) (on is_read G false refl e) (on z G false refl e)) (λ e.
    choice P (c is B) (λ e. read-effects b c TEXT A d (on is_read B true refl e) (on z B false refl e)) (λ e.
    choice P (c is H) (λ e. read-effects b c STRING G d (on is_read H true refl e) (on z H false refl e)) (λ e.
    choice P (c is E) (λ e. special-effects b c d e (on is_read E false refl e)) (λ e.
    choice P (c is F) (λ e. tell-effects b c d e (on is_read F true refl e)) (λ e. refuses b c d 21 (λ e. omega arith)))))))
  where
    P : Effect → Type 0
    P = Noted b c d

    w : ℕ → Bool
    w x = writes x d

    z : ℕ → Bool
    z x = clears x d

    -- a fact of one command byte holds of a byte that is it
    on : (Q : ℕ → Bool) (k : ℕ) (x : Bool) → Q k ≡ x → (c is k) ≡ true → Q c ≡ x
    on Q k x t e = ap Q (eqb-true c k e) ∙ t

-- every block
pub block-keeps : (b : Board) (k : Block) → Keeps b k.command k.text (run_block b k)
unfolding run_block do_block Noted
block-keeps b k =
    choice (Noted b k.command k.text) (not k.right) (λ e. refuses b k.command k.text 20 (λ e. omega arith))
    (λ e. command-effects b k.command k.text)
