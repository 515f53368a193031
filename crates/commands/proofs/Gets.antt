-- A content told, case by case.
use Prim.Native.Nat.{ℕ, ◌+◌, ◌-◌, ◌^◌, ◌<◌, ◌≤◌}
use mathlib.Core.Path.{◌≡◌, sym, ap, ◌∙◌}
use mathlib.Core.List.{List}
use native.Mathlib.Omega.{arith}
use borrow.Author.Rules.{rules}
use borrow.Author.Tests.{eq-eqb, ne_eqb}
use mir.Val.{Fits}
use mir.Syntax.{w64}
use lib.ListN.{length, take, drop, length-take, length-drop}
use Rattle.std.specs.Prelude.{Option, Some, None, Result, Ok, Err}
use Rattle.octets.specs.Choice.{◌!◌, front}
use Rattle.octets.specs.Bytes.{is_plain}
use Rattle.octets.specs.Buffer.{splice, overlay}
use Rattle.octets.proofs.Places.{take-front, front_length}
use Rattle.octets.proofs.Buffers.{length-splice}
use Rattle.buffers.proofs.Splices.{splice-in, overlay-covers}
use Rattle.board.specs.Index.{look_up}
use Rattle.board.specs.declared.Content.{Content}
use Rattle.effects.specs.Reply.{reply_of, reply_room}
use Rattle.commands.specs.Commands.{get_content, read_file}
use Rattle.effects.specs.InnerLeaving.{Told, Replied}
use Rattle.effects.proofs.ReplyLengths.{reply-length, room-least}
use Rattle.effects.proofs.Outcomes.{left-quiet, left-replied}
use Rattle.effects.specs.declared.Refusal.{Refusal}
use Rattle.effects.specs.declared.Refusal.TheVariants.{Malformed, NoFile}
use Rattle.commands.specs.InnerDoing.{OfBoard, getting, reading, Files}
use Rattle.commands.proofs.Boards.{found-on, of-within, of-inside}

-- ---- a content without its zeros; n is where its bytes 05H to FFH end

module _ (content : List ℕ) (n : ℕ) (e : n ≡ 0 + length (front is_plain content)) where
  told-end : n ≡ length (front is_plain content)
  told-end = omega arith

  told_part : take n content ≡ front is_plain content
  told_part = rw told-end (take-front is_plain content)

  pub told-inside : n ≡ length (take n content)
  told-inside = told-end ∙ sym (ap length told_part)

  pub told-room : (out : List ℕ) → length content + 33 ≤ length out → 27 + length (take n content) ≤ length out
  told-room out h = omega (arith, told-inside, told-end, front_length is_plain content)

  pub told-put : (out after : List ℕ) → after ≡ splice out 27 (take n content) → Told out (front is_plain content) after n
  told-put out after p = record { stored = p ∙ ap (splice out 27) told_part; long = told-end }

-- ---- the reply around a content; f is what the index answers, and so what is found

-- a content of memory
module _ (m : List ℕ) (start size : ℕ) where
  abbrev part_of : List ℕ
  part_of = take (start + size - start) (drop start m)

  content-short : length part_of ≤ length m
  content-short = simp (length-take, length-drop) (omega arith)

  module _ (out : List ℕ) (h : reply_room m ≤ length out) where
    pub content-room : length (take (start + size - start) (drop start m)) + 33 ≤ length out
    content-room = omega (arith, content-short, room-least m)

    module _ (after : List ℕ) (n : ℕ) (t : Told out (front is_plain (take (start + size - start) (drop start m))) after n) where
      told-fits : 27 + length (front is_plain part_of) ≤ length out
      told-fits = omega (arith, content-short, front_length is_plain part_of, room-least m)

      pub reply-room : n + 33 ≤ length after
      reply-room = rw (t.stored, length-splice out 27 (front is_plain part_of) told-fits) (omega (arith, t.long, content-short, front_length is_plain part_of, room-least m))

      -- what the reply is put around
      told-there : take n (drop 27 after) ≡ front is_plain part_of
      told-there = rw (t.long, t.stored) (splice-in out 27 (front is_plain part_of) told-fits)

      replied-over : (code label : ℕ) (last : List ℕ) (k : ℕ) → Replied after code label (take n (drop 27 after)) last k →
          (last ≡ overlay out (reply_of code label (front is_plain part_of))) × (k ≡ length (reply_of code label (front is_plain part_of)))
      replied-over code label last k r =
          let d = front is_plain part_of in (
            r.stored ∙ rw (told-there, t.stored) (overlay-covers out 27 d (reply_of code label d) told-fits (rw reply-length (omega arith))),
            rw told-there at r.long,
          )

module _ {p m : List ℕ} (h : OfBoard p m) (label kind : ℕ) (f : Option Content) (a : f ≡ look_up p m label kind) where
  module _ (code : ℕ) (out : List ℕ) where
    pub get_none : f ≡ None → Files p m out (getting code label kind) (Err NoFile) m out
    unfolding getting get_content
    get_none e = record { on = λ b i. rw (← i.memory) (left-quiet out _ 23 b (rw (← found-on label kind f a b i, e))) }

  module _ (x : Content) (e : f ≡ Some x) where
    pub get-inside : x.start + x.size ≤ length m
    get-inside = of-inside h label kind f a x e

    pub get-fits : length m < 2 ^ 64 → Fits w64 (x.start + x.size)
    get-fits l = omega (arith, get-inside)

    pub get-done : (code : ℕ) (out after last : List ℕ) (n k : ℕ) → reply_room m ≤ length out → Told out (front is_plain (take (x.start + x.size - x.start) (drop x.start m))) after n →
        Replied after code label (take n (drop 27 after)) last k → Files p m out (getting code label kind) (Ok k) m last
    unfolding getting get_content
    get-done code out after last n k l t r =
        let d : x.start + x.size - x.start ≡ x.size = omega arith in
        let w = rw d at (replied-over m x.start x.size out l after n t code label last k r) in
        record {
          on = λ b i. rw (← found-on label kind f a b i, e, ← i.memory) (left-replied out b _ last k (rw (← i.memory) at w.0) (rw (← i.memory) at w.1));
        }

-- ---- the label alone

module _ (p m : List ℕ) (kind code : ℕ) (text out : List ℕ) where
  read-not : (length text ≡ 1 → ⊥) → Files p m out (reading kind code text) (Err Malformed) m out
  unfolding reading read_file
  read-not l = record { on = λ b i. rw (← i.memory) (left-quiet out _ 22 b (rw (ne_eqb (length text) 1 l))) }

  pub read-none : length text < 1 → Files p m out (reading kind code text) (Err Malformed) m out
  read-none l = read-not (λ e. omega arith)

  pub read-excess : 2 ≤ length text → Files p m out (reading kind code text) (Err Malformed) m out
  read-excess l = read-not (λ e. omega arith)

  pub read_one : (r : Result ℕ Refusal) (after : List ℕ) → 1 ≤ length text → length text < 2 →
      Files p m out (getting code (text ! 0) kind) r m after →
      Files p m out (reading kind code text) r m after
  unfolding reading read_file getting
  read_one r after k l t =
      let one : length text ≡ 1 = omega arith in
      record { on = λ b i. t.on b i ∙ rw (eq-eqb (length text) 1 one) }

pub ruleset gets = (told-inside, told-room, told-put, content-room, reply-room, of-within, get_none, get-inside, get-fits, get-done, read-none, read-excess, read_one, rules)
