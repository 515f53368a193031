-- The second demand, over what the calls promise: whatever write, re-form and join answer and leave, a result reads back as it should.
-- A promise is an equation, x ≡ write k h c d o: x is the answer beside the output buffer as the call leaves it.
use mathlib.Core.Path.{◌≡◌, sym, ap, ◌∙◌, subst}
use mathlib.Core.Bool.{true, false}
use mathlib.Core.List.{List, [], ◌∷◌}
use mathlib.Core.Logic.{◌⊎◌, ⊎_elim}
use Prim.Native.Nat.{ℕ}
use Rattle.octets.specs.Choice.{is_byte, all}
use Rattle.octets.proofs.Lists.{same_self}
use Rattle.header.specs.Addressing.{starts}
use Rattle.header.specs.Capitals.{header_capitals, no_small}
use Rattle.header.proofs.CapitalsLaws.{header-own, starts-same}
use Rattle.body.specs.Body.{Block, block}
use Rattle.reading.specs.Reading.{frame, read}
use Rattle.reading.specs.Capitals.{in_capitals}
use Rattle.writing.specs.Output.{Output, is_form, unwritten}
use Rattle.writing.specs.Writing.{write}
use Rattle.writing.specs.Reforming.{reform}
use Rattle.writing.specs.Joining.{put_joined, join}
use Rattle.frame.specs.Results.{result_of, Carries, Sure, Joined}
use Rattle.frame.specs.Joinable.{Joinable}
use Rattle.frame.proofs.Succeeds.{checked-right, join-if, join-only-if}
use Rattle.frame.proofs.Delivered.{write-reads, join-reads, same-header}
use Rattle.frame.proofs.Again.{reform-keeps}

-- what is read has the type that it has in capitals
ordinary : (s h g : List ℕ) (bs cs : List Block) → read s ≡ frame h bs → in_capitals (read s) ≡ frame g cs → starts g ≡ false → starts h ≡ false
unfolding in_capitals
ordinary s h g bs cs r c t =
    sym (starts-same h) ∙ ap starts (same-header s (header_capitals h) g bs cs (ap in_capitals r) c) ∙ t

module _ (x : Output) where
  zero_of : (y : Output) → x ≡ y → x.answer.number ≡ 0 → y.answer.number ≡ 0
  zero_of y e z = sym (ap (λ (p : Output). p.answer.number) e) ∙ z

  -- frames that we write read back as the same header and the same commands: that header, in capitals, and that one command, of bytes
  pub written_back : (k : ℕ) (h : List ℕ) (c : ℕ) (d o : List ℕ) → is_byte c ≡ true → all is_byte d ≡ true
      → x ≡ write k h c d o → x.answer.number ≡ 0 → read (result_of x) ≡ frame (header_capitals h) (block c d true ∷ [])
  written_back k h c d o a b e z =
      (subst (λ (p : Output). Carries k (header_capitals h) (block c d true ∷ []) p) (sym e) (write-reads k h c d o a b (zero_of (write k h c d o) e z))).reads

  -- a header without small letters comes back as it is
  pub written-back-as-is : (k : ℕ) (h : List ℕ) (c : ℕ) (d o : List ℕ) → is_byte c ≡ true → all is_byte d ≡ true → no_small h ≡ true
      → x ≡ write k h c d o → x.answer.number ≡ 0 → read (result_of x) ≡ frame h (block c d true ∷ [])
  written-back-as-is k h c d o a b n e z = written_back k h c d o a b e z ∙ ap (λ (g : List ℕ). frame g (block c d true ∷ [])) (header-own h n)

  -- frames that we re-form: what was read of a frame of bytes, its header in capitals
  pub reformed-back : (k : ℕ) (s o : List ℕ) → all is_byte s ≡ true → x ≡ reform k s o → x.answer.number ≡ 0
      → read (result_of x) ≡ in_capitals (read s)
  reformed-back k s o a e z = ap (λ (p : Output). read (result_of p)) e ∙ reform-keeps k s o a (zero_of (reform k s o) e z)

  -- a frame whose header is without them reads as before
  pub reformed-back-as-is : (k : ℕ) (s o h : List ℕ) (bs : List Block) → all is_byte s ≡ true → read s ≡ frame h bs → no_small h ≡ true
      → x ≡ reform k s o → x.answer.number ≡ 0 → read (result_of x) ≡ read s
  unfolding in_capitals
  reformed-back-as-is k s o h bs a r n e z =
      reformed-back k s o a e z ∙ ap in_capitals r ∙ ap (λ (g : List ℕ). frame g bs) (header-own h n) ∙ sym r

  -- frames that we join, of bytes: the common header, in capitals, the first frame's commands followed by the second's, their sums right or none
  pub joined_back : (k : ℕ) (f g o : List ℕ) → all is_byte f ≡ true → all is_byte g ≡ true
      → x ≡ join k f g o → x.answer.number ≡ 0 → Joined k f g x
  joined_back k f g o a b e z = subst (λ (p : Output). Joined k f g p) (sym e) (join-reads k f g o a b (zero_of (join k f g o) e z))

  -- two frames are joined unless document 01 names a reason against it
  pub joins-unless : (k : ℕ) (f g o : List ℕ) → x ≡ join k f g o → Joinable k f g o → x.answer.number ≡ 0
  joins-unless k f g o e j = ap (λ (p : Output). p.answer.number) e ∙ join-if k f g o j

  -- and never when it does
  pub joins-only : (k : ℕ) (f g o : List ℕ) → x ≡ join k f g o → x.answer.number ≡ 0 → Joinable k f g o
  joins-only k f g o e z = join-only-if k f g o (zero_of (join k f g o) e z)

  -- request 11, "joining refuses it": 19, where no reason before it is there, with the output buffer untouched
  pub start-refused : (k : ℕ) (f g o h : List ℕ) (bs cs : List Block) → is_form k ≡ true → Sure f h bs → Sure g h cs → starts h ≡ true
      → x ≡ join k f g o → x ≡ unwritten 19 o
  unfolding join put_joined
  start-refused k f g o h bs cs i p q t e =
      e ∙ rw (i, checked-right f h bs p.reads p.right, checked-right g h cs q.reads q.right, same_self h, t)

  -- so neither of two frames that were joined is of type "z"
  pub joined-ordinary : (k : ℕ) (f g o : List ℕ) → x ≡ join k f g o → x.answer.number ≡ 0
      → (s h : List ℕ) (bs : List Block) → (s ≡ f) ⊎ (s ≡ g) → read s ≡ frame h bs → starts h ≡ false
  joined-ordinary k f g o e z s h bs w r =
      let j = joins-only k f g o e z in
      ⊎_elim (λ (i : s ≡ f). ordinary f h j.header bs j.first (rw i at r) j.one.reads j.ordinary)
      (λ (i : s ≡ g). ordinary g h j.header bs j.second (rw i at r) j.other.reads j.ordinary) w
