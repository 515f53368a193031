-- Three frames joined from the left or from the right: the same answer and the same bytes, and where the one succeeds so does the other.
use mathlib.Core.Path.{◌≡◌, sym, ap, ◌∙◌}
use mathlib.Core.Bool.{true, false}
use mathlib.Core.List.{List, ◌++◌, append_assoc}
use Prim.Native.Nat.{ℕ, ◌≤◌}
use native.Mathlib.Omega.{arith}
use lib.ListN.{length, length-append}
use Rattle.octets.specs.Choice.{is_byte, all}
use Rattle.octets.proofs.Tests.{or-out-right}
use Rattle.octets.proofs.Lists.{same_self}
use Rattle.header.specs.Addressing.{starts}
use Rattle.body.specs.Body.{Block, has_read}
use Rattle.reading.specs.Reading.{frame, read}
use Rattle.reading.specs.Capitals.{in_capitals}
use Rattle.reading.proofs.InCapitals.{capitals-plain}
use Rattle.writing.specs.Output.{is_over}
use Rattle.writing.specs.Reforming.{checked}
use Rattle.writing.specs.Joining.{put_joined, join}
use Rattle.frame.proofs.Appending.{has_read-append}
use Rattle.frame.proofs.Limits.{over_first, over-second}
use Rattle.frame.proofs.Succeeds.{checked-right, join-only-if, join-succeeds}
use Rattle.frame.specs.Results.{result_of}
use Rattle.frame.proofs.Delivered.{capital-reads, written-right, join-reads, same-header, same_blocks, join-buffers}

-- the first two joined in a form, and then the third to them
pub record FromLeft (i k : ℕ) (f g e o o' : List ℕ) : Type 0 where
  pub inner : (join i f g o).answer.number ≡ 0
  pub outer : (join k (result_of (join i f g o)) e o').answer.number ≡ 0

-- the last two joined in a form, and then they to the first
pub record FromRight (j k : ℕ) (f g e o o' : List ℕ) : Type 0 where
  pub inner : (join j g e o).answer.number ≡ 0
  pub outer : (join k f (result_of (join j g e o)) o').answer.number ≡ 0

-- ---- the same

turned : (k : ℕ) (f e fg ge o h : List ℕ) (bs cs ds : List Block) → checked (in_capitals (read f)) ≡ frame h bs → checked (in_capitals (read e)) ≡ frame h ds
    → checked (in_capitals (read fg)) ≡ frame h (bs ++ cs) → checked (in_capitals (read ge)) ≡ frame h (cs ++ ds) → starts h ≡ false → has_read bs ≡ false → has_read cs ≡ false
    → join k fg e o ≡ join k f ge o
unfolding join put_joined
turned k f e fg ge o h bs cs ds p q r s t m n =
    rw (p, q, r, s) (rw (same_self h, has_read-append bs cs) (rw (t, m, n, append_assoc bs cs ds)))

module _ (i j : ℕ) (f g e o₁ o₂ : List ℕ) (a : all is_byte f ≡ true) (b : all is_byte g ≡ true) (c : all is_byte e ≡ true)
    (z₁ : (join i f g o₁).answer.number ≡ 0) (z₂ : (join j g e o₂).answer.number ≡ 0) where
  -- where both pairs join, whatever their forms: the same answer and the same buffer
  pub join-turned : (k : ℕ) (o : List ℕ) → join k (result_of (join i f g o₁)) e o ≡ join k f (result_of (join j g e o₂)) o
  join-turned k o =
      let fg : List ℕ = result_of (join i f g o₁) in
      let ge : List ℕ = result_of (join j g e o₂) in
      let x = join-reads i f g o₁ a b z₁ in
      let y = join-reads j g e o₂ b c z₂ in
      let h = x.header in
      let eh : y.header ≡ h = same-header g y.header h y.first x.second y.one.reads x.other.reads in
      let eb : y.first ≡ x.second = same_blocks g y.header h y.first x.second y.one.reads x.other.reads in
      let p : checked (in_capitals (read f)) ≡ frame h x.first = checked-right f h x.first x.one.reads x.one.right in
      let q : checked (in_capitals (read e)) ≡ frame h y.second =
      rw eh at (checked-right e y.header y.second y.other.reads y.other.right) in
      let r : checked (in_capitals (read fg)) ≡ frame h (x.first ++ x.second) = written-right i h (x.first ++ x.second) (join i f g o₁) x.result in
      let s : checked (in_capitals (read ge)) ≡ frame h (x.second ++ y.second) =
      rw (eh, eb) at (written-right j y.header (y.first ++ y.second) (join j g e o₂) y.result) in
      turned k f e fg ge o h x.first x.second y.second p q r s x.ordinary x.calm (rw eb at y.calm)

-- three frames joined in a form, from the left or from the right, whatever the form of what is joined first: the same bytes
pub join-associative : (i j k : ℕ) (f g e o₁ o₂ o₃ o₄ : List ℕ) → all is_byte f ≡ true → all is_byte g ≡ true → all is_byte e ≡ true
    → FromLeft i k f g e o₁ o₃ → FromRight j k f g e o₂ o₄
    → result_of (join k (result_of (join i f g o₁)) e o₃) ≡ result_of (join k f (result_of (join j g e o₂)) o₄)
join-associative i j k f g e o₁ o₂ o₃ o₄ a b c l r =
    let fg : List ℕ = result_of (join i f g o₁) in
    let ge : List ℕ = result_of (join j g e o₂) in
    let t : join k fg e o₃ ≡ join k f ge o₃ = join-turned i j f g e o₁ o₂ a b c l.inner r.inner k o₃ in
    ap result_of t ∙ join-buffers k f ge o₃ o₄ (sym (ap (λ x. x.answer.number) t) ∙ l.outer) r.outer

-- ---- where the one succeeds, so does the other

-- what reads has a block
some-blocks : (s h : List ℕ) (bs : List Block) → in_capitals (read s) ≡ frame h bs → 1 ≤ length bs
some-blocks s h bs e = (capitals-plain s h bs e).blocks.some

join-roomy : (k : ℕ) (f g o o' : List ℕ) → (join k f g o).answer.number ≡ 0 → 24576 ≤ length o' → (join k f g o').answer.number ≡ 0
join-roomy k f g o o' z r =
    let w = join-only-if k f g o z in
    join-succeeds k f g o' w.header w.first w.second w.form w.one.reads w.other.reads
    w.one.right w.other.right w.ordinary w.calm w.within r

module _ (k : ℕ) (f g e o₁ o₂ o₃ o₄ : List ℕ) (a : all is_byte f ≡ true) (b : all is_byte g ≡ true) (c : all is_byte e ≡ true) where
  -- joined from the left, then also from the right, in buffers of 24,576 bytes
  pub joins-from-the-right : FromLeft k k f g e o₁ o₃ → 24576 ≤ length o₂ → 24576 ≤ length o₄ → FromRight k k f g e o₂ o₄
  joins-from-the-right l r₂ r₄ =
      let fg : List ℕ = result_of (join k f g o₁) in
      let x = join-reads k f g o₁ a b l.inner in
      let x-reads = capital-reads k x.header (x.first ++ x.second) (join k f g o₁) x.result in
      let w = join-only-if k fg e o₃ l.outer in
      let h = x.header in
      let bs = x.first in
      let cs = x.second in
      let ds = w.second in
      let eh : w.header ≡ h = same-header fg w.header h w.first (bs ++ cs) w.one.reads x-reads in
      let eb : w.first ≡ bs ++ cs = same_blocks fg w.header h w.first (bs ++ cs) w.one.reads x-reads in
      let third : in_capitals (read e) ≡ frame h ds = rw eh at w.other.reads in
      let v : is_over k h (bs ++ (cs ++ ds)) ≡ false = rw (eh, eb, append_assoc bs cs ds) at w.within in
      let n : has_read cs ≡ false = or-out-right (has_read bs) (has_read cs) (rw (eb, has_read-append bs cs) at w.calm) in
      let some : 1 ≤ length (cs ++ ds) = rw length-append (omega (arith, some-blocks g h cs x.other.reads)) in
      let z : (join k g e o₂).answer.number ≡ 0 =
      join-succeeds k g e o₂ h cs ds w.form x.other.reads third x.other.right w.other.right x.ordinary n
      (over-second k bs (cs ++ ds) (some-blocks f h bs x.one.reads) some h v) r₂ in
      let t = join-turned k k f g e o₁ o₂ a b c l.inner z k o₄ in
      record { inner = z; outer = sym (ap (λ y. y.answer.number) t) ∙ join-roomy k fg e o₃ o₄ l.outer r₄ }

  -- joined from the right, then also from the left
  pub joins-from-the-left : FromRight k k f g e o₂ o₄ → 24576 ≤ length o₁ → 24576 ≤ length o₃ → FromLeft k k f g e o₁ o₃
  joins-from-the-left r r₁ r₃ =
      let ge : List ℕ = result_of (join k g e o₂) in
      let y = join-reads k g e o₂ b c r.inner in
      let y-reads = capital-reads k y.header (y.first ++ y.second) (join k g e o₂) y.result in
      let w = join-only-if k f ge o₄ r.outer in
      let h = y.header in
      let bs = w.first in
      let cs = y.first in
      let ds = y.second in
      let eh : w.header ≡ h = same-header ge w.header h w.second (cs ++ ds) w.other.reads y-reads in
      let eb : w.second ≡ cs ++ ds = same_blocks ge w.header h w.second (cs ++ ds) w.other.reads y-reads in
      let one : in_capitals (read f) ≡ frame h bs = rw eh at w.one.reads in
      let v : is_over k h (bs ++ cs ++ ds) ≡ false = rw (eh, eb, ← append_assoc bs cs ds) at w.within in
      let some : 1 ≤ length (bs ++ cs) = rw length-append (omega (arith, some-blocks g h cs y.one.reads)) in
      let z : (join k f g o₁).answer.number ≡ 0 =
      join-succeeds k f g o₁ h bs cs w.form one y.one.reads w.one.right y.one.right y.ordinary w.calm
      (over_first k (bs ++ cs) ds some (some-blocks e h ds y.other.reads) h v) r₁ in
      let t = join-turned k k f g e o₁ o₂ a b c z r.inner k o₃ in
      record { inner = z; outer = ap (λ y. y.answer.number) t ∙ join-roomy k f ge o₄ o₃ r.outer r₃ }
