-- What a call that answers 0 leaves: a form of a header and blocks, which reads as these, with right sums.
use mathlib.Core.Path.{◌≡◌, refl, ap, ap₂, ◌∙◌, sym}
use mathlib.Core.Bool.{true, false}
use mathlib.Core.List.{List, [], ◌∷◌, ◌++◌}
use Prim.Native.Nat.{ℕ}
use lib.Dec.{lit≤}
use lib.ListN.{length, drop}
use lib.Seq.{take-append_seam}
use Rattle.octets.specs.Choice.{is_byte, all}
use Rattle.octets.specs.Buffer.{overlay}
use Rattle.octets.specs.Bytes.{is_plain}
use Rattle.octets.proofs.Tests.{split}
use Rattle.header.specs.Header.{is_header}
use Rattle.header.specs.Capitals.{header_capitals, no_small}
use Rattle.header.proofs.CapitalsLaws.{header-same, header-none, header-own}
use Rattle.body.specs.Body.{Block, block, read_not_last, all_right}
use Rattle.body.proofs.WellFormed.{Blocks}
use Rattle.reading.specs.Reading.{frame, read}
use Rattle.reading.specs.Capitals.{in_capitals}
use Rattle.reading.proofs.FrameLaws.{FrameOf}
use Rattle.reading.proofs.InCapitals.{capitals-bytes, capitals-none}
use Rattle.forms.specs.Forms.{render}
use Rattle.writing.specs.Output.{Output, is_over, delivered}
use Rattle.writing.specs.Writing.{write}
use Rattle.writing.specs.Reforming.{checked, reform}
use Rattle.writing.specs.Joining.{join}
use Rattle.frame.specs.Results.{result_of, Carries, Sure, Joined}
use Rattle.frame.proofs.FormBytes.{render-bytes}
use Rattle.frame.proofs.RoundTrip.{righted-right, round_trip}
use Rattle.frame.proofs.Appending.{blocks-append, right-append, reads-append}
use Rattle.frame.proofs.Limits.{within}
use Rattle.frame.proofs.Succeeds.{checked-right, write-only-if, write-gives, reform-only-if, reform-gives, join-only-if, join-gives}

-- ---- a result

-- what is delivered is the result
pub result-delivered : (s o : List ℕ) → result_of (delivered s o) ≡ s
unfolding overlay
result-delivered s o = take-append_seam s (drop (length s) o)

-- its header is in capitals
pub capital-reads : (k : ℕ) (h : List ℕ) (bs : List Block) (x : Output) → Carries k h bs x → in_capitals (read (result_of x)) ≡ frame h bs
unfolding in_capitals
capital-reads k h bs x r = ap in_capitals r.reads ∙ ap (λ (g : List ℕ). frame g bs) (header-own h r.capital)

-- so it passes the check of its sums
pub written-right : (k : ℕ) (h : List ℕ) (bs : List Block) (x : Output) → Carries k h bs x
    → checked (in_capitals (read (result_of x))) ≡ frame h bs
written-right k h bs x r = checked-right (result_of x) h bs (capital-reads k h bs x r) r.right

-- a form that is delivered
module _ (k : ℕ) (h : List ℕ) (bs : List Block) (o : List ℕ) (n : ℕ) (e : is_header h ≡ true) (hc : no_small h ≡ true)
    (g : Blocks is_byte n bs) (nl : read_not_last false bs ≡ false) (ar : all_right bs ≡ true) (v : is_over k h bs ≡ false) where
  reads-back : read (render k h bs) ≡ frame h bs
  reads-back =
      let w = within k h bs v in
      let f : FrameOf is_byte h bs =
      record { header = e; blocks = record { plain = g.plain; passing = g.passing; some = g.some; few = w.few }; reads = nl } in
      round_trip k h bs f w.short ∙ ap (frame h) (righted-right bs ar)

  put_holds : (x : Output) → x ≡ delivered (render k h bs) o → Carries k h bs x
  put_holds x d =
      let t : result_of x ≡ render k h bs = ap result_of d ∙ result-delivered (render k h bs) o in
      record { bytes = t; capital = hc; reads = ap read t ∙ reads-back; right = ar; small = rw t (render-bytes k h bs e g.passing); within = v }

-- ---- writing

-- a one-command frame
pub write-reads : (k : ℕ) (h : List ℕ) (c : ℕ) (d o : List ℕ) → is_byte c ≡ true → all is_byte d ≡ true → (write k h c d o).answer.number ≡ 0
    → Carries k (header_capitals h) (block c d true ∷ []) (write k h c d o)
write-reads k h c d o x y z =
    let w = write-only-if k h c d o z in
    let p = split (is_plain c) w.plain in
    put_holds k (header_capitals h) (block c d true ∷ []) o 1 (header-same h ∙ w.header) (header-none h)
    (record {
      plain = (record { leading = p.0; following = p.1 }, tt);
      passing = (record { leading = x; following = y }, tt);
      some = lit≤ tt;
      few = lit≤ tt;
    })
    (unfold read_not_last in refl) (unfold all_right in refl) w.within (write k h c d o) (write-gives k h c d o w)

-- ---- re-forming

-- what re-forming leaves, and of what
pub record Reformed (k : ℕ) (s : List ℕ) (x : Output) : Type 0 where
  pub header : List ℕ
  pub blocks : List Block
  pub given : Sure s header blocks
  pub result : Carries k header blocks x

-- a frame in another form reads as the frame
pub reform-reads : (k : ℕ) (s o : List ℕ) → all is_byte s ≡ true → (reform k s o).answer.number ≡ 0 → Reformed k s (reform k s o)
reform-reads k s o a z =
    let w = reform-only-if k s o z in
    let h = w.header in
    let bs = w.blocks in
    let f = capitals-bytes s h bs a w.reads in
    record {
      header = h;
      blocks = bs;
      given = record { reads = w.reads; right = w.right };
      result =
          put_holds k h bs o 64 f.header (capitals-none (read s) h bs w.reads) f.blocks f.reads w.right w.within (reform k s o)
          (reform-gives k s o w);
    }

-- ---- joining

-- two joined frames read as the common header and the blocks of the one and then of the other
pub join-reads : (k : ℕ) (f g o : List ℕ) → all is_byte f ≡ true → all is_byte g ≡ true → (join k f g o).answer.number ≡ 0
    → Joined k f g (join k f g o)
join-reads k f g o a b z =
    let w = join-only-if k f g o z in
    let h = w.header in
    let bs = w.first in
    let cs = w.second in
    let p = capitals-bytes f h bs a w.one.reads in
    let q = capitals-bytes g h cs b w.other.reads in
    record {
      header = h;
      first = bs;
      second = cs;
      one = w.one;
      other = w.other;
      ordinary = w.ordinary;
      calm = w.calm;
      result =
          put_holds k h (bs ++ cs) o 128 p.header (capitals-none (read f) h bs w.one.reads) (blocks-append is_byte 64 64 bs cs p.blocks q.blocks)
          (reads-append bs cs w.calm ∙ q.reads) (rw (right-append bs cs, w.one.right, w.other.right)) w.within
          (join k f g o) (join-gives k f g o w);
    }

-- ---- whatever the buffer

-- a frame reads in one way
module _ (s h h' : List ℕ) (bs cs : List Block) (p : in_capitals (read s) ≡ frame h bs) (q : in_capitals (read s) ≡ frame h' cs) where
  -- with one header text, in capitals
  pub same-header : h ≡ h'
  same-header = cc

  -- and the same blocks
  pub same_blocks : bs ≡ cs
  same_blocks = cc

-- the result of joining, by what reads
pub join-result : (k : ℕ) (f g o h h' : List ℕ) (bs cs : List Block) → in_capitals (read f) ≡ frame h bs → in_capitals (read g) ≡ frame h' cs
    → (join k f g o).answer.number ≡ 0 → result_of (join k f g o) ≡ render k h (bs ++ cs)
join-result k f g o h h' bs cs p q z =
    let w = join-only-if k f g o z in
    ap result_of (join-gives k f g o w) ∙ result-delivered (render k w.header (w.first ++ w.second)) o
    ∙ ap₂ (render k) (same-header f w.header h w.first bs w.one.reads p)
    (ap₂ ◌++◌ (same_blocks f w.header h w.first bs w.one.reads p) (same_blocks g w.header h' w.second cs w.other.reads q))

-- joining gives the same bytes in each buffer that is long enough
pub join-buffers : (k : ℕ) (f g o o' : List ℕ) → (join k f g o).answer.number ≡ 0 → (join k f g o').answer.number ≡ 0
    → result_of (join k f g o) ≡ result_of (join k f g o')
join-buffers k f g o o' z z' =
    let w = join-only-if k f g o z in
    join-result k f g o w.header w.header w.first w.second w.one.reads w.other.reads z
    ∙ sym (join-result k f g o' w.header w.header w.first w.second w.one.reads w.other.reads z')
