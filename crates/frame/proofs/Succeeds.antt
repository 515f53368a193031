-- When writing, re-forming and joining answer 0, and what they then leave: where one law says when, another says only then.
use mathlib.Core.Path.{◌≡◌, refl}
use mathlib.Core.Bool.{Bool, true, false, not, ◌&&◌}
use mathlib.Core.List.{List, [], ◌∷◌, ◌++◌}
use Prim.Native.Nat.{ℕ, ◌≤◌}
use native.Mathlib.Omega.{arith}
use lib.Dec.{lit≤}
use lib.ListN.{length}
use borrow.Author.Tests.{le-ltb, eqb-true, eqb-false, not-false}
use Rattle.std.specs.Prelude.{if◌then◌else◌}
use Rattle.octets.specs.Choice.{◌is◌, all, same}
use Rattle.octets.specs.Bytes.{is_plain}
use Rattle.octets.proofs.Tests.{choice}
use Rattle.octets.proofs.Lists.{same-eq, same_self}
use Rattle.header.specs.Addressing.{starts}
use Rattle.header.specs.Header.{is_header}
use Rattle.header.specs.Capitals.{header_capitals}
use Rattle.body.specs.Body.{Block, block, has_read, all_right}
use Rattle.reading.specs.Reading.{Reading, refused, frame, read}
use Rattle.reading.specs.Capitals.{in_capitals}
use Rattle.reading.proofs.InCapitals.{capitals-number}
use Rattle.forms.specs.Forms.{render}
use Rattle.writing.specs.Output.{Output, is_form, is_over, unwritten, delivered, put_number, put}
use Rattle.writing.specs.Writing.{write}
use Rattle.writing.specs.Reforming.{checked, put_read, reform}
use Rattle.writing.specs.Joining.{put_joined, join}
use Rattle.writing.proofs.Results.{put-fits}
use Rattle.frame.specs.Joinable.{Joinable}
use Rattle.frame.proofs.Limits.{render-length}

-- ---- putting

-- a call answers 0 only where q holds
record Only (q : Type 0) (x : Output) : Type 0 where
  holds : x.answer.number ≡ 0 → q

refused-not : {q : Type 0} (n : ℕ) (o : List ℕ) → 1 ≤ n → Only q (unwritten n o)
refused-not n o h = record { holds = λ z. absurd (omega arith) }

-- it was not refused: a test, the refusal's number, the buffer
passed : {q : Type 0} (t : Bool) (n : ℕ) (o : List ℕ) {x : Output} → 1 ≤ n → (t ≡ false → Only q x)
    → Only q (if t then unwritten n o else x)
passed {q} t n o h f = choice (Only q) t (λ e. refused-not n o h) f

module _ (k : ℕ) (h : List ℕ) (bs : List Block) (o : List ℕ) where
  put-gives : is_over k h bs ≡ false → length (render k h bs) ≤ length o → put k h bs o ≡ delivered (render k h bs) o
  unfolding put put_number
  put-gives v r = rw (v, le-ltb (length o) (length (render k h bs)) r)

  put-only-if : {q : Type 0} → (is_over k h bs ≡ false → length (render k h bs) ≤ length o → q) → Only q (put k h bs o)
  unfolding put
  put-only-if {q} f =
      choice (Only q) (put_number k h bs (length o) is 0)
      (λ e. let w = put-fits k h bs (length o) (eqb-true (put_number k h bs (length o)) 0 e) in record { holds = λ z. f w.0 w.1 })
      (λ e. record { holds = λ z. absurd (eqb-false (put_number k h bs (length o)) 0 e z) })

-- ---- writing

-- what writing asks: a form, a good header text, plain bytes, a result within the limits, room for it
pub record Writable (k : ℕ) (h : List ℕ) (c : ℕ) (d o : List ℕ) : Type 0 where
  pub form : is_form k ≡ true
  pub header : is_header h ≡ true
  pub plain : (is_plain c && all is_plain d) ≡ true
  pub within : is_over k (header_capitals h) (block c d true ∷ []) ≡ false
  pub room : length (render k (header_capitals h) (block c d true ∷ [])) ≤ length o

module _ (k : ℕ) (h : List ℕ) (c : ℕ) (d o : List ℕ) where
  -- then it leaves the form
  pub write-gives : Writable k h c d o → write k h c d o ≡ delivered (render k (header_capitals h) (block c d true ∷ [])) o
  unfolding write
  write-gives w = rw (w.form, w.header, w.plain) (put-gives k (header_capitals h) (block c d true ∷ []) o w.within w.room)

  -- only then
  pub write-only-if : (write k h c d o).answer.number ≡ 0 → Writable k h c d o
  unfolding write
  write-only-if z =
      (passed {q = Writable k h c d o} (not (is_form k)) 15 o (lit≤ tt) (λ i. passed (not (is_header h)) 6 o (lit≤ tt)
      (λ e. passed (not (is_plain c && all is_plain d)) 16 o (lit≤ tt) (λ p. put-only-if k (header_capitals h) (block c d true ∷ []) o (λ v r.
      record {
        form = not-false (is_form k) i;
        header = not-false (is_header h) e;
        plain = not-false (is_plain c && all is_plain d) p;
        within = v;
        room = r;
      }))))).holds z

-- ---- a frame that is read and checked

CheckedOf : List ℕ → Reading → Type 0
CheckedOf s (refused n) = 1 ≤ n
CheckedOf s (frame h bs) = (in_capitals (read s) ≡ frame h bs) × (all_right bs ≡ true)

checked-from : (s : List ℕ) (r : Reading) → in_capitals (read s) ≡ r → CheckedOf s (checked r)
unfolding checked CheckedOf
checked-from s (refused n) e = omega (arith, (capitals-number s n e).least)
checked-from s (frame h bs) e = choice (CheckedOf s) (all_right bs) (λ a. (e, a)) (λ a. lit≤ tt)

checked-of : (s : List ℕ) → CheckedOf s (checked (in_capitals (read s)))
checked-of s = checked-from s (in_capitals (read s)) refl

-- a frame that reads with right sums passes the check
pub checked-right : (s h : List ℕ) (bs : List Block) → in_capitals (read s) ≡ frame h bs → all_right bs ≡ true
    → checked (in_capitals (read s)) ≡ frame h bs
unfolding checked
checked-right s h bs e a = rw (e, a)

-- ---- re-forming

-- what re-forming asks: a form, a frame that reads with right sums, a result within the limits, room for it
pub record Reformable (k : ℕ) (s o : List ℕ) : Type 0 where
  pub form : is_form k ≡ true
  pub header : List ℕ
  pub blocks : List Block
  pub reads : in_capitals (read s) ≡ frame header blocks
  pub right : all_right blocks ≡ true
  pub within : is_over k header blocks ≡ false
  pub room : length (render k header blocks) ≤ length o

module _ (k : ℕ) (s o : List ℕ) where
  -- then it leaves the form
  pub reform-gives : (w : Reformable k s o) → reform k s o ≡ delivered (render k w.header w.blocks) o
  unfolding reform put_read
  reform-gives w =
      rw (w.form, checked-right s w.header w.blocks w.reads w.right)
      (put-gives k w.header w.blocks o w.within w.room)

  reformable : is_form k ≡ true → (r : Reading) → CheckedOf s r → Only (Reformable k s o) (put_read k r o)
  unfolding put_read CheckedOf
  reformable i (refused n) g = refused-not n o g
  reformable i (frame h bs) g =
      put-only-if k h bs o
      (λ v r. record { form = i; header = h; blocks = bs; reads = g.0; right = g.1; within = v; room = r })

  -- only then
  pub reform-only-if : (reform k s o).answer.number ≡ 0 → Reformable k s o
  unfolding reform
  reform-only-if z =
      (passed (not (is_form k)) 15 o (lit≤ tt) (λ i. reformable (not-false (is_form k) i) (checked (in_capitals (read s))) (checked-of s))).holds z

-- ---- joining

module _ (k : ℕ) (f g o : List ℕ) where
  -- then it leaves the form of all blocks
  pub join-gives : (w : Joinable k f g o) → join k f g o ≡ delivered (render k w.header (w.first ++ w.second)) o
  unfolding join put_joined
  join-gives w =
      rw (
        w.form,
        checked-right f w.header w.first w.one.reads w.one.right,
        checked-right g w.header w.second w.other.reads w.other.right,
        same_self w.header,
        w.ordinary,
        w.calm,
      )
      (put-gives k w.header (w.first ++ w.second) o w.within w.room)

  -- and answers 0
  pub join-if : Joinable k f g o → (join k f g o).answer.number ≡ 0
  join-if w = rw (join-gives w)

  joinable : is_form k ≡ true → (r s : Reading) → CheckedOf f r → CheckedOf g s → Only (Joinable k f g o) (put_joined k r s o)
  unfolding put_joined CheckedOf
  joinable i (refused n) s p q = refused-not n o p
  joinable i (frame h bs) (refused n) p q = refused-not n o q
  joinable i (frame h bs) (frame h' cs) p q =
      passed (not (same h h')) 12 o (lit≤ tt) (λ e. passed (starts h) 19 o (lit≤ tt) (λ t. passed (has_read bs) 13 o (lit≤ tt) (λ n. put-only-if k h (bs ++ cs) o (λ v r.
      record {
        form = i;
        header = h;
        first = bs;
        second = cs;
        one = record { reads = p.0; right = p.1 };
        other = record { reads = rw (same-eq h h' (not-false (same h h') e)) q.0; right = q.1 };
        ordinary = t;
        calm = n;
        within = v;
        room = r;
      }))))

  -- only then
  pub join-only-if : (join k f g o).answer.number ≡ 0 → Joinable k f g o
  unfolding join
  join-only-if z =
      (passed (not (is_form k)) 15 o (lit≤ tt)
      (λ i. joinable (not-false (is_form k) i) (checked (in_capitals (read f))) (checked (in_capitals (read g))) (checked-of f) (checked-of g))).holds z

-- a buffer of 24,576 bytes is always long enough
pub join-succeeds : (k : ℕ) (f g o h : List ℕ) (bs cs : List Block) → is_form k ≡ true → in_capitals (read f) ≡ frame h bs
    → in_capitals (read g) ≡ frame h cs → all_right bs ≡ true → all_right cs ≡ true → starts h ≡ false → has_read bs ≡ false → is_over k h (bs ++ cs) ≡ false → 24576 ≤ length o
    → (join k f g o).answer.number ≡ 0
join-succeeds k f g o h bs cs i p q a b t n v z =
    join-if k f g o
    (record {
      form = i;
      header = h;
      first = bs;
      second = cs;
      one = record { reads = p; right = a };
      other = record { reads = q; right = b };
      ordinary = t;
      calm = n;
      within = v;
      room = omega (arith, render-length k h (bs ++ cs) v);
    })
