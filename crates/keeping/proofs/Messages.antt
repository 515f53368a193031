-- Putting a message into a file: the files afterwards are those before, one of them with another content, and memory stays sound.
use Prim.Native.Nat.{ℕ, zero, suc, ◌+◌, ◌-◌, ◌≤◌, ◌<◌}
use mathlib.Core.Path.{◌≡◌, refl, sym, ap, ◌∙◌}
use mathlib.Core.List.{List, [], ◌∷◌, ◌++◌, append_assoc}
use mathlib.Core.Bool.{true, ◌&&◌}
use native.Mathlib.Omega.{arith}
use lib.ListN.{length, take, drop, length-append, length-take, length-drop}
use lib.Seq.{take_at, drop_at, drop-drop}
use borrow.Author.Tests.{eqb-true}
use Rattle.std.specs.Prelude.{Some, None, if◌then◌else◌}
use Rattle.std.proofs.lemmas.Option.{none-some, same_Some}
use Rattle.octets.specs.Choice.{◌is◌, ◌!◌, all}
use Rattle.octets.specs.Buffer.{zeros, splice}
use Rattle.octets.specs.Bytes.{is_plain}
use Rattle.octets.proofs.Tests.{choice, by-test, split}
use Rattle.octets.proofs.Buffers.{length-zeros}
use Rattle.board.specs.declared.Content.{Content}
use Rattle.board.specs.Files.{File, content, taken, file_at, files_of, heads, unused, labels, find, is_at}
use Rattle.board.specs.Index.{entry, names_each, is_index}
use Rattle.board.specs.Soundness.{is_content, holds_files, sound_memory}
use Rattle.board.proofs.Layouts.{layout, AllValid, past, parse, layout-unused, holds, count-files, print, valid, past-zero, past-unused}
use Rattle.board.proofs.Contents.{plain-content}
use Rattle.board.proofs.SoundParts.{parts, whole}
use Rattle.commands.specs.Commands.{holding}
use Rattle.keeping.specs.Keeping.{file_in}

-- files, the first of the label and type with another content
unfoldable pub put_in : List File → ℕ → ℕ → List ℕ → List File
put_in [] l t m = []
put_in (f ∷ fs) l t m = if is_at l t f.head then record { head = f.head; body = m } ∷ fs else f ∷ put_in fs l t m

-- "holds the message, zeros after it"
abbrev pub padded : ℕ → List ℕ → List ℕ
padded size msg = msg ++ zeros (size - length msg)

-- ---- another content in a list of files

put_count : (fs : List File) (l t : ℕ) (m : List ℕ) → length (put_in fs l t m) ≡ length fs
unfolding put_in
put_count [] l t m = refl
put_count (f ∷ fs) l t m =
    choice (λ (x : List File). length x ≡ suc (length fs)) (is_at l t f.head) (λ e. refl) (λ e. ap suc (put_count fs l t m))

put-labels : (fs : List File) (l t : ℕ) (m : List ℕ) → labels (put_in fs l t m) ≡ labels fs
unfolding put_in labels
put-labels [] l t m = refl
put-labels (f ∷ fs) l t m =
    choice (λ (x : List File). labels x ≡ f.head ! 0 ∷ labels fs) (is_at l t f.head) (λ e. refl) (λ e. rw (put-labels fs l t m))

-- every record stays as it was
pub put-heads : (fs : List File) (l t : ℕ) (m : List ℕ) → heads (put_in fs l t m) ≡ heads fs
unfolding put_in heads
put-heads [] l t m = refl
put-heads (f ∷ fs) l t m =
    choice (λ (x : List File). heads x ≡ f.head ++ heads fs) (is_at l t f.head) (λ e. refl) (λ e. ap (λ (x : List ℕ). f.head ++ x) (put-heads fs l t m))

-- a file of another label stays as it was
pub put-others : (fs : List File) (l t : ℕ) (m : List ℕ) (k : ℕ) → ((file_in fs k).head ! 0 ≡ l → ⊥) →
    file_in (put_in fs l t m) k ≡ file_in fs k
unfolding put_in is_at
put-others [] l t m k n = refl
put-others (f ∷ fs) l t m zero n =
    choice (λ (x : List File). file_in x 0 ≡ f) (is_at l t f.head)
    (λ e. absurd (n (eqb-true (f.head ! 0) l (split (f.head ! 0 is l) e).0))) (λ e. refl)
put-others (f ∷ fs) l t m (suc k) n =
    choice (λ (x : List File). file_in x (suc k) ≡ file_in fs k) (is_at l t f.head) (λ e. refl) (λ e. put-others fs l t m k n)

-- a message that is put in the middle
splice-mid : (p b y m : List ℕ) (k : ℕ) → length p ≡ k → length m ≡ length b → splice (p ++ (b ++ y)) k m ≡ p ++ (m ++ y)
unfolding splice
splice-mid p b y m k e g =
    let d : drop (k + length m) (p ++ (b ++ y)) ≡ y =
    sym (drop-drop (length m) k _) ∙ rw (drop_at p (b ++ y) k e) (drop_at b y (length m) (sym g)) in
    rw (take_at p (b ++ y) k e, d, append_assoc p m y)

not_found : {start size : ℕ} → None ≡ Some (content start size) → ⊥
not_found {start} {size} e = none-some (content start size) e

-- where it was found is what was found
found-start : {a b c d : ℕ} → Some (content a b) ≡ Some (content c d) → a ≡ c
found-start {a} {b} {c} {d} e = ap (λ (x : Content). x.start) (same_Some (content a b) (content c d) e)

found-size : {a b c d : ℕ} → Some (content a b) ≡ Some (content c d) → b ≡ d
found-size {a} {b} {c} {d} e = ap (λ (x : Content). x.size) (same_Some (content a b) (content c d) e)

module _ (l t : ℕ) (m : List ℕ) (size : ℕ) (g : length m ≡ size) where
  put-image : (fs : List File) (y pre : List ℕ) (at start : ℕ) → AllValid fs → length pre ≡ at → find l t fs at ≡ Some (content start size) →
      splice (pre ++ layout fs y) start m ≡ pre ++ layout (put_in fs l t m) y
  unfolding find put_in layout
  put-image [] y pre at start v e h = absurd (not_found h)
  put-image (f ∷ fs) y pre at start v e h =
      let b = layout fs y in
      choice (λ (x : List File). splice (pre ++ (f.head ++ (f.body ++ b))) start m ≡ pre ++ layout x y) (is_at l t f.head)
      (λ q.
      let k : Some (content (at + 11) (length f.body)) ≡ Some (content start size) = rw q at h in
      let len : length (pre ++ f.head) ≡ start = rw (length-append, e, v.0.eleven) (found-start k) in
      rw (← append_assoc pre f.head (f.body ++ b))
      (splice-mid (pre ++ f.head) f.body b m start len (g ∙ sym (found-size k)) ∙ append_assoc pre f.head (m ++ b)))
      (λ q.
      let a = at + 11 + length f.body in
      let len : length (pre ++ (f.head ++ f.body)) ≡ a = rw (length-append, length-append, e, v.0.eleven) (omega arith) in
      simp append_assoc at (put-image fs y (pre ++ (f.head ++ f.body)) a start v.1 len (rw q at h)))

  put-valid : (fs : List File) (at start : ℕ) → AllValid fs → is_content m ≡ true → find l t fs at ≡ Some (content start size) →
      AllValid (put_in fs l t m)
  unfolding find put_in
  put-valid [] at start v b h = tt
  put-valid (f ∷ fs) at start v b h =
      choice AllValid (is_at l t f.head)
      (λ q. (
        record {
          eleven = v.0.eleven;
          right = v.0.right;
          sized = v.0.sized ∙ found-size {a = at + 11} {c = start} (rw q at h) ∙ sym g;
          filled = b;
        },
        v.1,
      ))
      (λ q. (v.0, put-valid fs (at + 11 + length f.body) start v.1 b (rw q at h)))

  -- every file stays where it was
  put-names : (p : List ℕ) (fs : List File) (at start : ℕ) → find l t fs at ≡ Some (content start size) → names_each p (put_in fs l t m) at ≡ names_each p fs at
  unfolding find put_in names_each
  put-names p [] at start h = refl
  put-names p (f ∷ fs) at start h =
      choice (λ (x : List File). names_each p x at ≡ (entry p (f.head ! 0) is at && names_each p fs (at + 11 + length f.body))) (is_at l t f.head)
      (λ q. rw (g ∙ sym (found-size {a = at + 11} {c = start} (rw q at h))))
      (λ q. rw (put-names p fs (at + 11 + length f.body) start (rw q at h)))

-- ---- a message in memory

-- a message that is put where a file was found, in a memory that holds files as it has to
module _ (n : ℕ) (m : List ℕ) (ok : holds_files n m ≡ true) (l t start size : ℕ) (found : find l t (files_of n m) 0 ≡ Some (content start size))
    (msg : List ℕ) (fits : length msg ≤ size) (good : all is_plain msg ≡ true) where
  -- the files afterwards
  abbrev files : List File
  files = put_in (files_of n m) l t (padded size msg)

  content-length : length (padded size msg) ≡ size
  content-length = rw (length-append, length-zeros) (omega arith)

  new-image : holding m start size msg ≡ layout files (past n m)
  unfolding holding
  new-image =
      ap (λ (r : List ℕ). splice r start (padded size msg)) (sym (print n m))
      ∙ put-image l t (padded size msg) size content-length (files_of n m) (past n m) [] 0 start (valid n m ok) refl found

  new-valid : AllValid files
  new-valid =
      put-valid l t (padded size msg) size content-length (files_of n m) 0 start (valid n m ok)
      (plain-content msg (size - length msg) good) found

  new-count : n ≡ length files
  new-count = sym (put_count (files_of n m) l t (padded size msg) ∙ count-files n m)

  -- the files are those before, one with another content
  pub holding-files : files_of n (holding m start size msg) ≡ put_in (files_of n m) l t (padded size msg)
  holding-files =
      ap (files_of n) new-image ∙ ap (λ (k : ℕ). files_of k (layout files (past n m))) new-count ∙ parse files (past n m) new-valid

  -- what no file takes stays
  pub holding-unused : unused n (holding m start size msg) ≡ unused n m
  holding-unused =
      ap (unused n) new-image ∙ ap (λ (k : ℕ). unused k (layout files (past n m))) new-count
      ∙ layout-unused files (past n m) new-valid ∙ sym (past-unused n m ok)

  -- memory holds files as it has to
  pub holding-holds : holds_files n (holding m start size msg) ≡ true
  holding-holds =
      ap (holds_files n) new-image ∙ ap (λ (k : ℕ). holds_files k (layout files (past n m))) new-count
      ∙ holds files (past n m) new-valid ∙ past-zero n m ok

  -- an index stays what it was
  pub holding-index : (p : List ℕ) → is_index p (files_of n (holding m start size msg)) ≡ is_index p (files_of n m)
  unfolding is_index
  holding-index p =
      rw (
        holding-files,
        put-names l t (padded size msg) size content-length p (files_of n m) 0 start found,
        put-labels (files_of n m) l t (padded size msg),
      )

-- ---- memory's length, whatever it holds

-- a content that is found, and not empty, is inside memory
find-room : (l t n : ℕ) (r : List ℕ) (place start size : ℕ) → find l t (files_of n r) place ≡ Some (content start size) → 0 < size →
    (start + size ≤ place + length r) × (11 < length r)
unfolding find files_of
find-room l t zero r place start size e h = absurd (not_found e)
find-room l t (suc n) r place start size e h =
    let c = take (taken r) (drop 11 r) in
    let d = drop (11 + taken r) r in
    by-test (is_at l t (file_at r).head)
    (λ q.
    let k : Some (content (place + 11) (length c)) ≡ Some (content start size) = rw q at e in
    omega (arith, found-start k, found-size k, length-take (taken r) (drop 11 r), length-drop 11 r))
    (λ q.
    let k = find-room l t n d (place + 11 + length c) start size (rw q at e) h in
    omega (arith, k.0, k.1, length-take (taken r) (drop 11 r), length-drop 11 r, length-drop (11 + taken r) r))

-- a message leaves memory as long as it was, on any board
pub holding-length : (l t n : ℕ) (m : List ℕ) (start size : ℕ) (msg : List ℕ) →
    find l t (files_of n m) 0 ≡ Some (content start size) → length msg ≤ size → length (holding m start size msg) ≡ length m
unfolding holding splice
holding-length l t n m start zero msg e h = simp (length-append, length-take, length-drop, length-zeros) (omega arith)
holding-length l t n m start (suc size) msg e h =
    let g = (find-room l t n m 0 start (suc size) e (omega arith)).0 in
    simp (length-append, length-take, length-drop, length-zeros) (omega arith)

-- ---- the theorem

-- a message leaves a sound memory sound
pub holding-sound : (n : ℕ) (m : List ℕ) → sound_memory n m ≡ true →
    (l t start size : ℕ) → find l t (files_of n m) 0 ≡ Some (content start size) →
    (msg : List ℕ) → length msg ≤ size → all is_plain msg ≡ true → sound_memory n (holding m start size msg) ≡ true
holding-sound n m s l t start size e msg h p =
    let w = parts n m s in
    whole n (holding m start size msg)
    (record {
      long = rw (holding-length l t n m start size msg e h) w.long;
      few = w.few;
      held = holding-holds n m w.held l t start size e msg h p;
    })
