-- A first start: the list of 26 records, what holds while it is made, and that it is taken as by "$" wherever memory has room for it.
use Prim.Native.Nat.{ℕ, zero, suc, ◌+◌, ◌*◌, ◌/◌, ◌<◌, ◌≤◌}
use mathlib.Core.Path.{◌≡◌, refl, sym, ap, ap₂, ◌∙◌}
use mathlib.Core.List.{List, [], ◌∷◌, ◌++◌}
use mathlib.Core.Bool.{true}
use native.Mathlib.Omega.{arith}
use borrow.Author.Rules.{rules}
use borrow.Author.Tests.{lt-ltb, le-ltb}
use lib.ListN.{length, take, set, length-set}
use lib.Seq.{take_at, drop_at, take_all}
use Rattle.std.specs.List.{concat}
use Rattle.std.specs.Simd.{first_chunks}
use Rattle.std.proofs.lemmas.Grind.{take-set_at}
use Rattle.octets.specs.Choice.{among}
use Rattle.octets.specs.Hex.{digit, value, is_hex2, hex2, is_hex4, hex4, in_hex4}
use Rattle.octets.specs.Carried.{capital}
use Rattle.octets.specs.Buffer.{zeros}
use Rattle.board.specs.Settings.{with_files}
use Rattle.board.specs.Files.{size_of, taken, files_of, heads, distinct}
use Rattle.board.specs.Kinds.{kind_of, is_size_of, is_start_code, is_stop_code, is_codes_of}
use Rattle.board.specs.Board.{Board, board, files_on}
use Rattle.board.specs.Soundness.{is_label, is_protection, is_size, is_codes, is_record, sound}
use Rattle.board.specs.declared.Settings.{Settings}
use Rattle.board.proofs.Inside.{sound-most}
use Rattle.effects.specs.Effects.{done}
use Rattle.configuration.specs.Capitals.{capitals_from, list_capitals}
use Rattle.configuration.specs.Records.{is_records, labels_in, needed, needed_by, refusal, size_in, with_size, laid}
use Rattle.configuration.specs.Configuration.{replaced, replace, configure}
use Rattle.configuration.specs.Starting.{start_record, start_records, start_list, START-MEMORY, started}
use Rattle.configuration.specs.InnerFiling.{Listed, Laid, start_heads}
use Rattle.configuration.specs.declared.Kept.{Kept}
use Rattle.configuration.proofs.Cuts.{listed-long}
use Rattle.configuration.proofs.ConfigurationLaws.{replaced-length, replaced-sound}

-- ---- the list

pub record-put : (label : ℕ) → label ∷ 0x41 ∷ 0x55 ∷ 0x30 ∷ 0x30 ∷ 0x39 ∷ 0x36 ∷ 0x46 ∷ 0x46 ∷ 0x30 ∷ 0x30 ∷ [] ≡ start_record label
unfolding start_record in_hex4 digit
record-put label = refl

record-length : (label : ℕ) → length (start_record label) ≡ 11
unfolding start_record in_hex4
record-length label = refl

-- the records of n labels are those that the list is cut into
heads-cut : (n label : ℕ) → start_heads n label ≡ first_chunks 11 n (start_records n label)
unfolding start_heads start_records
heads-cut zero label = refl
heads-cut (suc n) label =
    let r = start_record label in
    let l = start_records n (suc label) in
    ap₂ ◌∷◌ (sym (take_at r l 11 (record-length label))) (heads-cut n (suc label) ∙ ap (first_chunks 11 n) (sym (drop_at r l 11 (record-length label))))

heads-join : (n label : ℕ) → concat (start_heads n label) ≡ start_records n label
unfolding start_heads start_records
heads-join zero label = refl
heads-join (suc n) label = ap (λ (l : List ℕ). start_record label ++ l) (heads-join n (suc label))

heads-count : (n label : ℕ) → length (start_heads n label) ≡ n
unfolding start_heads
heads-count zero label = refl
heads-count (suc n) label = ap suc (heads-count n (suc label))

-- one more of them
heads-more : (n label : ℕ) → start_heads n label ++ (start_record (label + n) ∷ []) ≡ start_heads (n + 1) label
unfolding start_heads
heads-more zero label = let z : label + 0 ≡ label = omega arith in rw z
heads-more (suc n) label =
    let z : label + suc n ≡ suc label + n = omega arith in
    let y : suc n + 1 ≡ suc (n + 1) = omega arith in
    rw (y, z) (ap (λ (l : List (List ℕ)). start_record label ∷ l) (heads-more n (suc label)))

-- ---- what holds while it is made: the first i are there

pub record Making (l : List (List ℕ)) (i : ℕ) : Type 0 where
  pub long : length l ≡ 26
  pub few : i ≤ 26
  pub front : take i l ≡ start_heads i 0x41

pub make-start : (l : List (List ℕ)) → length l ≡ 26 → Making l 0
unfolding start_heads
make-start l h = record { long = h; few = omega arith; front = refl }

module _ {l : List (List ℕ)} {i : ℕ} (g : Making l i) where
  pub make-on : i < 26 → (r : List ℕ) → r ≡ start_record (0x41 + i) → Making (set l i r) (i + 1)
  make-on h r e =
      record {
        long = length-set l i r ∙ g.long;
        few = omega arith;
        front = take-set_at l i (i + 1) r refl (omega (arith, g.long)) ∙ rw (g.front, e) (heads-more i 0x41);
      }

  pub make-end : 26 ≤ i → l ≡ start_heads 26 0x41
  make-end h =
      let z : i ≡ 26 = omega (arith, g.few) in
      rw z at (sym (take_all i l (omega (arith, g.long))) ∙ g.front)

pub ruleset making = (record-put, make-start, make-on, make-end, rules)

-- ---- it is taken

-- good records, distinct labels, and what they take
record Taken : Type 0 where
  good : is_records 64 start_list ≡ true
  apart : distinct (labels_in 26 start_list) ≡ true
  count : length start_list / 11 ≡ 26
  takes : needed 26 start_list ≡ 4186

start-taken : Taken
unfolding
    start_list start_records start_record in_hex4 digit value is_hex2 hex2 is_hex4 hex4
    is_records is_record is_label is_protection is_size is_codes kind_of is_size_of is_start_code is_stop_code is_codes_of size_of
    labels_in distinct among needed needed_by
start-taken = record { good = refl; apart = refl; count = refl; takes = refl }

-- where memory has room for it, and only there
pub start_fits : (room : ℕ) → START-MEMORY ≤ room → refusal start_list room ≡ 0
unfolding refusal
start_fits room h = let t = start-taken in rw (t.good, t.count, t.apart, t.takes, le-ltb room 4186 h)

pub start-no-room : (room : ℕ) → room < START-MEMORY → refusal start_list room ≡ 27
unfolding refusal
start-no-room room h = let t = start-taken in rw (t.good, t.count, t.apart, t.takes, lt-ltb room 4186 h)

module _ (b : Board) (h : START-MEMORY ≤ length b.memory) where
  -- "as by "$"": the board is that which E "$" with this list leaves
  pub as-configured : configure b start_list ≡ done (started b)
  unfolding configure replace started
  as-configured = ap (replace b) capitals ∙ rw (start_fits (length b.memory) h)
    where
      capitals : list_capitals start_list ≡ start_list
      capitals = unfold capitals_from capital start_list start_records start_record in_hex4 digit in refl

  -- memory is as long as it was
  pub started-length : length (started b).memory ≡ length b.memory
  unfolding started
  started-length = replaced-length b start_list (start_fits (length b.memory) h)

  -- a sound board is sound then
  pub started-sound : sound b ≡ true → sound (started b) ≡ true
  unfolding started
  started-sound = replaced-sound b start_list (start_fits (length b.memory) h)

-- ---- the files then

module _ (b : Board) where
  pub started-files : (started b).settings.files ≡ 26
  unfolding started replaced
  started-files = start-taken.count

  pub started-records : heads (files_on (started b)) ≡ start_list
  unfolding
      started replaced laid with_size size_in size_of taken files_of heads zeros
      start_list start_records start_record in_hex4 digit hex4 hex2 value
  started-records = refl

-- ---- as the code does it

-- rs is the list that it has made
module _ (rs : List (List ℕ)) (e : rs ≡ start_heads 26 0x41) where
  joined : concat rs ≡ start_list
  unfolding start_list
  joined = ap concat e ∙ heads-join 26 0x41

  so-many : length rs ≡ 26
  so-many = ap length e ∙ heads-count 26 0x41

  cut : rs ≡ first_chunks 11 26 start_list
  unfolding start_list
  cut = e ∙ heads-cut 26 0x41

  pub start-listed : (m : List ℕ) → START-MEMORY ≤ length m → length m ≤ 32768 → Listed m rs
  start-listed m h o =
      let t = start-taken in
      let k : length start_list ≡ 11 * 26 = omega (arith, (listed-long start_list t.good).0, t.count) in
      record {
        cut = rw (so-many, joined) cut;
        long = rw (so-many, joined) k;
        good = rw joined t.good;
        room = rw (so-many, joined, t.takes) h;
        short = o;
      }

  pub start-done : (m m₁ : List ℕ) (k : Kept) → Laid m rs m₁ k → (b : Board) → m ≡ b.memory → (s : Settings) →
      s ≡ with_files b.settings 26 k.unused k.places → board s m₁ ≡ started b
  unfolding started replaced
  start-done m m₁ k g b i s j = rw (j, g.left, g.noted, g.stored, so-many, joined, i, start-taken.count)

pub ruleset starting = (start-listed, start-done, sound-most, rules)
