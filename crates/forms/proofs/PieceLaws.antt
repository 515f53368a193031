-- A form as it is put together piece by piece is the form.
use mathlib.Core.Path.{◌≡◌, refl, sym, ap, ◌∙◌}
use mathlib.Core.Bool.{Bool, true, false}
use mathlib.Core.List.{List, [], ◌∷◌, ◌++◌, append_assoc, append-nil}
use Prim.Native.Nat.{ℕ, ◌+◌, ◌*◌, ◌/◌, ◌%◌, ◌<◌, ◌≤◌}
use native.Mathlib.Nat.{not-suc-le-zero}
use native.Mathlib.Omega.{arith}
use borrow.Author.Tests.{ne_eqb, le-leb, lt-ltb, le-ltb}
use lib.Dec.{lit≤}
use lib.ListN.{length}
use Rattle.std.specs.Prelude.{if◌then◌else◌}
use Rattle.octets.specs.Choice.{◌is◌}
use Rattle.octets.specs.Hex.{digit, in_hex4}
use Rattle.octets.specs.Bytes.{SOH, STX, ETX, EOT}
use Rattle.octets.proofs.Tests.{choice, compare}
use Rattle.body.specs.Sum.{checksum}
use Rattle.body.specs.Body.{Block}
use Rattle.forms.specs.Forms.{is_itself, escape_of, escape, nuls, plain_rest, plain_body, summed_body, body_in, form_of, render}
use Rattle.forms.specs.InnerPieces.{in_hex2, encode, parting, ending, piece, pieces, heading, headed}

-- ---- bytes as a form carries them

escape-append : (l m : List ℕ) → escape (l ++ m) ≡ escape l ++ escape m
unfolding escape
escape-append [] m = refl
escape-append (x ∷ l) m =
    elim (is_itself x) as (λ t. (if t then x ∷ escape (l ++ m) else escape_of x ++ escape (l ++ m)) ≡ (if t then x ∷ escape l else escape_of x ++ escape l) ++ escape m) [
      | true ↦ ap (λ r. x ∷ r) (escape-append l m)
      | false ↦ ap (λ r. escape_of x ++ r) (escape-append l m)
    ]

-- at most three bytes for one
pub escape-length : (l : List ℕ) → length (escape l) ≤ 3 * length l
unfolding escape
escape-length [] = lit≤ tt
escape-length (x ∷ l) =
    choice (λ (r : List ℕ). length r ≤ 3 * length (x ∷ l)) (is_itself x)
    (λ e. omega (arith, escape-length l)) (λ e. omega (arith, escape-length l))

-- one list behind the other
pub encode-append : (form : ℕ) (l m : List ℕ) → encode form (l ++ m) ≡ encode form l ++ encode form m
unfolding encode
encode-append form l m =
    elim (form is 3) as (λ t. (if t then escape (l ++ m) else (l ++ m)) ≡ (if t then escape l else l) ++ (if t then escape m else m)) [
      | true ↦ escape-append l m
      | false ↦ refl
    ]

pub encode-none : (form : ℕ) → encode form [] ≡ []
unfolding encode escape
encode-none form = choice (λ l. l ≡ []) (form is 3) (λ e. refl) (λ e. refl)

-- a form that is not printable carries every byte as it is
pub encode-other : (form : ℕ) (l : List ℕ) → (form ≡ 3 → ⊥) → encode form l ≡ l
unfolding encode
encode-other form l n = rw (ne_eqb form 3 n)

-- a byte that stands for itself
pub encode-itself : (form b : ℕ) → is_itself b ≡ true → encode form (b ∷ []) ≡ b ∷ []
unfolding encode escape
encode-itself form b e = rw e (choice (λ l. l ≡ b ∷ []) (form is 3) (λ t. refl) (λ t. refl))

-- another one
pub encode-escaped : (form b : ℕ) → form ≡ 3 → is_itself b ≡ false → encode form (b ∷ []) ≡ escape_of b
unfolding encode escape
encode-escaped form b t e = rw (t, e)

-- ---- digits stand for themselves

-- one digit
pub digit-itself : (n : ℕ) → n < 16 → is_itself (digit n) ≡ true
unfolding is_itself digit
digit-itself n h =
    compare n 10
    (λ a. simp (lt-ltb n 10 a, le-leb 32 (48 + n) (omega arith), le-leb (48 + n) 126 (omega arith), ne_eqb (48 + n) 95 (λ e. omega arith)))
    (λ a. simp (le-ltb n 10 a, le-leb 32 (55 + n) (omega arith), le-leb (55 + n) 126 (omega arith), ne_eqb (55 + n) 95 (λ e. omega arith)))

encode-on : (form b : ℕ) (l : List ℕ) → is_itself b ≡ true → encode form l ≡ l → encode form (b ∷ l) ≡ b ∷ l
encode-on form b l e h = encode-append form (b ∷ []) l ∙ rw (encode-itself form b e, h)

-- four digits
pub encode-sum : (form v : ℕ) → v < 65536 → encode form (in_hex4 v) ≡ in_hex4 v
unfolding in_hex4
encode-sum form v h =
    encode-on form (digit (v / 4096)) _ (digit-itself (v / 4096) (omega arith))
    (encode-on form (digit (v / 256 % 16)) _ (digit-itself (v / 256 % 16) (omega arith))
    (encode-on form (digit (v / 16 % 16)) _ (digit-itself (v / 16 % 16) (omega arith))
    (encode-itself form (digit (v % 16)) (digit-itself (v % 16) (omega arith)))))

-- the digits of a number are those of its halves
pub hex4-halves : (v : ℕ) → in_hex4 v ≡ in_hex2 (v / 256) ++ in_hex2 (v % 256)
unfolding in_hex4
hex4-halves v =
    let a : v / 256 / 16 ≡ v / 4096 = omega arith in
    let b : v % 256 / 16 ≡ v / 16 % 16 = omega arith in
    let c : v % 256 % 16 ≡ v % 16 = omega arith in
    rw (a, b, c)

-- ---- the form, piece by piece

-- blocks of the plain form, each with ETX before it
plain-pieces : (form : ℕ) (bs : List Block) → form is 1 ≡ true → plain_rest bs ≡ pieces form false bs ++ (EOT ∷ [])
unfolding plain_rest pieces piece parting ending
plain-pieces form [] e = refl
plain-pieces form (b ∷ bs) e =
    let d = b.text in
    let r : List ℕ = pieces form false bs in
    rw (e, plain-pieces form bs e, append-nil d) (ap (λ (l : List ℕ). ETX ∷ STX ∷ b.command ∷ l) (sym (append_assoc d r (EOT ∷ []))))

-- blocks of the others, each with its sum
summed-pieces : (form : ℕ) (first : Bool) (bs : List Block) → form is 1 ≡ false → summed_body bs ≡ pieces form first bs ++ (EOT ∷ [])
unfolding summed_body pieces piece parting ending
summed-pieces form first [] e = refl
summed-pieces form first (b ∷ bs) e =
    let d = b.text in
    let k : List ℕ = ETX ∷ in_hex4 (checksum b.command d) in
    let r : List ℕ = pieces form false bs in
    rw (e, summed-pieces form false bs e)
    (ap (λ (l : List ℕ). STX ∷ b.command ∷ l)
    (sym (append_assoc d k (r ++ (EOT ∷ []))) ∙ sym (append_assoc (d ++ k) r (EOT ∷ []))))

first_piece : (form : ℕ) (b : Block) (bs : List Block) → form is 1 ≡ true → plain_body (b ∷ bs) ≡ pieces form true (b ∷ bs) ++ (EOT ∷ [])
unfolding plain_body pieces piece parting ending
first_piece form b bs e =
    let d = b.text in
    let r : List ℕ = pieces form false bs in
    rw (e, plain-pieces form bs e, append-nil d) (ap (λ (l : List ℕ). STX ∷ b.command ∷ l) (sym (append_assoc d r (EOT ∷ []))))

-- a body is its blocks and EOT
pub body-pieces : (form : ℕ) (bs : List Block) → 1 ≤ length bs → body_in form bs ≡ pieces form true bs ++ (EOT ∷ [])
unfolding body_in
body-pieces form [] h = absurd (not-suc-le-zero h)
body-pieces form (b ∷ bs) h =
    choice (λ l. l ≡ pieces form true (b ∷ bs) ++ (EOT ∷ [])) (form is 1) (first_piece form b bs) (summed-pieces form true (b ∷ bs))

pieces_more : (form : ℕ) (bs cs : List Block) → pieces form false (bs ++ cs) ≡ pieces form false bs ++ pieces form false cs
unfolding pieces
pieces_more form [] cs = refl
pieces_more form (b ∷ bs) cs =
    let p : List ℕ = piece form false b.command b.text in
    ap (λ (l : List ℕ). p ++ l) (pieces_more form bs cs) ∙ sym (append_assoc p (pieces form false bs) (pieces form false cs))

-- blocks behind others
pub pieces-append : (form : ℕ) (first : Bool) (bs cs : List Block) → 1 ≤ length bs → pieces form first (bs ++ cs) ≡ pieces form first bs ++ pieces form false cs
unfolding pieces
pieces-append form first [] cs h = absurd (not-suc-le-zero h)
pieces-append form first (b ∷ bs) cs h =
    let p : List ℕ = piece form first b.command b.text in
    ap (λ (l : List ℕ). p ++ l) (pieces_more form bs cs) ∙ sym (append_assoc p (pieces form false bs) (pieces form false cs))

-- a form is its header, its blocks and EOT
pub render-headed : (form : ℕ) (h : List ℕ) (bs : List Block) → 1 ≤ length bs → render form h bs ≡ encode form (headed form h bs ++ (EOT ∷ []))
unfolding render encode form_of headed heading
render-headed form h bs e =
    let b : List ℕ = pieces form true bs in
    ap (λ (l : List ℕ). encode form (nuls form ++ (SOH ∷ h ++ l))) (body-pieces form bs e)
    ∙ ap (encode form) (sym (append_assoc (nuls form) (SOH ∷ h) (b ++ (EOT ∷ []))) ∙ sym (append_assoc (nuls form ++ (SOH ∷ h)) b (EOT ∷ [])))
