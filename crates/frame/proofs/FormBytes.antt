-- What is written of bytes is bytes, in every form.
use mathlib.Core.Path.{◌≡◌, refl}
use mathlib.Core.Bool.{true}
use mathlib.Core.List.{List, [], ◌∷◌, ◌++◌}
use Prim.Native.Nat.{ℕ, ◌/◌, ◌%◌, ◌<◌}
use native.Mathlib.Omega.{arith}
use borrow.Author.Tests.{lt-ltb}
use Rattle.octets.specs.Choice.{◌is◌, is_byte, all}
use Rattle.octets.specs.Hex.{digit, in_hex4}
use Rattle.octets.specs.Buffer.{zeros}
use Rattle.octets.specs.Bytes.{SOH, STX, ETX}
use Rattle.octets.proofs.Tests.{choice}
use Rattle.octets.proofs.Lists.{all_append, all_cons}
use Rattle.octets.proofs.Digits.{digit-small}
use Rattle.header.specs.Header.{is_header}
use Rattle.header.proofs.Texts.{header-bytes}
use Rattle.body.specs.Sum.{checksum}
use Rattle.body.specs.Body.{Block}
use Rattle.body.proofs.Plain.{BlockOf, BlocksOf, checksum-small}
use Rattle.forms.specs.Forms.{opened, plain_rest, plain_body, summed_body, nuls, body_in, form_of, render}
use Rattle.frame.proofs.Printing.{escape-bytes}

-- four digits
pub in_hex4-bytes : (v : ℕ) → v < 65536 → all is_byte (in_hex4 v) ≡ true
unfolding in_hex4 all is_byte
in_hex4-bytes v h =
    rw (
      lt-ltb (digit (v / 4096)) 256 (digit-small (v / 4096) (omega arith)),
      lt-ltb (digit (v / 256 % 16)) 256 (digit-small (v / 256 % 16) (omega arith)),
      lt-ltb (digit (v / 16 % 16)) 256 (digit-small (v / 16 % 16) (omega arith)),
      lt-ltb (digit (v % 16)) 256 (digit-small (v % 16) (omega arith)),
    )

opened-bytes : (b : Block) (l : List ℕ) → BlockOf is_byte b → all is_byte l ≡ true → all is_byte (opened b l) ≡ true
opened-bytes b l p a =
    all_cons is_byte STX (b.command ∷ b.text ++ l) (unfold is_byte in refl)
    (all_cons is_byte b.command (b.text ++ l) p.leading (all_append is_byte b.text l p.following a))

etx-bytes : (l : List ℕ) → all is_byte l ≡ true → all is_byte (ETX ∷ l) ≡ true
etx-bytes l a = all_cons is_byte ETX l (unfold is_byte in refl) a

rest-bytes : (bs : List Block) → BlocksOf is_byte bs → all is_byte (plain_rest bs) ≡ true
unfolding plain_rest
rest-bytes [] p = unfold is_byte all in refl
rest-bytes (b ∷ bs) p = etx-bytes (opened b (plain_rest bs)) (opened-bytes b (plain_rest bs) p.0 (rest-bytes bs p.1))

plain-bytes : (bs : List Block) → BlocksOf is_byte bs → all is_byte (plain_body bs) ≡ true
unfolding plain_body
plain-bytes [] p = unfold is_byte all in refl
plain-bytes (b ∷ bs) p = opened-bytes b (plain_rest bs) p.0 (rest-bytes bs p.1)

summed-bytes : (bs : List Block) → BlocksOf is_byte bs → all is_byte (summed_body bs) ≡ true
unfolding summed_body
summed-bytes [] p = unfold is_byte all in refl
summed-bytes (b ∷ bs) p =
    let v = checksum b.command b.text in
    let l : List ℕ = in_hex4 v ++ summed_body bs in
    let a : all is_byte (in_hex4 v) ≡ true = in_hex4-bytes v (checksum-small b.command b.text) in
    opened-bytes b (ETX ∷ l) p.0 (etx-bytes l (all_append is_byte (in_hex4 v) (summed_body bs) a (summed-bytes bs p.1)))

-- a body
pub body_bytes : (k : ℕ) (bs : List Block) → BlocksOf is_byte bs → all is_byte (body_in k bs) ≡ true
unfolding body_in
body_bytes k bs p = choice (λ l. all is_byte l ≡ true) (k is 1) (λ e. plain-bytes bs p) (λ e. summed-bytes bs p)

nuls-bytes : (k : ℕ) → all is_byte (nuls k) ≡ true
unfolding nuls zeros all is_byte
nuls-bytes k = choice (λ l. all is_byte l ≡ true) (k is 3) (λ e. refl) (λ e. refl)

-- the translated bytes of a form
pub form-bytes : (k : ℕ) (h : List ℕ) (bs : List Block) → is_header h ≡ true → BlocksOf is_byte bs → all is_byte (form_of k h bs) ≡ true
unfolding form_of
form-bytes k h bs e p =
    all_append is_byte (nuls k) (SOH ∷ h ++ body_in k bs) (nuls-bytes k)
    (all_cons is_byte SOH (h ++ body_in k bs) (unfold is_byte in refl)
    (all_append is_byte h (body_in k bs) (header-bytes h e) (body_bytes k bs p)))

-- a form
pub render-bytes : (k : ℕ) (h : List ℕ) (bs : List Block) → is_header h ≡ true → BlocksOf is_byte bs → all is_byte (render k h bs) ≡ true
unfolding render
render-bytes k h bs e p =
    let s : all is_byte (form_of k h bs) ≡ true = form-bytes k h bs e p in
    choice (λ l. all is_byte l ≡ true) (k is 3) (λ q. escape-bytes (form_of k h bs) s) (λ q. s)
