-- Writing, re-forming and joining have one outcome each: whatever meets the equation of a call is its answer and its buffer. What C is told
-- fixes an inner function's answer too.
use mathlib.Core.Path.{◌≡◌, refl, sym, ap, ◌∙◌}
use mathlib.Core.List.{List}
use Prim.Native.Nat.{ℕ, ◌≤◌}
use native.Mathlib.Omega.{arith}
use lib.Dec.{lit≤}
use Rattle.std.specs.Prelude.{Result, Ok, Err, if◌then◌else◌}
use Rattle.octets.specs.Choice.{◌is◌}
use Rattle.reading.specs.declared.Refusal.TheVariants.{WrongLength, WrongLead, BadPrintable, BadHeader, BadBody, ReadNotLast}
use Rattle.writing.specs.declared.Written.{Written}
use Rattle.writing.specs.declared.refusal.Refusal.{Refusal}
use Rattle.writing.specs.declared.refusal.Refusal.TheVariants.{Unread, HeadersDiffer, FirstHasRead, NoRoom, WrongForm, ByteTooLow, WrongSum, TooLong, StartJoined}
use Rattle.writing.specs.Output.{Output, output}
use Rattle.writing.specs.InnerRefusals.{number_of, told}

pub unique : {r r' : Written} {o o' : List ℕ} {x : Output} → output r o ≡ x → output r' o' ≡ x → (r ≡ r') × (o ≡ o')
unique p q = let e = p ∙ sym q in (ap (λ y. y.answer) e, ap (λ y. y.out) e)

-- a number's refusal
abbrev numbered : ℕ → Refusal
numbered n =
    if n is 3 then Unread WrongLength
    else if n is 4 then Unread WrongLead
    else if n is 5 then Unread BadPrintable
    else if n is 6 then Unread BadHeader
    else if n is 7 then Unread BadBody
    else if n is 8 then Unread ReadNotLast
    else if n is 12 then HeadersDiffer
    else if n is 13 then FirstHasRead
    else if n is 14 then NoRoom
    else if n is 15 then WrongForm
    else if n is 16 then ByteTooLow
    else if n is 17 then WrongSum
    else if n is 18 then TooLong
    else StartJoined

numbered-back : (e : Refusal) → numbered (number_of e) ≡ e
numbered-back (Unread WrongLength) = refl
numbered-back (Unread WrongLead) = refl
numbered-back (Unread BadPrintable) = refl
numbered-back (Unread BadHeader) = refl
numbered-back (Unread BadBody) = refl
numbered-back (Unread ReadNotLast) = refl
numbered-back HeadersDiffer = refl
numbered-back FirstHasRead = refl
numbered-back NoRoom = refl
numbered-back WrongForm = refl
numbered-back ByteTooLow = refl
numbered-back WrongSum = refl
numbered-back TooLong = refl
numbered-back StartJoined = refl

-- no refusal is told as 0
number-some : (e : Refusal) → 1 ≤ number_of e
number-some (Unread WrongLength) = lit≤ tt
number-some (Unread WrongLead) = lit≤ tt
number-some (Unread BadPrintable) = lit≤ tt
number-some (Unread BadHeader) = lit≤ tt
number-some (Unread BadBody) = lit≤ tt
number-some (Unread ReadNotLast) = lit≤ tt
number-some HeadersDiffer = lit≤ tt
number-some FirstHasRead = lit≤ tt
number-some NoRoom = lit≤ tt
number-some WrongForm = lit≤ tt
number-some ByteTooLow = lit≤ tt
number-some WrongSum = lit≤ tt
number-some TooLong = lit≤ tt
number-some StartJoined = lit≤ tt

pub number-one : (a b : Refusal) → number_of a ≡ number_of b → a ≡ b
number-one a b e = sym (numbered-back a) ∙ ap numbered e ∙ numbered-back b

pub told-one : (p q : Result ℕ Refusal) → told p ≡ told q → p ≡ q
told-one (Ok n) (Ok k) e = ap (λ (x : ℕ). Ok x) (ap (λ (w : Written). w.length) e)
told-one (Ok n) (Err b) e = let z : 0 ≡ number_of b = ap (λ (w : Written). w.number) e in absurd (omega (arith, z, number-some b))
told-one (Err a) (Ok k) e = let z : number_of a ≡ 0 = ap (λ (w : Written). w.number) e in absurd (omega (arith, z, number-some a))
told-one (Err a) (Err b) e = ap (λ (x : Refusal). Err x) (number-one a b (ap (λ (w : Written). w.number) e))
