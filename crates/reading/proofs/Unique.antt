-- A reading has one outcome.
use mathlib.Core.Path.{◌≡◌, refl, sym, ap, ◌∙◌}
use mathlib.Core.List.{List}
use Prim.Native.Nat.{ℕ}
use Rattle.std.specs.Prelude.{Result, Ok, Err, if◌then◌else◌}
use Rattle.octets.specs.Choice.{◌is◌}
use Rattle.reading.specs.Places.{number_of, numbered, Reads}
use Rattle.reading.specs.declared.Read.{Read}
use Rattle.reading.specs.declared.Refusal.{Refusal}
use Rattle.reading.specs.declared.Refusal.TheVariants.{WrongLength, WrongLead, BadPrintable, BadHeader, BadBody, ReadNotLast}

-- the refusal that has a number
refusal_of : ℕ → Refusal
refusal_of n =
    if n is 3 then WrongLength
    else if n is 4 then WrongLead
    else if n is 5 then BadPrintable
    else if n is 6 then BadHeader
    else if n is 7 then BadBody
    else ReadNotLast

numbered-back : (e : Refusal) → refusal_of (number_of e) ≡ e
unfolding refusal_of
numbered-back WrongLength = refl
numbered-back WrongLead = refl
numbered-back BadPrintable = refl
numbered-back BadHeader = refl
numbered-back BadBody = refl
numbered-back ReadNotLast = refl

-- no two refusals have one number
pub number-one : (e f : Refusal) → number_of e ≡ number_of f → e ≡ f
number-one e f n = sym (numbered-back e) ∙ ap refusal_of n ∙ numbered-back f

pub numbered-one : {A : Type 0} (r q : Result A Refusal) → numbered r ≡ numbered q → r ≡ q
numbered-one (Ok x) (Ok y) n = let z : x ≡ y = cc in ap Ok z
numbered-one (Ok x) (Err f) n = absurd (cc)
numbered-one (Err e) (Ok y) n = absurd (cc)
numbered-one (Err e) (Err f) n = let z : number_of e ≡ number_of f = cc in ap Err (number-one e f z)

pub unique : {s room a a' : List ℕ} {r r' : Result Read Refusal} → Reads s room r a → Reads s room r' a' → (r ≡ r') × (a ≡ a')
unique {r} {r'} p q = (numbered-one r r' (p.places ∙ sym q.places), p.left ∙ sym q.left)
