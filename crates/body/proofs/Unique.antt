-- One possible outcome: any two that meet a promise of the reader coincide.
use Rattle.std.proofs.Common.{◌≡◌, ℕ, List, sym, ◌∙◌, Bor}
use Rattle.body.specs.Readers.{Opened, Stepped}
use Rattle.body.specs.declared.BlockStep.{BlockStep}
use Rattle.body.specs.declared.reader.Reader.{Reader}

-- readers of one frame at one place are one reader
alike : {r r' : Reader} → r.frame ≡ r'.frame → r.at ≡ r'.at → r ≡ r'
alike p q = λ i. record { frame = p i; at = q i }

-- one reader is made
pub opened-unique : {frame : Bor (List ℕ)} {at : ℕ} {r r' : Reader} → Opened frame at r → Opened frame at r' → r ≡ r'
opened-unique p q = alike (p.holds ∙ sym q.holds) (p.stands ∙ sym q.stands)

-- one answer is given, and one reader is left
pub stepped-unique : {before after after' : Reader} {found found' : BlockStep} → Stepped before after found → Stepped before after' found'
    → (found ≡ found') × (after ≡ after')
stepped-unique p q = (p.taken ∙ sym q.taken, alike (p.holds ∙ sym q.holds) (p.stands ∙ sym q.stands))
