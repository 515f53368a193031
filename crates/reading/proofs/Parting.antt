-- Where header and body of the bytes that a frame stands for start.
use mathlib.Core.Path.{◌≡◌, refl, sym, ap, ◌∙◌}
use mathlib.Core.Bool.{Bool, true, false, not}
use mathlib.Core.List.{List, [], ◌∷◌}
use Prim.Native.Nat.{ℕ, ◌+◌, ◌-◌, ◌≤◌}
use native.Mathlib.Nat.{zero-add}
use native.Mathlib.Omega.{arith}
use borrow.Author.Rules.{rules}
use lib.ListN.{length, take, drop, length-drop, drop_of_length-le}
use lib.Seq.{drop-drop}
use Rattle.std.specs.Prelude.{Option, Some, None, Result, Ok, Err, if◌then◌else◌, position}
use Rattle.std.specs.List.{position_from}
use Rattle.std.proofs.lemmas.Iterator.Adapters.{position_from-zero}
use Rattle.octets.specs.Choice.{◌is◌, ◌isn't◌, ◌<?◌, ◌!◌, none, front, behind, part}
use Rattle.octets.specs.Bytes.{NUL, SOH, STX, BLOCKS, is_nul}
use Rattle.octets.proofs.Spots.{tail-whole}
use Rattle.octets.proofs.Tests.{compare, by-test, choice}
use Rattle.octets.proofs.Places.{take-front, drop-front}
use Rattle.header.specs.Header.{is_header}
use Rattle.body.specs.Body.{Body, bad_body, body, blocks, read_not_last}
use Rattle.body.specs.InnerSurveying.{surveyed, known, number_of as body_number}
use Rattle.body.specs.declared.surveying.Survey.{Survey}
use Rattle.body.specs.declared.surveying.Refusal.{Refusal as BodyRefusal}
use Rattle.body.specs.declared.surveying.Refusal.TheVariants.{BadBody, ReadNotLast}
use Rattle.reading.specs.Lead.{Led, misled, led, is_soh, fewest_nul, fewest_soh, nul_lead, soh_lead, lead_of}
use Rattle.reading.specs.Reading.{not_stx, read_body, read_header, read_led}
use Rattle.reading.specs.Places.{number_of, numbered, behind_lead, header_in}
use Rattle.reading.specs.InnerParts.{lead_end, parts_at, part_places}
use Rattle.reading.specs.declared.Refusal.{Refusal}
use Rattle.reading.specs.declared.Refusal.TheVariants.{WrongLead, BadHeader}
use Rattle.reading.specs.declared.reading.Parts.{Parts}

-- ---- the first STX

-- how many bytes stand before it, where there is one
from-front : (i : ℕ) (l : List ℕ) → position_from (λ x. x is STX) i l ≡ (if none (behind not_stx l) then None else Some (i + length (front not_stx l)))
unfolding front behind not_stx
from-front i [] = refl
from-front i (x ∷ l) =
    by-test (x is STX)
    (λ e. rw e (ap Some (omega arith)))
    (λ e. rw (e, from-front (i + 1) l) (by-test (none (behind not_stx l)) (λ f. rw f) (λ f. rw f (ap Some (omega arith)))))

position-front : (l : List ℕ) → position (λ x. x is STX) l ≡ (if none (behind not_stx l) then None else Some (length (front not_stx l)))
position-front l = position_from-zero (λ x. x is STX) l ∙ from-front 0 l ∙ rw (zero-add (length (front not_stx l)))

-- ---- header and body behind a lead

module _ (t : List ℕ) (header place : ℕ) (e : place ≡ header + length (front not_stx (drop header t))) where
  pub head-text : front not_stx (drop header t) ≡ part header place t
  head-text =
      let z : place - header ≡ length (front not_stx (drop header t)) = omega arith in
      sym (rw z (take-front not_stx (drop header t)))

  pub rest_from : behind not_stx (drop header t) ≡ drop place t
  rest_from = sym (drop-front not_stx (drop header t)) ∙ rw (drop-drop, ← e)

-- a body that was walked
module _ (at : ℕ) (h : List ℕ) where
  body-bad : (x : Body) (e : BodyRefusal) → surveyed x ≡ Err e → (n : ℕ) → n ≡ body_number e → Err n ≡ parts_at at (read_body h x)
  unfolding surveyed read_body parts_at
  body-bad bad_body e f n g = let z : BadBody ≡ e = cc in ap Err (g ∙ rw (← z))
  body-bad (body bs) e f n g =
      by-test (read_not_last false bs)
      (λ y. let z : ReadNotLast (known bs) ≡ e = early (rw y at f) in rw y (ap Err (g ∙ rw (← z))))
      (λ y. never-bad (rw y at f))
    where
      early : {k : Survey} → ◌≡◌ {A = Result Survey BodyRefusal} (Err (ReadNotLast k)) (Err e) → ReadNotLast k ≡ e
      early d = cc

      never-bad : {X : Type 0} {v : Survey} → ◌≡◌ {A = Result Survey BodyRefusal} (Ok v) (Err e) → X
      never-bad d = absurd (cc)

  body-good : (x : Body) (v : Survey) → surveyed x ≡ Ok v → Ok (record { header = at; body = at + length h; seen = v }) ≡ parts_at at (read_body h x)
  unfolding surveyed read_body parts_at
  body-good bad_body v f = absurd (cc)
  body-good (body bs) v f =
      by-test (read_not_last false bs) (λ y. never-good (rw y at f)) (λ y. rw y (ap (λ (w : Survey). Ok (record { header = at; body = at + length h; seen = w })) (sym (same (rw y at f)))))
    where
      never-good : {X : Type 0} {e : BodyRefusal} → ◌≡◌ {A = Result Survey BodyRefusal} (Err e) (Ok v) → X
      never-good d = absurd (cc)

      same : {w : Survey} → ◌≡◌ {A = Result Survey BodyRefusal} (Ok w) (Ok v) → w ≡ v
      same d = cc

module _ (t : List ℕ) (header : ℕ) (r : Option ℕ) (e : r ≡ position (λ x. x is STX) (take (length t - header) (drop header t))) where
  before : r ≡ (if none (behind not_stx (drop header t)) then None else Some (length (front not_stx (drop header t))))
  before = e ∙ rw (tail-whole t header, position-front (drop header t))

  pub led-none : r ≡ None → numbered {A = Parts} (Err BadHeader) ≡ parts_at header (read_led (led (drop header t)))
  unfolding read_led read_header parts_at
  led-none f = by-test (none (behind not_stx (drop header t))) (λ y. rw y) (λ y. never-none (rw y at (sym f ∙ before)))
    where
      never-none : {X : Type 0} {n : ℕ} → None ≡ Some n → X
      never-none d = absurd (cc)

  module _ (n : ℕ) (f : r ≡ Some n) where
    there : (none (behind not_stx (drop header t)) ≡ false) × (length (front not_stx (drop header t)) ≡ n)
    there = by-test (none (behind not_stx (drop header t))) (λ y. never-some (rw y at (sym f ∙ before))) (λ y. (y, sym (same (rw y at (sym f ∙ before)))))
      where
        never-some : {X : Type 0} → Some n ≡ None → X
        never-some d = absurd (cc)

        same : {m : ℕ} → Some n ≡ Some m → n ≡ m
        same d = cc

    place : header + n ≡ header + length (front not_stx (drop header t))
    place = rw there.1

    read_here : read_led (led (drop header t)) ≡ read_header (part header (header + n) t) (drop (header + n) t)
    unfolding read_led
    read_here = rw (head-text t header (header + n) place, rest_from t header (header + n) place)

    more : none (drop (header + n) t) ≡ false
    more = rw (← rest_from t header (header + n) place) there.0

    module _ (b : Bool) (g : b ≡ is_header (part header (header + n) t)) where
      pub led-header : not b ≡ true → numbered {A = Parts} (Err BadHeader) ≡ parts_at header (read_led (led (drop header t)))
      unfolding read_header parts_at
      led-header d = rw (read_here, more, ← g, d)

      module _ (d : not b ≡ false) (q : Result Survey BodyRefusal) (k : q ≡ surveyed (blocks BLOCKS (drop (header + n) t))) where
        read-on : read_led (led (drop header t)) ≡ read_body (part header (header + n) t) (blocks BLOCKS (drop (header + n) t))
        unfolding read_header
        read-on = rw (read_here, more, ← g, d)

        pub led-body : (x : BodyRefusal) → q ≡ Err x → (y : Refusal) → number_of y ≡ body_number x → numbered {A = Parts} (Err y) ≡ parts_at header (read_led (led (drop header t)))
        led-body x m y w = rw read-on (body-bad header (part header (header + n) t) (blocks BLOCKS (drop (header + n) t)) x (sym k ∙ m) (number_of y) w)

        moved : {v : Survey} {k m : ℕ} → k ≡ m
            → ◌≡◌ {A = Result Parts ℕ} (Ok (record { header = header; body = header + m; seen = v })) (Ok (record { header = header; body = header + k; seen = v }))
        moved z = rw z

        pub led-good : (v : Survey) → q ≡ Ok v → numbered (Ok (record { header = header; body = header + n; seen = v })) ≡ parts_at header (read_led (led (drop header t)))
        led-good v m =
            let z : length (part header (header + n) t) ≡ n = rw (← head-text t header (header + n) place) there.1 in
            rw read-on (moved z ∙ body-good header (part header (header + n) t) (blocks BLOCKS (drop (header + n) t)) v (sym k ∙ m))

pub ruleset leading = (led-none, led-header, led-body, led-good, rules)

-- ---- lead, header and body

-- l is the end of t
pub record Ends (t l : List ℕ) : Type 0 where
  pub within : length l ≤ length t
  pub tail : l ≡ drop (length t - length l) t

ends-drop : (t : List ℕ) (n : ℕ) → Ends t (drop n t)
ends-drop t n =
    record {
      within = simp length-drop (omega arith);
      tail =
          compare n (length t)
          (λ h. let z : length t - (length t - n) ≡ n = omega arith in simp (length-drop, z))
          (λ h. let z : length t ≤ length t - 0 = omega arith in rw (drop_of_length-le t h, drop_of_length-le t z));
    }

abbrev pub EndsLed : List ℕ → Led → Type 0
EndsLed t misled = Unit {0}
EndsLed t (led l) = Ends t l

-- what stands behind a lead is the end of the bytes
pub lead-ends : (printable : Bool) (t : List ℕ) → EndsLed t (lead_of printable t)
unfolding lead_of nul_lead soh_lead
lead-ends printable t =
    choice (EndsLed t) (t ! 0 is NUL)
    (λ e. choice (EndsLed t) (length (front is_nul t) <? fewest_nul printable) (λ f. tt)
    (λ f. choice (EndsLed t) (behind is_nul t ! 0 isn't SOH) (λ g. tt)
    (λ g. rw (← drop-front is_nul t, drop-drop) (ends-drop t (length (front is_nul t) + 1)))))
    (λ e. choice (EndsLed t) (length (front is_soh t) <? fewest_soh printable) (λ f. tt)
    (λ f. rw (← drop-front is_soh t) (ends-drop t (length (front is_soh t)))))

module _ (printable : Bool) (t : List ℕ) (r : Option ℕ) (e : r ≡ lead_end t (lead_of printable t)) where
  pub parts-wrong : r ≡ None → numbered {A = Parts} (Err WrongLead) ≡ part_places printable t (read_led (lead_of printable t))
  unfolding lead_end read_led parts_at
  parts-wrong f = go (lead_of printable t) (sym e ∙ f)
    where
      go : (x : Led) → lead_end t x ≡ None → numbered {A = Parts} (Err WrongLead) ≡ part_places printable t (read_led x)
      go misled d = refl
      go (led l) d = absurd (cc)

  module _ (header : ℕ) (f : r ≡ Some header) where
    found : (lead_of printable t ≡ led (drop header t)) × (header ≤ length t)
    unfolding lead_end
    found = go (lead_of printable t) (lead-ends printable t) (sym e ∙ f)
      where
        go : (x : Led) → EndsLed t x → lead_end t x ≡ Some header → (x ≡ led (drop header t)) × (header ≤ length t)
        go misled w d = absurd (cc)
        go (led l) w d = let z : length t - length l ≡ header = cc in (rw (← z) (ap led w.tail), omega arith)

    pub parts-inside : header ≤ length t
    parts-inside = found.1

    header_at : header_in printable t ≡ header
    unfolding header_in behind_lead
    header_at = let k = found.1 in rw (found.0, length-drop) (omega arith)

    pub parts-good : (q : Result Parts Refusal) → numbered q ≡ parts_at header (read_led (led (drop header t))) → numbered q ≡ part_places printable t (read_led (lead_of printable t))
    parts-good q g = g ∙ rw (header_at, found.0)

pub ruleset parting = (parts-wrong, parts-inside, parts-good, rules)
