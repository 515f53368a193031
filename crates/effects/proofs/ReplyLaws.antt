-- A reply put around its data, part by part.
use Prim.Native.Nat.{ℕ, ◌+◌, ◌-◌, ◌<◌, ◌≤◌}
use mathlib.Core.Path.{◌≡◌, refl, sym, ap, ◌∙◌}
use mathlib.Core.List.{List, [], ◌∷◌, ◌++◌, append_assoc}
use native.Mathlib.Numerals.{add-one}
use native.Mathlib.Omega.{arith}
use borrow.Author.Rules.{rules}
use lib.ListN.{length, take, drop, set, length-append, length-take, length-drop}
use lib.Seq.{take_at}
use Rattle.octets.specs.Hex.{in_hex4}
use Rattle.octets.specs.Buffer.{zeros, splice, overlay}
use Rattle.octets.specs.Bytes.{SOH, STX, ETX, EOT, ZERO}
use Rattle.octets.proofs.Buffers.{length-splice}
use Rattle.body.specs.Sum.{summed, checksum}
use Rattle.buffers.proofs.Splices.{splice-next, overlay-splice, overlay-append, overlay-there}
use Rattle.buffers.proofs.Stores.{store-one, length-in_hex4}
use Rattle.effects.specs.Reply.{reply_of}
use Rattle.effects.specs.InnerLeaving.{reply_lead, reply_tail, Replied}
use Rattle.effects.proofs.ReplyLengths.{reply-length}

-- ---- what stands before the data

lead-length : (code label : ℕ) → length (reply_lead code label) ≡ 27
unfolding reply_lead zeros
lead-length code label = refl

pub lead-put : (out a b : List ℕ) (code label : ℕ) → a ≡ splice out 0 (zeros 20) → b ≡ splice a 20 (SOH ∷ ZERO ∷ ZERO ∷ ZERO ∷ STX ∷ code ∷ label ∷ []) →
    b ≡ overlay out (reply_lead code label)
unfolding reply_lead
lead-put out a b code label p q =
    let h = SOH ∷ ZERO ∷ ZERO ∷ ZERO ∷ STX ∷ code ∷ label ∷ [] in
    q ∙ ap (λ l. splice l 20 h) (p ∙ sym (overlay-splice out (zeros 20))) ∙ overlay-append out (zeros 20) h 20 (unfold zeros in refl)

-- ---- what stands behind them

module _ (out : List ℕ) (k : ℕ) (h : k + 6 ≤ length out) where
  pub tail-put : (a b c : List ℕ) (sum : ℕ) → a ≡ set out k ETX → b ≡ splice a (k + 1) (in_hex4 sum) → c ≡ set b (k + 5) EOT → c ≡ splice out k (reply_tail sum)
  unfolding reply_tail
  tail-put a b c sum p q r =
      let e = ETX ∷ [] in
      let x : b ≡ splice out k (e ++ in_hex4 sum) =
      q ∙ ap (λ l. splice l (k + 1) (in_hex4 sum)) (p ∙ store-one out k ETX (omega arith)) ∙ splice-next out k e (in_hex4 sum) (k + 1) (omega arith) refl in
      let n : length (e ++ in_hex4 sum) ≡ 5 = rw (length-append, length-in_hex4) in
      let m : k + length (e ++ in_hex4 sum) ≤ length out = rw n (omega arith) in
      let i : k + 5 < length b = rw (x, length-splice out k (e ++ in_hex4 sum) m) (omega arith) in
      r ∙ store-one b (k + 5) EOT i ∙ ap (λ l. splice l (k + 5) (EOT ∷ [])) x ∙ splice-next out k (e ++ in_hex4 sum) (EOT ∷ []) (k + 5) m (rw n)

-- ---- the reply

-- a reply by its parts
reply-parts : (code label : ℕ) (d : List ℕ) → reply_lead code label ++ d ++ reply_tail (checksum code (label ∷ d)) ≡ reply_of code label d
unfolding reply_lead reply_tail zeros reply_of summed
reply-parts code label d =
    let s = in_hex4 (checksum code (label ∷ d)) in
    ap (λ l. reply_lead code label ++ l) (sym (append_assoc (d ++ (ETX ∷ [])) s (EOT ∷ []) ∙ append_assoc d (ETX ∷ []) (s ++ (EOT ∷ []))))

-- bytes that stand there already, by their place
there : (d a : List ℕ) (k n : ℕ) → length a ≡ k → k + n ≤ length d → overlay d a ≡ overlay d (a ++ take n (drop k d))
there d a k n e h = rw (← e) (sym (overlay-there d a n (rw e h)))

-- the label and the data, in the buffer
label-data : (out : List ℕ) (code label n : ℕ) (d : List ℕ) → length d ≡ n → take (27 + n - 26) (drop 26 (overlay out (reply_lead code label ++ d))) ≡ label ∷ d
unfolding overlay reply_lead zeros
label-data out code label n d e =
    let k : 27 + n - 26 ≡ n + 1 = omega arith in
    rw (k, add-one n) (ap (λ l. label ∷ l) (take_at d _ n e))

module _ (out : List ℕ) (code label n : ℕ) (h : n + 33 ≤ length out) where
  abbrev content : List ℕ
  content = take n (drop 27 out)

  content-length : length (take n (drop 27 out)) ≡ n
  content-length = simp (length-take, length-drop) (omega arith)

  pub reply-put : (a b : List ℕ) (sum : ℕ) → a ≡ overlay out (reply_lead code label) → sum ≡ checksum code (take (27 + n - 26) (drop 26 a)) → b ≡ splice a (27 + n) (reply_tail sum) →
      Replied out code label (take n (drop 27 out)) b (27 + n + 6)
  reply-put a b sum p q r =
      let before = reply_lead code label ++ content in
      let before-length : length before ≡ 27 + n = rw (length-append, lead-length, content-length) in
      let stands : a ≡ overlay out before = p ∙ there out (reply_lead code label) 27 n (lead-length code label) (omega arith) in
      let right : sum ≡ checksum code (label ∷ content) =
      q ∙ ap (λ l. checksum code (take (27 + n - 26) (drop 26 l))) stands ∙ ap (checksum code) (label-data out code label n content content-length) in
      record {
        stored = r ∙ rw (stands, right) (overlay-append out before (reply_tail (checksum code (label ∷ content))) (27 + n) (sym before-length) ∙ ap (overlay out) (reply-parts code label content));
        long = sym (reply-length code label content ∙ rw content-length (omega arith));
      }

pub ruleset around = (lead-put, tail-put, reply-put, rules)
