-- The answer to the question whether the sign ends up after notices packed into one transmission as it would after separate ones.
use Prim.Native.Nat.{ℕ}
use mathlib.Core.Path.{◌≡◌, sym, ap, ◌∙◌, subst}
use mathlib.Core.Bool.{true}
use mathlib.Core.List.{List, ◌++◌}
use Rattle.body.specs.Body.{Block}
use Rattle.header.specs.Capitals.{header_capitals}
use Rattle.reading.specs.Reading.{frame, read}
use Rattle.reading.specs.Capitals.{in_capitals}
use Rattle.frame.specs.Results.{Joined}
use Rattle.frame.proofs.Delivered.{capital-reads, same_blocks}
use Rattle.frame.proofs.ReadBack.{joined_back}
use Rattle.board.specs.Board.{Board}
use Rattle.sign.specs.Run.{Outcome, run}
use Rattle.packing.specs.Packed.{Joining, sets_no_address, SameAsInTurn}
use Rattle.packing.proofs.Adding.{Packed}
use Rattle.packing.proofs.PackingLaws.{packing, packing-unless-set, from-packed}

-- what was joined, and what the joined frame reads as
module _ (k : ℕ) (f g j : List ℕ) (w : Joining k f g j) where
  w-joined : Joined k f g w.left
  w-joined = joined_back w.left k f g w.before w.first-bytes w.second-bytes w.promise w.zero

  w-reads : in_capitals (read j) ≡ frame w-joined.header (w-joined.first ++ w-joined.second)
  w-reads =
      let p = w-joined in
      ap (λ (l : List ℕ). in_capitals (read l)) w.result ∙ capital-reads k p.header (p.first ++ p.second) w.left p.result

-- x after the first frame, y after the second on what x left, z after the joined frame: any outcomes that meet the calls' promises
module _ (k : ℕ) (f g j : List ℕ) (w : Joining k f g j) (b : Board) (o : List ℕ) (x y z : Outcome) (one : x ≡ run b o f)
    (other : y ≡ run x.after x.reply g) (both : z ≡ run b o j) where
  -- what the definitions say of the three runs, these do
  promised : Packed b o f g j → SameAsInTurn x y z
  promised p = rw (both, other, one) (from-packed b o f g j p)

  -- the answer is yes, if the first run left the serial address as it was
  pub packed : x.after.settings.address ≡ b.settings.address → SameAsInTurn x y z
  packed still =
      let p = w-joined k f g j w in
      promised
      (packing b o f g j p.header p.first p.second (w-reads k f g j w) p.one.reads p.other.reads p.ordinary
      (sym (ap (λ (q : Outcome). q.after.settings.address) one) ∙ still))

  -- so it is yes, if the first frame holds no command to set the serial address
  pub packed-unless-set : (h : List ℕ) (bs : List Block) → read f ≡ frame h bs → sets_no_address bs ≡ true → SameAsInTurn x y z
  packed-unless-set h bs r n =
      let p = w-joined k f g j w in
      let e : bs ≡ p.first = same_blocks f (header_capitals h) p.header bs p.first (unfold in_capitals in ap in_capitals r) p.one.reads in
      promised
      (packing-unless-set b o f g j p.header p.first p.second (w-reads k f g j w) p.one.reads p.other.reads p.ordinary
      (subst (λ (l : List Block). sets_no_address l ≡ true) e n))
