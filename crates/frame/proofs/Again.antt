-- Re-forming changes no reading but for small letters in its header, so that what is done with a frame can as well be done with another form of it.
use mathlib.Core.Path.{◌≡◌, refl, sym, ap, ◌∙◌}
use mathlib.Core.Bool.{true}
use mathlib.Core.List.{List}
use Prim.Native.Nat.{ℕ}
use Rattle.octets.specs.Choice.{is_byte, all}
use Rattle.reading.specs.Reading.{read}
use Rattle.reading.specs.Capitals.{in_capitals}
use Rattle.reading.proofs.InCapitals.{capitals-again}
use Rattle.writing.specs.Reforming.{reform}
use Rattle.writing.specs.Joining.{join}
use Rattle.frame.specs.Results.{result_of}
use Rattle.frame.proofs.Delivered.{reform-reads}

-- re-forming depends on what its input reads as, its header in capitals
pub reform-same : (k : ℕ) (s t o : List ℕ) → in_capitals (read s) ≡ in_capitals (read t) → reform k s o ≡ reform k t o
unfolding reform
reform-same k s t o e = rw e

-- and so does joining
pub join-same : (k : ℕ) (f g f' g' o : List ℕ) → in_capitals (read f) ≡ in_capitals (read f') → in_capitals (read g) ≡ in_capitals (read g')
    → join k f g o ≡ join k f' g' o
unfolding join
join-same k f g f' g' o p q = rw (p, q)

-- a frame in another form
module _ (j : ℕ) (s o : List ℕ) (a : all is_byte s ≡ true) (z : (reform j s o).answer.number ≡ 0) where
  -- it reads as before, its header in capitals
  pub reform-keeps : read (result_of (reform j s o)) ≡ in_capitals (read s)
  reform-keeps = let x = reform-reads j s o a z in x.result.reads ∙ sym x.given.reads

  alike : in_capitals (read (result_of (reform j s o))) ≡ in_capitals (read s)
  alike = ap in_capitals reform-keeps ∙ capitals-again (read s)

  -- to re-form it is to re-form the frame
  pub reform-reform : (k : ℕ) (o' : List ℕ) → reform k (result_of (reform j s o)) o' ≡ reform k s o'
  reform-reform k o' = reform-same k (result_of (reform j s o)) s o' alike

  -- to join it with a frame behind it is to join the frame
  pub join-reformed-first : (k : ℕ) (g o' : List ℕ) → join k (result_of (reform j s o)) g o' ≡ join k s g o'
  join-reformed-first k g o' = join-same k (result_of (reform j s o)) g s g o' alike refl

  -- and so with a frame before it
  pub join-reformed-second : (k : ℕ) (f o' : List ℕ) → join k f (result_of (reform j s o)) o' ≡ join k f s o'
  join-reformed-second k f o' = join-same k f (result_of (reform j s o)) f s o' refl alike
