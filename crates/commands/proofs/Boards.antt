-- What an index answers that belongs with memory to a sound board: what is found on every such board, inside memory.
use Prim.Native.Nat.{ℕ, ◌+◌, ◌≤◌}
use mathlib.Core.Path.{◌≡◌, sym, ap₂, ◌∙◌, subst}
use mathlib.Core.List.{List}
use lib.ListN.{length}
use Rattle.std.specs.Prelude.{Option, Some}
use Rattle.board.specs.Index.{look_up}
use Rattle.board.specs.InnerNoted.{Within}
use Rattle.board.specs.Board.{Board}
use Rattle.board.specs.declared.Content.{Content}
use Rattle.board.proofs.Inside.{sound-held, sound-found, sound-within, found_inside}
use Rattle.commands.specs.Commands.{find_on}
use Rattle.commands.specs.InnerDoing.{Indexed, OfBoard}

module _ {p m : List ℕ} where
  -- f is what the index answers, and so what is found
  pub found-on : (label kind : ℕ) (f : Option Content) → f ≡ look_up p m label kind → (b : Board) → Indexed p m b → f ≡ find_on b label kind
  found-on label kind f a b i =
      a ∙ ap₂ (λ (q n : List ℕ). look_up q n label kind) (sym i.index) (sym i.memory) ∙ sound-found b i.sound label kind

  module _ (h : OfBoard p m) where
    abbrev b : Board
    b = h.some

    pub of-within : (label : ℕ) → Within p m label
    of-within label =
        subst (λ (n : List ℕ). Within p n label) h.indexed.memory
        (subst (λ (q : List ℕ). Within q b.memory label) h.indexed.index (sound-within b h.indexed.sound label))

    pub of-inside : (label kind : ℕ) (f : Option Content) → f ≡ look_up p m label kind → (x : Content) → f ≡ Some x → x.start + x.size ≤ length m
    of-inside label kind f a x e =
        subst (λ (n : List ℕ). x.start + x.size ≤ length n) h.indexed.memory
        (found_inside b.memory b.settings.files label kind x.start x.size f (sound-held b h.indexed.sound) (found-on label kind f a b h.indexed) e)
