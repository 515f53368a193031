-- When two frames are joined: the reasons that document 01, and request 11, name against it, each denied.
use Rattle.std.specs.Prelude.{◌≡◌, true, false, List, ◌++◌, ℕ, ◌≤◌, length}
use Rattle.header.specs.Addressing.{starts}
use Rattle.body.specs.Body.{Block, has_read}
use Rattle.forms.specs.Forms.{render}
use Rattle.writing.specs.Output.{is_form, is_over}
use Rattle.frame.specs.Results.{Sure}

-- a form (15), two frames that read (3 to 8) under one header, in capitals (12), with right sums or none (17), not of type "z" (19), no read
-- in the first (13), a result within the limits (18), room for it (14)
pub record Joinable (k : ℕ) (f g o : List ℕ) : Type 0 where
  pub form : is_form k ≡ true
  pub header : List ℕ
  pub first : List Block
  pub second : List Block
  pub one : Sure f header first
  pub other : Sure g header second
  pub ordinary : starts header ≡ false
  pub calm : has_read first ≡ false
  pub within : is_over k header (first ++ second) ≡ false
  pub room : length (render k header (first ++ second)) ≤ length o
