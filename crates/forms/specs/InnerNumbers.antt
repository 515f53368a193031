-- For contracts of inner functions only: the forms by their numbers.
use Rattle.std.specs.Prelude.{ℕ, Result, Ok, Err, if◌then◌else◌}
use Rattle.octets.specs.Choice.{◌is◌}
use Rattle.forms.specs.declared.numbers.Form.{Form}
use Rattle.forms.specs.declared.numbers.Form.TheVariants.{Plain, Summed, Printable}
use Rattle.forms.specs.declared.numbers.NoForm.{NoForm}

-- a form's number
abbrev pub form_number : Form → ℕ
form_number Plain = 1
form_number Summed = 2
form_number Printable = 3

-- the form that has a number
unfoldable pub form_numbered : ℕ → Result Form NoForm
form_numbered n =
    if n is 1 then Ok Plain
    else if n is 2 then Ok Summed
    else if n is 3 then Ok Printable
    else Err record {}
