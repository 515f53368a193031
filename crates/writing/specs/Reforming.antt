-- Putting a frame into another form.
use Rattle.std.specs.Prelude.{ℕ, not, List, if◌then◌else◌}
use Rattle.body.specs.Body.{all_right}
use Rattle.reading.specs.Reading.{Reading, refused, frame, read}
use Rattle.reading.specs.Capitals.{in_capitals}
use Rattle.writing.specs.Output.{Output, is_form, unwritten, put}

-- 17 "input has a wrong checksum"
unfoldable pub checked : Reading → Reading
checked (refused n) = refused n
checked (frame h bs) = if all_right bs then frame h bs else refused 17

-- what was read, in a form
unfoldable pub put_read : ℕ → Reading → List ℕ → Output
put_read form (refused n) o = unwritten n o
put_read form (frame h bs) o = put form h bs o

-- "Re-forming: 15, 3 to 8 in the run's order, 17, 18, 14."; request 4, the "header addresses we write" are in capitals
unfoldable pub reform : ℕ → List ℕ → List ℕ → Output
reform form s o = if not (is_form form) then unwritten 15 o else put_read form (checked (in_capitals (read s))) o
