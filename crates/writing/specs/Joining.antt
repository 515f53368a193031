-- "Joining puts the second frame's blocks after the first's under the common header."
use Rattle.std.specs.Prelude.{ℕ, not, List, ◌++◌, if◌then◌else◌}
use Rattle.octets.specs.Choice.{same}
use Rattle.header.specs.Addressing.{starts}
use Rattle.body.specs.Body.{has_read}
use Rattle.reading.specs.Reading.{Reading, refused, frame, read}
use Rattle.reading.specs.Capitals.{in_capitals}
use Rattle.writing.specs.Output.{Output, is_form, unwritten, put}
use Rattle.writing.specs.Reforming.{checked}

-- what was read of the one and of the other, in a form: 12 "header texts differ"; request 11: 19 "joining a "z" header, straight after
-- 12"; 13 "first frame has a read"
unfoldable pub put_joined : ℕ → Reading → Reading → List ℕ → Output
put_joined form (refused n) second o = unwritten n o
put_joined form (frame h bs) (refused n) o = unwritten n o
put_joined form (frame h bs) (frame g cs) o =
    if not (same h g) then unwritten 12 o
    else if starts h then unwritten 19 o
    else if has_read bs then unwritten 13 o
    else put form h (bs ++ cs) o

-- "Joining: 15, the first input's 3 to 8 and 17, the second's, 12," 19, "13, 18, 14."; request 4, headers that differ only in small letters
-- "count as equal in joining"
unfoldable pub join : ℕ → List ℕ → List ℕ → List ℕ → Output
join form first second o = if not (is_form form) then unwritten 15 o else put_joined form (checked (in_capitals (read first))) (checked (in_capitals (read second))) o
