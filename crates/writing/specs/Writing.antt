-- Writing a one-command frame.
use Rattle.std.specs.Prelude.{ℕ, true, not, ◌&&◌, List, [], ◌∷◌, if◌then◌else◌}
use Rattle.octets.specs.Choice.{all}
use Rattle.header.specs.Header.{is_header}
use Rattle.header.specs.Capitals.{header_capitals}
use Rattle.octets.specs.Bytes.{is_plain}
use Rattle.body.specs.Body.{block}
use Rattle.writing.specs.Output.{Output, is_form, unwritten, put}

-- "Writing: 15, 6, 16, 18, 14": 16 "command or data byte below 05H"; request 4, the "header addresses we write" are in capitals
unfoldable pub write : ℕ → List ℕ → ℕ → List ℕ → List ℕ → Output
write form h c d o =
    if not (is_form form) then unwritten 15 o
    else if not (is_header h) then unwritten 6 o
    else if not (is_plain c && all is_plain d) then unwritten 16 o
    else put form (header_capitals h) (block c d true ∷ []) o
