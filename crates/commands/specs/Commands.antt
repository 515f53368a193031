-- The commands A, G, B and H.
use Rattle.std.specs.Prelude.{ℕ, ◌-◌, List, [], ◌∷◌, ◌++◌, length, take, drop, Option, Some, None, if◌then◌else◌}
use Rattle.octets.specs.Choice.{◌isn't◌, ◌<?◌, ◌!◌, front}
use Rattle.octets.specs.Buffer.{zeros, splice}
use Rattle.octets.specs.Bytes.{is_plain}
use Rattle.board.specs.Files.{find}
use Rattle.board.specs.Board.{Board, with_memory, files_on}
use Rattle.effects.specs.Reply.{reply_of}
use Rattle.effects.specs.Effects.{Effect, done, replied, refuse}
use Rattle.board.specs.declared.Content.{Content}

-- the content of a file of the board
abbrev pub find_on : Board → ℕ → ℕ → Option Content
find_on b label kind = find label kind (files_on b) 0

-- "holds the message, zeros after it"
unfoldable pub holding : List ℕ → ℕ → ℕ → List ℕ → List ℕ
holding m start size message = splice m start (message ++ zeros (size - length message))

-- 23 "no file of that label and type", 24 "message longer than SIZE"
unfoldable pub put_message : Board → Option Content → List ℕ → Effect
put_message b None message = refuse 23 b
put_message b (Some c) message =
    if c.size <? length message then refuse 24 b
    else done (with_memory b (holding b.memory c.start c.size message))

-- "A, G: label and message, which may be empty." 22 "data missing"
unfoldable pub write_file : ℕ → Board → List ℕ → Effect
write_file kind b [] = refuse 22 b
write_file kind b (label ∷ message) = put_message b (find_on b label kind) message

-- "The reply carries the content without its zeros." 23 "no file of that label and type"
unfoldable pub get_content : ℕ → Board → ℕ → Option Content → Effect
get_content code b label None = refuse 23 b
get_content code b label (Some c) = replied b (reply_of code label (front is_plain (take c.size (drop c.start b.memory))))

-- "B, H: label alone." 22 "data missing, in excess"
unfoldable pub read_file : ℕ → ℕ → Board → List ℕ → Effect
read_file kind code b d = if length d isn't 1 then refuse 22 b else get_content code b (d ! 0) (find_on b (d ! 0) kind)
