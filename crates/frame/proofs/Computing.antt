-- The definitions of the frame layer, under one name.
use Rattle.forms.specs.Forms.{plain_rest, plain_body, summed_body, nuls, body_in, form_of, is_itself, escape, render}
use Rattle.writing.specs.Output.{is_over, put_number, put}
use Rattle.writing.specs.Writing.{write}
use Rattle.writing.specs.Reforming.{checked, put_read, reform}
use Rattle.writing.specs.Joining.{put_joined, join}
use Rattle.reading.proofs.Computing.{reads}

-- who unfolds it lets every definition of the frame layer compute
unfoldable pub writes : Unit {0}
unfolding
    reads
    plain_rest plain_body summed_body nuls body_in form_of is_itself escape render
    is_over put_number put
    write
    checked put_read reform
    put_joined join
writes = tt
