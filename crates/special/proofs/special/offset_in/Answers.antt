use Rattle.special.proofs.Settles.{offsetting}
use Rattle.special.proofs.special.offset_in.Goals as goal

pub returns-then-not-is_signed_digit : goal.returns-then-not-is_signed_digit
returns-then-not-is_signed_digit c = search offsetting

pub bounds-d-0 : goal.bounds-d-0
bounds-d-0 c = search offsetting

pub bounds-d-1 : goal.bounds-d-1
bounds-d-1 c = search offsetting

pub signed_digit-requires : goal.signed_digit-requires
signed_digit-requires c = search offsetting

pub returns : goal.returns
returns c = search offsetting
