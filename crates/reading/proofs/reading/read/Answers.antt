use Rattle.reading.proofs.Rooms.{readings}
use Rattle.reading.proofs.reading.read.Goals as goal

pub returns-else-is_printable : goal.returns-else-is_printable
returns-else-is_printable c = search readings
