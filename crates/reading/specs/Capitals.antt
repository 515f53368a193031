-- A reading hands the header text on as it was received; its capitals are what re-forming and joining compare and write.
use Rattle.header.specs.Capitals.{header_capitals}
use Rattle.reading.specs.Reading.{Reading, refused, frame}

-- what was read, the header in capitals: request 4, "Headers that differ only in this count as equal in joining and in demand 2."
unfoldable pub in_capitals : Reading → Reading
in_capitals (refused n) = refused n
in_capitals (frame h bs) = frame (header_capitals h) bs
