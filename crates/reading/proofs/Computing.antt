-- The definitions of a reading and of what stands below it, under one name.
use Rattle.octets.specs.Choice.{is_byte, front, behind, all, among, same}
use Rattle.octets.specs.InnerEqual.{equals}
use Rattle.octets.specs.Bytes.{is_nul, is_plain}
use Rattle.octets.specs.Hex.{digit, value, is_hex2, hex2, is_hex4, hex4, in_hex4}
use Rattle.octets.specs.Carried.{capital, capitals}
use Rattle.octets.specs.Decimal.{is_decimal, decimal2, in_decimal2}
use Rattle.octets.specs.Buffer.{zeros, splice, overlay}
use Rattle.header.specs.Addressing.{is_own_type, fit_of, address_fits, pair_fits, any_fits, addressed, starts}
use Rattle.header.specs.Header.{is_pair, is_pairs, is_sole, is_header}
use Rattle.header.specs.Capitals.{capital_at, capitals_from, header_capitals, no_small_from, no_small}
use Rattle.body.specs.Sum.{sum_from, summed, checksum}
use Rattle.body.specs.Body.{follow, after_etx, after_data, block_at, prepend, onward, blocks, is_read, read_not_last, has_read, all_right}
use Rattle.body.specs.Steps.{placed, found_at, blocks_in, is_body}
use Rattle.reading.specs.Translation.{push, translate_from, translate}
use Rattle.reading.specs.Lead.{is_soh, nul_lead, soh_lead, lead_of}
use Rattle.reading.specs.Reading.{not_stx, read_body, read_header, read_led, read_translated, read_printable, read_standard, read}
use Rattle.reading.specs.Capitals.{in_capitals}
use Rattle.reading.specs.Places.{bytes_of, stands_for, behind_lead, header_in, header_place, places_of, read_places, fill, room_after}

-- who unfolds it lets every definition that a reading rests on compute
unfoldable pub reads : Unit {0}
unfolding
    equals is_byte front behind all among same
    is_nul is_plain
    digit value is_hex2 hex2 is_hex4 hex4 in_hex4
    capital capitals
    is_decimal decimal2 in_decimal2
    zeros splice overlay
    is_own_type fit_of address_fits pair_fits any_fits addressed starts
    is_pair is_pairs is_sole is_header
    capital_at capitals_from header_capitals no_small_from no_small
    sum_from summed checksum
    follow after_etx after_data block_at prepend onward blocks is_read read_not_last has_read all_right
    placed found_at blocks_in is_body
    push translate_from translate
    is_soh nul_lead soh_lead lead_of
    not_stx read_body read_header read_led read_translated read_printable read_standard read
    in_capitals
    bytes_of stands_for behind_lead header_in header_place places_of read_places fill room_after
reads = tt
