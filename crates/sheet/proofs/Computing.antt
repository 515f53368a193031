-- The definitions of the base, under one name.
use Rattle.dates.specs.Calendar.{february, month_length, is_date}
use Rattle.temperature.specs.Offset.{is_signed_digit, signed_digit, is_offset}
use Rattle.register.specs.Register.{is_register}
use Rattle.board.specs.Settings.{in_range}
use Rattle.board.specs.Files.{size_of, taken, files_of, heads, used, unused, labels, distinct, is_at, find}
use Rattle.board.specs.Kinds.{kind_of, is_size_of, is_start_code, is_stop_code, is_codes_of}
use Rattle.board.specs.Index.{entry, names_each, names_no_other, is_index, entered, index_of}
use Rattle.board.specs.Soundness.{is_label, is_protection, is_size, is_codes, is_record, is_content, is_file_at, holds_files, sound_memory, keeps_true, sound}
use Rattle.effects.specs.Reply.{reply_of, reply_room}
use Rattle.effects.specs.Recording.{fault_noted}
use Rattle.commands.specs.Commands.{holding, put_message, write_file, get_content, read_file}
use Rattle.configuration.specs.Capitals.{capitals_from}
use Rattle.configuration.specs.Records.{is_records, labels_in, needed_by, needed, refusal, size_in, with_size, laid}
use Rattle.configuration.specs.Configuration.{replaced, replace, configure}
use Rattle.configuration.specs.Starting.{start_record, start_records, start_list, started}
use Rattle.special.specs.Special.{set_time, set_speaker, set_format, set_date, set_address, set_offset, clear_errors, set_by, write_special, tell_time, tell_date, tell_speaker, tell_pool, is_told, tell, after_told, read_special}
use Rattle.commands.specs.Blocks.{command, do_block, run_block}
use Rattle.sign.specs.Run.{count, measure, onto, run_blocks, begun, run_frame, run}
use Rattle.sign.specs.Fresh.{fresh}
use Rattle.frame.proofs.Computing.{writes}

-- who unfolds it lets every definition of the base compute
unfoldable pub base : Unit {0}
unfolding
    writes
    february month_length is_date
    is_signed_digit signed_digit is_offset
    is_register
    in_range
    size_of taken files_of heads used unused labels distinct is_at find
    kind_of is_size_of is_start_code is_stop_code is_codes_of
    entry names_each names_no_other is_index entered index_of
    is_label is_protection is_size is_codes is_record is_content is_file_at holds_files sound_memory keeps_true sound
    reply_of reply_room fault_noted
    holding put_message write_file get_content read_file
    capitals_from is_records labels_in needed_by needed refusal size_in with_size laid replaced replace configure
    start_record start_records start_list started
    set_time set_speaker set_format set_date set_address set_offset clear_errors set_by write_special
    tell_time tell_date tell_speaker tell_pool is_told tell after_told read_special
    command do_block run_block
    count measure onto run_blocks begun run_frame run
    fresh
base = tt
