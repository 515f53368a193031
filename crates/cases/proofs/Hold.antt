-- Every number is answered where the tables say so and not by its neighbour; every witness shows what it should. By computing.
use mathlib.Core.Path.{◌≡◌, refl}
use mathlib.Core.Bool.{true}
use Rattle.dates.specs.Calendar.{february, month_length, is_date}
use Rattle.signed.specs.Floor.{floor_div, floor_mod}
use Rattle.renewal.specs.Counting.{exists, month_number, length_of, days_before, day_number}
use Rattle.renewal.specs.Renewing.{is_count, year_of, month_of, is_year, kept, reached, renewal_date}
use Rattle.renewal.specs.Days.{weekday, days_between}
use Rattle.temperature.specs.Correcting.{is_reading, add_offset}
use Rattle.sign.specs.Errors.{port_errors}
use Rattle.sign.proofs.Alike.{capitals-alike}
use Rattle.sheet.specs.Sheet.{Every, bytes, start, in_turn, on_fresh}
use Rattle.sheet.proofs.Computing.{base}
use Rattle.sheet.proofs.Examples.{◌&◌}
use Rattle.cases.specs.Numbers.{number_of, block_number, holds, all_hold, times, records_from, numbers_table}
use Rattle.cases.specs.Dates.{each_way, dates_table}
use Rattle.cases.specs.Unused.{wrong_on, unused_table}
use Rattle.cases.specs.Index.{misplaced, index_table}
use Rattle.cases.specs.Renewals.{Answers, renewals_table}
use Rattle.cases.specs.Temperatures.{offsets_table, Measures, temperatures_table}
use Rattle.cases.specs.Faults.{Shows as ShowsFault, registers_table, faults_table}
use Rattle.cases.specs.SmallLetters.{Shows as ShowsLetter, letters_table, letters_shown}
use Rattle.cases.specs.Starting.{ShowsStart, starts_table, starts_shown}
use Rattle.cases.specs.Witnesses.{Shows, witnesses}

pub numbers : all_hold numbers_table ≡ true
unfolding number_of block_number holds all_hold times records_from numbers_table bytes start in_turn on_fresh base
numbers = refl

pub dates : all_hold dates_table ≡ true
unfolding number_of block_number holds all_hold each_way dates_table bytes start in_turn on_fresh base
dates = refl

pub unused-amounts : all_hold unused_table ≡ true
unfolding number_of block_number holds all_hold wrong_on unused_table bytes start in_turn on_fresh base
unused-amounts = refl

pub indices : all_hold index_table ≡ true
unfolding number_of block_number holds all_hold misplaced index_table bytes start in_turn on_fresh base
indices = refl

pub renewals : Every Answers renewals_table
unfolding
    renewals_table
    february month_length is_date floor_div floor_mod
    exists month_number length_of days_before day_number
    is_count year_of month_of is_year kept reached renewal_date
    weekday days_between
renewals =
    refl & refl & refl & refl & refl & refl & refl & refl & refl & refl
    & refl & refl & refl & refl & refl & refl & refl & refl & refl & refl
    & refl & refl & refl & refl & refl & refl & refl & refl & refl & refl
    & refl & refl & refl & refl & refl & refl & refl & refl & refl & refl
    & refl & tt

pub offsets : all_hold offsets_table ≡ true
unfolding number_of block_number holds all_hold offsets_table bytes start in_turn on_fresh base
offsets = refl

pub temperatures : Every Measures temperatures_table
unfolding temperatures_table is_reading add_offset bytes base
temperatures =
    refl & refl & refl & refl & refl & refl & refl & refl & refl & refl
    & refl & refl & refl & refl & refl & refl & refl & refl & refl & refl
    & refl & refl & refl & refl & refl & tt

pub registers : all_hold registers_table ≡ true
unfolding number_of block_number holds all_hold registers_table bytes start in_turn on_fresh base
registers = refl

pub faults : Every ShowsFault faults_table
unfolding faults_table block_number port_errors bytes start in_turn on_fresh base
faults =
    (refl, refl) & (refl, refl) & (refl, refl) & (refl, refl) & (refl, refl) & (refl, refl) & (refl, refl) & (refl, refl) & (refl, refl) & (refl, refl)
    & (refl, refl) & (refl, refl) & (refl, refl) & (refl, refl) & (refl, refl) & (refl, refl) & (refl, refl) & (refl, refl) & (refl, refl) & (refl, refl)
    & (refl, refl) & (refl, refl) & (refl, refl) & (refl, refl) & (refl, refl) & (refl, refl) & (refl, refl) & (refl, refl) & refl & (refl, refl)
    & (refl, refl) & refl & refl & refl & refl & refl & refl & refl & refl & refl
    & refl & refl & refl & tt

pub letters : all_hold letters_table ≡ true
unfolding number_of block_number holds all_hold letters_table bytes start in_turn on_fresh base
letters = refl

pub letters-shown : Every ShowsLetter letters_shown
unfolding letters_shown bytes start in_turn on_fresh base
letters-shown =
    refl & refl & refl & refl & refl & refl & refl & refl & refl & refl
    & refl & refl
    & (λ b o. capitals-alike b o (bytes "_01Zaf,a?b_02AAHELLO_0301fb_04") (bytes "_01ZAF,a?B_02AAHELLO_0301FB_04") refl) & tt

pub starts : all_hold starts_table ≡ true
unfolding number_of block_number holds all_hold starts_table bytes start in_turn on_fresh base
starts = refl

pub starts-shown : Every ShowsStart starts_shown
unfolding starts_shown bytes start in_turn on_fresh base
starts-shown =
    (refl, refl, refl) & (refl, refl, refl) & refl & refl & refl & refl & refl & (refl, refl, refl) & refl & (refl, refl, refl)
    & refl & (refl, refl, refl) & (refl, refl, refl) & (refl, refl, refl, refl) & (refl, refl, refl, refl) & refl & tt

pub shown : Every Shows witnesses
unfolding witnesses bytes start in_turn on_fresh base
shown = refl & refl & refl & refl & refl & refl & refl & refl & refl & refl & tt
