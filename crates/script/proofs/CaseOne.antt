-- Case 1 of document 01, byte for byte: its script makes the requests of the ledger's case 1, and the text of the answers marked there is what 01 prints. Assumes nothing.
use mathlib.Core.Path.{◌≡◌, refl, ap, ◌∙◌}
use mathlib.Core.Bool.{true}
use mathlib.Core.List.{[], ◌++◌, map}
use lib.ListN.{get_or}
use Rattle.tariff.specs.Sum.{tabulate}
use Rattle.tariff.specs.Ranges.{within}
use Rattle.tariff.specs.Settings.{fraction_at, settings_of, present_settings}
use Rattle.ledger.specs.Season.{season}
use Rattle.ledger.specs.Marked.{up_to, one_sink, block, opening1, requests1, rest1, answers1, case1, marked_cases}
use Rattle.ledger.proofs.Marked.{marked_cases_lem}
use Rattle.lines.specs.Text.{bytes_of, to_first_line, lines_of, to_first_field, fields_of, is_digit, all_digits, is_number, value_after, value_of, digit, digits_of, decimal}
use Rattle.lines.specs.Rows.{forms, same_bytes, kind_among, kind_of, all_numbers, row, row_if, row_of_fields, row_of, rows_of, field, all_of_kind, counted, holder_rows, sink_rows, path_rows, begins_set, unread_row, head_count, set_count, not_broken, settings_on, set_row, set_readable, settings_of_rows, book_line_count}
use Rattle.counted_lines.specs.Counted.{block_of}
use Rattle.groups.specs.Groups.{request, lookup, lines_counted, when_complete, request_of, groups_from, groups_of, book_readable, opening_of_rows, call_rows}
use Rattle.script.specs.Answers.{value_field, value_fields, text_of, texts_of}
use Rattle.script.specs.Run.{answers_text}
use Rattle.script.proofs.RequestLaws.{RowsOfSeason, season_script}

-- the first of the ledger's marked cases
ledger_case_1 : season opening1 (requests1 ++ rest1) ≡ answers1
unfolding marked_cases case1
ledger_case_1 = ap (λ cases. get_or cases 0 []) marked_cases_lem

case_1 : answers_text (bytes_of "book,1,2,1,2\nholder,1\nsink,1,0\npath,0,0\npath,1,0\nload,0,0,0,0,400,2\nblock,0,398,1000\nblock,398,2,5000\ncarry,0,0,100\nprior,0,1,300,20\nopen,1\nlimit,0,0\nnominate,0,1,201\nnominate,0,1,200\naward,0,1,150\naward,0,1,51\nclose\nnet,1,2\n") ≡ bytes_of "ok\nok\nok\nok\nok\nok,200\nno,13\nok\nok\nno,14\nok\nok,150\n"
unfolding tabulate within up_to one_sink block opening1 requests1 rest1 answers1 bytes_of to_first_line lines_of to_first_field fields_of is_digit all_digits is_number value_after value_of digit digits_of decimal forms same_bytes kind_among kind_of all_numbers row row_if row_of_fields row_of rows_of field all_of_kind counted holder_rows sink_rows path_rows begins_set unread_row head_count set_count not_broken settings_on set_row set_readable settings_of_rows book_line_count present_settings settings_of fraction_at block_of lookup lines_counted when_complete request_of groups_from groups_of book_readable opening_of_rows call_rows value_field value_fields text_of texts_of RowsOfSeason
case_1 = season_script opening1 (requests1 ++ rest1) _ (refl {a = true}, refl {a = opening1}, refl {a = map request (requests1 ++ rest1)}) ∙ ap texts_of ledger_case_1
