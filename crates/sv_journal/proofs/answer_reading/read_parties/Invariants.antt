use Rattle.std.proofs.Common.{◌≡◌, ◌-◌}
use Rattle.text_reader.specs.Reading.{read_list, read_behind}
use Rattle.sv_journal.specs.ActReading.{read_party}
use Rattle.sv_journal.specs.AnswerReading.{list_goes_on}
use Rattle.sv_journal.proofs.answer_reading.read_parties.Given as goal

abbrev pub invariant-loop : goal.invariant-loop
invariant-loop l = read_behind l.parties.items (read_list list_goes_on read_party (l.most - l.counter) l.cursor) ≡ read_list list_goes_on read_party l.most l.fn.cursor
