use Rattle.std.proofs.Common.{arith}
use Rattle.std.proofs.lemmas.Result.{err_from_is_err_and}
use Rattle.text_reader.specs.Reading.{always, read_list, read_behind}
use Rattle.sv_text.specs.ValueReading.{read_next_integer}
use Rattle.text_reader.proofs.Lists.{step_more, step_stops, is_done}
use Rattle.sv_text.proofs.numbers.add_numbers.Goals as goal

pub returns-in_err-add_number-clause-value : goal.returns-in_err-add_number-clause-value
returns-in_err-add_number-clause-value c =
    let p = err_from_is_err_and c.from_residual.result c.from_residual.ensures.1 in
    rw (p.1, p.2) (step_stops always read_next_integer c.in_err-add_number.field-0.0 c.loop.numbers.items c.args.count c.loop.counter c.loop.cursor (read_behind c.args.numbers.now.items (read_list always read_next_integer c.args.count c.args.cursor.now)) c.loop-test.true c.in_err-add_number.ensures.value c.loop.invariant.value)

pub loop-preserved : goal.loop-preserved
loop-preserved c = record {
  value = step_more always read_next_integer c.loop.numbers.items c.add_number.new.numbers.items c.args.count c.loop.counter c.loop.cursor c.add_number.new.cursor (read_behind c.args.numbers.now.items (read_list always read_next_integer c.args.count c.args.cursor.now)) c.loop-test.true c.in_ok-add_number.ensures.value c.loop.invariant.value;
  count = omega (arith, c.in_ok-add_number.ensures.one, c.loop.invariant.count);
}

pub returns-clause-value : goal.returns-clause-value
returns-clause-value c =
    is_done always read_next_integer c.loop.numbers.items c.args.count c.loop.counter c.loop.cursor (read_behind c.args.numbers.now.items (read_list always read_next_integer c.args.count c.args.cursor.now)) c.loop-test.false c.loop.invariant.value
