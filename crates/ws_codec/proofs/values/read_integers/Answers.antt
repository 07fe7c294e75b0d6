use Rattle.std.proofs.Common.{[], arith}
use Rattle.std.proofs.lemmas.Result.{err_from_is_err_and}
use Rattle.ws_codec.specs.Reading.{repeated}
use Rattle.ws_codec.specs.Values.{read_next_integer}
use Rattle.ws_codec.proofs.Loops.{is_done, one_more, stops_at}
use Rattle.ws_codec.proofs.values.read_integers.Goals as goal

pub returns-in_err-add_integer-clause-value : goal.returns-in_err-add_integer-clause-value
returns-in_err-add_integer-clause-value c =
    let p = err_from_is_err_and c.from_residual.result c.from_residual.ensures.1 in
    rw (p.1, p.2) (stops_at read_next_integer c.in_err-add_integer.field-0.0 c.args.count c.loop.counter c.loop.numbers.items c.loop.cursor (repeated read_next_integer c.args.count [] c.args.cursor.now) c.loop-test.true c.in_err-add_integer.ensures.value c.loop.invariant.value)

pub loop-preserved : goal.loop-preserved
loop-preserved c = record {
  value = one_more read_next_integer c.args.count c.loop.counter c.loop.numbers.items c.add_integer.new.numbers.items c.loop.cursor c.add_integer.new.cursor (repeated read_next_integer c.args.count [] c.args.cursor.now) c.loop-test.true c.in_ok-add_integer.ensures.value c.loop.invariant.value;
  count = omega (arith, c.in_ok-add_integer.ensures.one, c.loop.invariant.count);
}

pub returns-clause-value : goal.returns-clause-value
returns-clause-value c =
    is_done read_next_integer c.args.count c.loop.counter c.loop.numbers.items c.loop.cursor (repeated read_next_integer c.args.count [] c.args.cursor.now) c.loop-test.false c.loop.invariant.value
