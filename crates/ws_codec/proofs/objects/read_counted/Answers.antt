use Rattle.std.proofs.Common.{[]}
use Rattle.std.proofs.lemmas.Result.{err_from_is_err_and}
use Rattle.ws_codec.specs.Objects.{read_next_object}
use Rattle.ws_codec.specs.Reading.{repeated}
use Rattle.ws_codec.proofs.Loops.{is_done, one_more, stops_at}
use Rattle.ws_codec.proofs.objects.read_counted.Goals as goal

pub returns-in_err-name-clause-value : goal.returns-in_err-name-clause-value
returns-in_err-name-clause-value c =
    let p = err_from_is_err_and c.from_residual.result c.from_residual.ensures.1 in
    rw (p.1, p.2) (stops_at read_next_object c.in_err-name.field-0.0 c.args.count c.loop.counter c.loop.ws.globals c.loop.cursor (repeated read_next_object c.args.count [] c.args.cursor.now) c.loop-test.true c.in_err-name.ensures.value c.loop.invariant.value)

pub loop-preserved : goal.loop-preserved
loop-preserved c = record {
  value = one_more read_next_object c.args.count c.loop.counter c.loop.ws.globals c.add_object.new.ws.globals c.loop.cursor c.add_object.new.cursor (repeated read_next_object c.args.count [] c.args.cursor.now) c.loop-test.true c.in_ok-name.ensures.value c.loop.invariant.value;
  plain = c.in_ok-name.ensures.plain;
  last = c.in_ok-name.ensures.last;
}

pub returns-clause-value : goal.returns-clause-value
returns-clause-value c =
    is_done read_next_object c.args.count c.loop.counter c.loop.ws.globals c.loop.cursor (repeated read_next_object c.args.count [] c.args.cursor.now) c.loop-test.false c.loop.invariant.value
