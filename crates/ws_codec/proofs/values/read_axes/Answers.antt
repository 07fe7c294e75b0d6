use Rattle.std.proofs.Common.{[]}
use Rattle.std.proofs.lemmas.Result.{err_from_is_err_and}
use Rattle.ws_codec.specs.Reading.{repeated}
use Rattle.ws_codec.specs.Values.{read_next_axis}
use Rattle.ws_codec.proofs.Loops.{is_done, one_more, stops_at}
use Rattle.ws_codec.proofs.values.read_axes.Goals as goal

pub returns-in_err-add_axis : goal.returns-in_err-add_axis
returns-in_err-add_axis c =
    let p = err_from_is_err_and c.from_residual.result c.from_residual.ensures.1 in
    rw (p.1, p.2) (stops_at read_next_axis c.in_err-add_axis.field-0.0 c.args.rank c.loop.counter c.loop.axes.items c.loop.cursor (repeated read_next_axis c.args.rank [] c.args.cursor.now) c.loop-test.true c.in_err-add_axis.ensures c.loop.invariant)

pub loop-preserved : goal.loop-preserved
loop-preserved c =
    one_more read_next_axis c.args.rank c.loop.counter c.loop.axes.items c.add_axis.new.axes.items c.loop.cursor c.add_axis.new.cursor (repeated read_next_axis c.args.rank [] c.args.cursor.now) c.loop-test.true c.in_ok-add_axis.ensures c.loop.invariant

pub returns : goal.returns
returns c =
    is_done read_next_axis c.args.rank c.loop.counter c.loop.axes.items c.loop.cursor (repeated read_next_axis c.args.rank [] c.args.cursor.now) c.loop-test.false c.loop.invariant
