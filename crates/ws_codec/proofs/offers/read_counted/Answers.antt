use Rattle.std.proofs.Common.{[]}
use Rattle.std.proofs.lemmas.Result.{err_from_is_err_and}
use Rattle.ws_codec.specs.Reading.{repeated}
use Rattle.ws_codec.specs.Offers.{read_next_offer}
use Rattle.ws_codec.proofs.Loops.{is_done, one_more, stops_at}
use Rattle.ws_codec.proofs.offers.read_counted.Goals as goal

pub returns-in_err-add_offer : goal.returns-in_err-add_offer
returns-in_err-add_offer c =
    let p = err_from_is_err_and c.from_residual.result c.from_residual.ensures.1 in
    rw (p.1, p.2) (stops_at (read_next_offer c.args.ws.now.globals) c.in_err-add_offer.field-0.0 c.args.count c.loop.counter c.loop.offers.items c.loop.cursor (repeated (read_next_offer c.args.ws.now.globals) c.args.count [] c.args.cursor.now) c.loop-test.true c.in_err-add_offer.ensures c.loop.invariant)

pub loop-preserved : goal.loop-preserved
loop-preserved c =
    one_more (read_next_offer c.args.ws.now.globals) c.args.count c.loop.counter c.loop.offers.items c.add_offer.new.offers.items c.loop.cursor c.add_offer.new.cursor (repeated (read_next_offer c.args.ws.now.globals) c.args.count [] c.args.cursor.now) c.loop-test.true c.in_ok-add_offer.ensures c.loop.invariant

pub returns : goal.returns
returns c =
    is_done (read_next_offer c.args.ws.now.globals) c.args.count c.loop.counter c.loop.offers.items c.loop.cursor (repeated (read_next_offer c.args.ws.now.globals) c.args.count [] c.args.cursor.now) c.loop-test.false c.loop.invariant
