use Rattle.std.proofs.Common.{◌≡◌, ◌-◌, []}
use Rattle.ws_codec.specs.Reading.{repeated}
use Rattle.ws_codec.specs.Offers.{read_next_offer}
use Rattle.ws_codec.proofs.offers.read_counted.Given as goal

abbrev pub invariant-loop : goal.invariant-loop
invariant-loop l = repeated (read_next_offer l.ws.globals) (l.count - l.counter) l.offers.items l.cursor ≡ repeated (read_next_offer l.ws.globals) l.count [] l.fn.cursor
