use Rattle.std.specs.Arc.{arc_value}
use Rattle.apl_calls.proofs.Keeping.{kept_at}
use Rattle.apl_calls.proofs.waiting.keep.Goals as goal

pub returns : goal.returns
returns c = kept_at arc_value c.args.at c.args.reading c.args.readings.now.items c.places.readings.items c.places.invariant
