use Rattle.std.proofs.Common.{sym}
use Rattle.apl_selection.proofs.IndexLemmas.{not_placed, place_of_axis}
use Rattle.apl_selection.proofs.indexing.place_on.Goals as goal

pub returns-then-along-length : goal.returns-then-along-length
returns-then-along-length c = sym (place_of_axis c.args.length c.args.along c.if-along-length.true)

pub returns-else-along-length : goal.returns-else-along-length
returns-else-along-length c = sym (not_placed c.args.length 0 c.args.along c.if-along-length.false)
