use Rattle.std.proofs.Common.{◌*◌, ◌%◌, Some, arith}
use Rattle.apl_items.specs.Places.{GivesEach}
use Rattle.apl_items.proofs.RowLemmas.{in_one_row, weaker_want}
use Rattle.apl_items.proofs.loops.by_place.Goals as goal
use Rattle.apl_items.proofs.loops.by_place.Given as given

pub returns-clause-memory : goal.returns-clause-memory
returns-clause-memory g c =
    weaker_want c.by_rows.result (GivesEach (1 * c.args.count) (λ place. given.F-post g c.args.rule (place % c.args.count))) (GivesEach c.args.count (given.F-post g c.args.rule))
    (λ each place below. let told = each place (omega arith) in (told.0, in_one_row (given.F-post g c.args.rule) c.args.count place (Some told.0) below told.1)) c.by_rows.ensures.memory
