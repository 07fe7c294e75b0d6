use Rattle.apl_items.specs.Extension.{number_at}
use Rattle.apl_items.specs.Places.{GivesEach, HasItems}
use Rattle.apl_items.proofs.RowLemmas.{weaker_want}
use Rattle.apl_scalar.specs.Table.{dyadic_item}
use Rattle.apl_scalar.proofs.MemoryLemmas.{has_as_told}
use Rattle.apl_scalar.proofs.table.pairs_by.Goals as goal
use Rattle.apl_scalar.proofs.table.pairs_by.Given as given

pub returns-clause-memory : goal.returns-clause-memory
returns-clause-memory g c =
    let a = c.args.a.now in
    let b = c.args.b.now in
    weaker_want c.pairs.result (GivesEach c.args.count (λ place. given.F-post g c.args.rule (number_at a place) (number_at b place)))
    (HasItems c.args.count (λ place. dyadic_item c.args.f (number_at a place) (number_at b place)))
    (has_as_told c.args.count (λ place. given.F-post g c.args.rule (number_at a place) (number_at b place)) (λ place. dyadic_item c.args.f (number_at a place) (number_at b place))
    (λ place answer below told. c.requires.rule (number_at a place) (number_at b place) answer told))
    c.pairs.ensures.memory
