use Rattle.apl_items.specs.Extension.{number_at}
use Rattle.apl_items.specs.Places.{GivesEach, HasItems}
use Rattle.apl_items.proofs.RowLemmas.{weaker_want}
use Rattle.apl_scalar.specs.Table.{monadic_item}
use Rattle.apl_scalar.proofs.MemoryLemmas.{has_as_told}
use Rattle.apl_scalar.proofs.table.each_by.Goals as goal
use Rattle.apl_scalar.proofs.table.each_by.Given as given

pub returns-clause-memory : goal.returns-clause-memory
returns-clause-memory g c =
    let b = c.args.b.now in
    weaker_want c.each.result (GivesEach c.args.count (λ place. given.F-post g c.args.rule (number_at b place))) (HasItems c.args.count (λ place. monadic_item c.args.f (number_at b place)))
    (has_as_told c.args.count (λ place. given.F-post g c.args.rule (number_at b place)) (λ place. monadic_item c.args.f (number_at b place)) (λ place answer below told. c.requires.rule (number_at b place) answer told))
    c.each.ensures.memory
