use Rattle.std.proofs.Common.{◌≡◌, false}
use Rattle.apl_items.specs.Places.{GivesEach, HasItems}
use Rattle.apl_items.proofs.RowLemmas.{weaker_want}
use Rattle.apl_scalar.specs.Table.{item_of_chars}
use Rattle.apl_scalar.proofs.MemoryLemmas.{has_as_told}
use Rattle.apl_scalar.proofs.scalar.unlike_items.Goals as goal

pub returns-clause-memory : goal.returns-clause-memory
returns-clause-memory c =
    weaker_want c.by_place.result (GivesEach c.args.count (λ place answer. answer ≡ item_of_chars c.args.f false)) (HasItems c.args.count (λ place. item_of_chars c.args.f false))
    (has_as_told c.args.count (λ place answer. answer ≡ item_of_chars c.args.f false) (λ place. item_of_chars c.args.f false) (λ place answer below told. told)) c.by_place.ensures.memory
