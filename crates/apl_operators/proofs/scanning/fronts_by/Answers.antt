use Rattle.std.proofs.Common.{◌≡◌, length, sym}
use Rattle.apl_items.specs.Places.{GivesEach, HasItems}
use Rattle.apl_items.proofs.RowLemmas.{weaker_want}
use Rattle.apl_scalar.specs.Table.{dyadic_item}
use Rattle.apl_operators.specs.Running.{front_at}
use Rattle.apl_operators.proofs.scanning.fronts_by.Goals as goal

pub returns-clause-memory : goal.returns-clause-memory
returns-clause-memory g c =
    let list = c.args.list.now in
    let rule = front_at (dyadic_item c.args.f) list c.args.split in
    weaker_want c.by_parts.result (GivesEach (length list) (λ place answer. answer ≡ rule place)) (HasItems (length list) rule) (λ each place below. let told = each place below in (told.0, sym told.1)) c.by_parts.ensures.memory
