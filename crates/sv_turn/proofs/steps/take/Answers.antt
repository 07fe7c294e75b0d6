use Rattle.std.proofs.Common.{rules, ◌∷◌, Some, sym, ap, ◌∙◌}
use Rattle.atomic_table.specs.Table.{rest}
use Rattle.sv_turn.proofs.steps.take.Goals as goal

pub exchange-requires : goal.exchange-requires
exchange-requires g c =
    let slot = c.requires.slot in (search rules, (Some slot.0, slot.1 ∙ ap (λ cs. (0, Some slot.0) ∷ rest cs) (sym slot.1)))
