use Rattle.std.proofs.Common.{◌∙◌, Option, ap, sym}
use Rattle.std.specs.Option.{option_map_or}
use Rattle.aux_parties.specs.declared.auxiliary.AuxiliaryRow.{AuxiliaryRow}
use Rattle.aux_parties.proofs.auxiliary.most_counters.Goals as goal

pub returns-in-None : goal.returns-in-None
returns-in-None c = ap (λ (o : Option AuxiliaryRow). option_map_or (λ (row : AuxiliaryRow). row.counters) o 0) (sym c.in-None.is ∙ c.auxiliary_at.ensures)

pub returns-in-Some : goal.returns-in-Some
returns-in-Some c = ap (λ (o : Option AuxiliaryRow). option_map_or (λ (row : AuxiliaryRow). row.counters) o 0) (sym c.in-Some.is ∙ c.auxiliary_at.ensures)
