use Rattle.std.proofs.Common.{◌∙◌, Option, Some, ap, sym, ℕ}
use Rattle.std.specs.Prelude.{option_map}
use Rattle.sv_rules.specs.declared.coupling.Coupling.{Coupling}
use Rattle.sv_rules.specs.Coupling.{partner_in}
use Rattle.sv_core.proofs.processor.Core.partner.Goals as goal

pub returns-in-None : goal.returns-in-None
returns-in-None c = ap (λ (k : Option Coupling). option_map (partner_in c.args.place) k) (sym c.in-None.is ∙ c.coupling.ensures.value)

pub returns-in-Some : goal.returns-in-Some
returns-in-Some c =
    ap (λ (n : ℕ). Some n) c.partner_of.ensures ∙ ap (λ (k : Option Coupling). option_map (partner_in c.args.place) k) (sym c.in-Some.is ∙ c.coupling.ensures.value)
