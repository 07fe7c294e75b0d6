use Rattle.std.proofs.Common.{◌∙◌, Option, ap, sym}
use Rattle.std.specs.Option.{option_copied}
use Rattle.std.specs.Prelude.{option_and_then}
use Rattle.sv_rules.specs.declared.standing.Standing.{Standing}
use Rattle.sv_rules.specs.Coupling.{partner_at}
use Rattle.sv_core.proofs.processor.Core.partner_served.Goals as goal

pub returns-in-None : goal.returns-in-None
returns-in-None c =
    let journal = c.args.self.now.journal in
    ap (λ (o : Option Standing). option_and_then (λ (x : Standing). partner_at journal x.place) o) (sym (ap option_copied c.in-None.is) ∙ c.served_by.ensures)

pub returns-in-Some : goal.returns-in-Some
returns-in-Some c =
    let journal = c.args.self.now.journal in
    c.partner.ensures ∙ ap (λ (o : Option Standing). option_and_then (λ (x : Standing). partner_at journal x.place) o) (sym (ap option_copied c.in-Some.is) ∙ c.served_by.ensures)
