use Rattle.std.proofs.Common.{◌∙◌, Option, ap, sym}
use Rattle.std.specs.Option.{option_copied, option_or}
use Rattle.sv_rules.specs.Work.{first_coupled, owes_reply}
use Rattle.sv_rules.specs.declared.standing.Standing.{Standing}
use Rattle.sv_core.proofs.processor.Core.served_by.Goals as goal

pub returns-in-None : goal.returns-in-None
returns-in-None c =
    let journal = c.args.self.now.journal in
    c.first_coupled-in-None.ensures ∙ ap (λ (o : Option Standing). option_or o (first_coupled journal (owes_reply journal) c.args.party)) (sym (ap option_copied c.in-None.is) ∙ c.first_coupled.ensures)

pub returns-in-Some : goal.returns-in-Some
returns-in-Some c =
    let journal = c.args.self.now.journal in
    ap (λ (o : Option Standing). option_or o (first_coupled journal (owes_reply journal) c.args.party)) (sym (ap option_copied c.in-Some.is) ∙ c.first_coupled.ensures)
