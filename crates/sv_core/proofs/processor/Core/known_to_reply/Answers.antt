use Rattle.std.proofs.Common.{◌∙◌, Option, ap, sym}
use Rattle.std.specs.Option.{option_copied}
use Rattle.std.specs.Prelude.{option_and_then}
use Rattle.sv_rules.specs.Story.{known}
use Rattle.sv_rules.specs.Work.{owes_reply}
use Rattle.sv_rules.specs.declared.standing.Standing.{Standing}
use Rattle.sv_core.proofs.DueLemmas.{first_stands}
use Rattle.sv_core.proofs.processor.Core.known_to_reply.Goals as goal

pub known-requires : goal.known-requires
known-requires c =
    let journal = c.args.self.now.journal in
    first_stands journal (owes_reply journal) c.args.party c.in-Some.offer.now (sym c.first_coupled.ensures ∙ ap option_copied c.in-Some.is)

pub returns-in-None : goal.returns-in-None
returns-in-None c = ap (λ (o : Option Standing). option_and_then (known c.args.self.now.journal) o) (sym (ap option_copied c.in-None.is) ∙ c.first_coupled.ensures)

pub returns-in-Some : goal.returns-in-Some
returns-in-Some c = c.known.ensures ∙ ap (λ (o : Option Standing). option_and_then (known c.args.self.now.journal) o) (sym (ap option_copied c.in-Some.is) ∙ c.first_coupled.ensures)
