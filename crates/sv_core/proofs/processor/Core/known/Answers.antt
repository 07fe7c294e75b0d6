use Rattle.std.proofs.Common.{ap, ◌∙◌, subst, Option}
use Rattle.std.specs.Prelude.{IfSome}
use Rattle.sv_core.specs.Core.{IsFound}
use Rattle.sv_rules.specs.declared.coupling.Coupling.{Coupling}
use Rattle.std.proofs.Common.{refl}
use Rattle.sv_access.specs.declared.access.Side.{Side}
use Rattle.sv_rules.specs.Story.{known}
use Rattle.sv_story_laws.specs.StoryLaws.{offer_on}
use Rattle.sv_core.proofs.processor.Core.known.Goals as goal

pub known_to-requires : goal.known_to-requires
known_to-requires c = (subst (λ (k : Option Coupling). IfSome k (IsFound c.args.self.now.journal c.args.offer.now.place)) c.in-Some.is c.coupling_on.ensures.found).at_a

pub returns-in-Some : goal.returns-in-Some
returns-in-Some c =
    let journal = c.args.self.now.journal in
    c.known_to.ensures
    ∙ ap (λ (side : Side). known journal (offer_on c.in-Some.coupling side)) c.side_at.ensures
    ∙ ap (known journal) ((subst (λ (k : Option Coupling). IfSome k (IsFound c.args.self.now.journal c.args.offer.now.place)) c.in-Some.is c.coupling_on.ensures.found).side c.args.offer.now c.requires refl)
