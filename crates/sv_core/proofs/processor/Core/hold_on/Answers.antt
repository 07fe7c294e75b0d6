use Rattle.std.proofs.Common.{◌≡◌, ap, sym, ◌∙◌, subst, None, Option}
use Rattle.std.specs.Prelude.{IfSome}
use Rattle.sv_core.specs.Core.{IsFound}
use Rattle.sv_access.specs.Control.{no_control}
use Rattle.sv_rules.specs.Coupling.{coupling_now}
use Rattle.sv_rules.specs.declared.coupling.Coupling.{Coupling}
use Rattle.sv_access.specs.declared.access.Side.TheVariants.{A}
use Rattle.sv_access.specs.declared.control.Control.{Control}
use Rattle.sv_rules.specs.Control.{Sharing, sharing_of}
use Rattle.sv_rules.specs.Refused.{hold_under}
use Rattle.sv_rules.specs.Story.{opening}
use Rattle.sv_core.proofs.processor.Core.hold_on.Goals as goal

pub vector-of_b-requires : goal.vector-of_b-requires
vector-of_b-requires c = (subst (λ (k : Option Coupling). IfSome k (IsFound c.args.self.now.journal c.args.offer.now.place)) c.in-Some.is c.requires.found).has_b

pub lower-lower-requires : goal.lower-lower-requires
lower-lower-requires c = (subst (λ (k : Option Coupling). IfSome k (IsFound c.args.self.now.journal c.args.offer.now.place)) c.in-Some.is c.requires.found).at_a

pub returns-in-None : goal.returns-in-None
returns-in-None c =
    let journal = c.args.self.now.journal in
    let offer = c.args.offer.now in
    let none : coupling_now journal offer.place ≡ None = sym c.requires.coupled ∙ c.in-None.is in
    let told = opening A journal offer in
    c.hold_by_state.ensures told (sym c.opened-open.ensures.state)
    ∙ ap (λ (own : Control). let s : Sharing = record { story = told; a = own; b = no_control; side = A } in hold_under s c.args.kind) c.opened-open.ensures.vector
    ∙ sym (ap (λ (k : Option Coupling). hold_under (sharing_of journal offer k) c.args.kind) none)
