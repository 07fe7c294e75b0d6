use Rattle.std.proofs.Common.{◌∙◌, ◌&&◌, Bool, ap, sym}
use Rattle.sv_offer_laws.proofs.LookupLemmas.{found_where_coupled}
use Rattle.sv_rules.specs.Coupling.{coupling_now, couplings, is_coupled}
use Rattle.sv_rules.specs.Work.{lacks_control, owes_reply}
use Rattle.sv_core.proofs.DueLemmas.{told_where}
use Rattle.sv_core.specs.Due.{is_due_on}
use Rattle.sv_core.specs.declared.working.Due.{Due}
use Rattle.sv_core.proofs.processor.Core.is_due.Goals as goal

pub returns-then-lacks_control : goal.returns-then-lacks_control
returns-then-lacks_control c =
    let journal = c.args.self.now.journal in
    let offer = c.args.offer.now in
    let coupled = is_coupled (couplings journal) offer.place in
    c.is_coupled.ensures ∙ sym (ap (λ (b : Bool). b && coupled) c.if-lacks_control.true)
    ∙ told_where (coupling_now journal offer.place) (lacks_control journal offer) c.lacks_control.result coupled (found_where_coupled journal offer.place) c.lacks_control.ensures
    ∙ sym (ap (λ (d : Due). is_due_on journal d offer) c.in-Control.is)

pub returns-else-lacks_control : goal.returns-else-lacks_control
returns-else-lacks_control c =
    let journal = c.args.self.now.journal in
    let offer = c.args.offer.now in
    let coupled = is_coupled (couplings journal) offer.place in
    c.if-lacks_control.false ∙ sym (ap (λ (b : Bool). b && coupled) c.if-lacks_control.false)
    ∙ told_where (coupling_now journal offer.place) (lacks_control journal offer) c.lacks_control.result coupled (found_where_coupled journal offer.place) c.lacks_control.ensures
    ∙ sym (ap (λ (d : Due). is_due_on journal d offer) c.in-Control.is)

pub returns-then-owes_reply : goal.returns-then-owes_reply
returns-then-owes_reply c =
    let journal = c.args.self.now.journal in
    let offer = c.args.offer.now in
    let coupled = is_coupled (couplings journal) offer.place in
    c.is_coupled-then-owes_reply.ensures ∙ sym (ap (λ (b : Bool). b && coupled) c.if-owes_reply.true)
    ∙ told_where (coupling_now journal offer.place) (owes_reply journal offer) c.owes_reply.result coupled (found_where_coupled journal offer.place) c.owes_reply.ensures
    ∙ sym (ap (λ (d : Due). is_due_on journal d offer) c.in-Reply.is)

pub returns-else-owes_reply : goal.returns-else-owes_reply
returns-else-owes_reply c =
    let journal = c.args.self.now.journal in
    let offer = c.args.offer.now in
    let coupled = is_coupled (couplings journal) offer.place in
    c.if-owes_reply.false ∙ sym (ap (λ (b : Bool). b && coupled) c.if-owes_reply.false)
    ∙ told_where (coupling_now journal offer.place) (owes_reply journal offer) c.owes_reply.result coupled (found_where_coupled journal offer.place) c.owes_reply.ensures
    ∙ sym (ap (λ (d : Due). is_due_on journal d offer) c.in-Reply.is)
