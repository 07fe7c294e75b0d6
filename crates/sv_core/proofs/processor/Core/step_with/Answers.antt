use Rattle.std.proofs.Common.{◌∙◌, ap, subst, sym}
use Rattle.sv_rules.specs.Entries.{is_full}
use Rattle.sv_rules.specs.Legal.{IsLegal}
use Rattle.sv_core.proofs.GoingLemmas.{may_step}
use Rattle.sv_core.specs.Core.{PlainCore}
use Rattle.sv_core.proofs.processor.Core.step_with.Goals as goal

pub make-requires : goal.make-requires
make-requires c =
    let room = sym (ap (λ (v : PlainCore). is_full v.journal) c.self.view_is) ∙ sym c.is_full.ensures ∙ c.if-is_full.false in
    let legal = subst (λ (v : PlainCore). IsLegal v.users v.journal) c.self.view_is c.self.invariant.legal in
    may_step c.args.self.now c.args.party c.args.act.now legal c.requires.member c.requires.present c.requires.goes_on c.requires.due c.requires.stays room
