use Rattle.std.proofs.Common.{◌∙◌, ap, eqb, subst, List}
use Rattle.std.specs.Prelude.{Contains, unwrap_or}
use Rattle.sv_core.specs.Due.{work_among}
use Rattle.sv_events.specs.declared.work.Work.TheVariants.{Idle}
use Rattle.sv_offer_laws.proofs.Members.{Contains-from_filter}
use Rattle.sv_rules.specs.Standing.{standing}
use Rattle.sv_rules.specs.declared.standing.Standing.{Standing}
use Rattle.sv_core.proofs.DueLemmas.{own_is_auxiliary}
use Rattle.sv_core.proofs.processor.Core.work_due.Goals as goal

pub work_among-requires-clause-stand : goal.work_among-requires-clause-stand
work_among-requires-clause-stand c = λ offer has.
    Contains-from_filter (λ (o : Standing). eqb o.party c.args.party) (standing c.args.self.now.journal) offer (subst (λ (os : List Standing). Contains os offer) c.own_offers.ensures has)

pub work_among-requires-clause-own : goal.work_among-requires-clause-own
work_among-requires-clause-own c = λ offer has.
    own_is_auxiliary c.args.self.now.journal c.args.party offer c.requires (subst (λ (os : List Standing). Contains os offer) c.own_offers.ensures has)

pub returns : goal.returns
returns c = c.work_among.ensures ∙ ap (λ (os : List Standing). unwrap_or (work_among c.args.self.now.journal c.args.party os) Idle) c.own_offers.ensures
