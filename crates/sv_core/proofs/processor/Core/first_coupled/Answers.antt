use Rattle.std.proofs.Common.{eqb, subst, List}
use Rattle.std.specs.Prelude.{Contains}
use Rattle.sv_offer_laws.proofs.Members.{Contains-from_filter}
use Rattle.sv_rules.specs.Standing.{standing}
use Rattle.sv_rules.specs.declared.standing.Standing.{Standing}
use Rattle.sv_core.proofs.DueLemmas.{own_is_auxiliary}
use Rattle.sv_core.proofs.processor.Core.first_coupled.Goals as goal

pub first_due-requires-clause-stand : goal.first_due-requires-clause-stand
first_due-requires-clause-stand c = λ offer has.
    Contains-from_filter (λ (o : Standing). eqb o.party c.args.party) (standing c.args.self.now.journal) offer (subst (λ (os : List Standing). Contains os offer) c.own_offers.ensures has)

pub first_due-requires-clause-own : goal.first_due-requires-clause-own
first_due-requires-clause-own c = λ offer has.
    own_is_auxiliary c.args.self.now.journal c.args.party offer c.requires (subst (λ (os : List Standing). Contains os offer) c.own_offers.ensures has)
