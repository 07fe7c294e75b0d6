use Rattle.std.proofs.Common.{sym, ◌∙◌}
use Rattle.sv_rules.specs.Standing.{standing}
use Rattle.sv_rules.specs.Coupling.{is_open_match}
use Rattle.sv_offer_laws.proofs.MatchLemmas.{is_match_comm}
use Rattle.sv_offer_laws.proofs.CouplingLemmas.{WasMade-from_made_in, made_in-from_WasMade, oldest_match_is_taken, none_is_taken_of_none}
use Rattle.sv_offer_laws.proofs.LookupLemmas.{found_where_coupled, found_as_made}
use Rattle.sv_offer_laws.proofs.NowLemmas.{coupling_is_found}
use Rattle.sv_offer_laws.proofs.laws.coupling_law.Goals as goal

pub returns-clause-pairs : goal.returns-clause-pairs
returns-clause-pairs c = λ journal made. (WasMade-from_made_in journal made, made_in-from_WasMade journal made)

pub returns-clause-mutual : goal.returns-clause-mutual
returns-clause-mutual c = is_match_comm

pub returns-clause-oldest : goal.returns-clause-oldest
returns-clause-oldest c = oldest_match_is_taken

pub returns-clause-none : goal.returns-clause-none
returns-clause-none c = λ journal coupled offer other none has. none_is_taken_of_none (is_open_match coupled offer) (standing journal) other none has

pub returns-clause-found : goal.returns-clause-found
returns-clause-found c = λ journal place. ((λ h. sym (found_where_coupled journal place) ∙ h), (λ h. found_where_coupled journal place ∙ h))

pub returns-clause-as_made : goal.returns-clause-as_made
returns-clause-as_made c = λ users journal legal place coupling. (found_as_made users journal legal place coupling, coupling_is_found users journal legal place coupling)
