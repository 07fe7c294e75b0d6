use Rattle.std.proofs.Common.{subst}
use Rattle.sv_rules.specs.Legal.{IsLegal}
use Rattle.sv_offer_laws.proofs.LegalLemmas.{IsSound-from_legal, couplings_go_on, MayFollow-from_legal, IsLegal-from_entries}
use Rattle.sv_offer_laws.proofs.EndingLemmas.{none_match}
use Rattle.sv_offer_laws.proofs.laws.legal_law.Goals as goal

pub returns-clause-entries : goal.returns-clause-entries
returns-clause-entries c = λ users journal.
    ((λ legal before e later same. MayFollow-from_legal users later e before (subst (IsLegal users) same legal)), IsLegal-from_entries users journal)

pub returns-clause-limit : goal.returns-clause-limit
returns-clause-limit c = λ users journal legal. (IsSound-from_legal users journal legal).few

pub returns-clause-pairs : goal.returns-clause-pairs
returns-clause-pairs c = λ users journal legal. (IsSound-from_legal users journal legal).order

pub returns-clause-goes_on : goal.returns-clause-goes_on
returns-clause-goes_on c = couplings_go_on

pub returns-clause-once : goal.returns-clause-once
returns-clause-once c = λ users journal legal. (IsSound-from_legal users journal legal).once

pub returns-clause-matching : goal.returns-clause-matching
returns-clause-matching c = λ users journal legal. (IsSound-from_legal users journal legal).matching

pub returns-clause-unmatched : goal.returns-clause-unmatched
returns-clause-unmatched c = none_match
