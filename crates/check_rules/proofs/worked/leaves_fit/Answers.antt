use Rattle.std.proofs.Common.{[], ◌∷◌, arith, refl, rules}
use Rattle.std.proofs.lemmas.Bool.{false≢true}
use Rattle.sv_rules.specs.Legal.{MayFollow}
use Rattle.check_rules.specs.Worked.{leave_of}
use Rattle.check_rules.proofs.WorkedRuns.{leave_fits}
use Rattle.check_rules.proofs.worked.leaves_fit.Goals as goal

pub returns-clause-first : goal.returns-clause-first
returns-clause-first c =
    let may : MayFollow (1001 ∷ 1002 ∷ []) [] (leave_of 1001) = search rules in leave_fits [] 1001 (omega arith) may refl

pub returns-clause-other : goal.returns-clause-other
returns-clause-other c =
    let may : MayFollow (1001 ∷ 1002 ∷ []) [] (leave_of 1002) = search rules in leave_fits [] 1002 (omega arith) may refl

pub returns-clause-behind : goal.returns-clause-behind
returns-clause-behind c =
    let may : MayFollow (1001 ∷ 1002 ∷ []) (leave_of 1002 ∷ []) (leave_of 1001) = search rules in leave_fits (leave_of 1002 ∷ []) 1001 (omega arith) may refl

pub returns-clause-again : goal.returns-clause-again
returns-clause-again c = λ fits. false≢true fits.legal.present

pub returns-clause-nobody : goal.returns-clause-nobody
returns-clause-nobody c = λ fits. false≢true fits.legal.party

pub returns-clause-over : goal.returns-clause-over
returns-clause-over c = λ fits. false≢true fits.among
