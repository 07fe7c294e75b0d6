-- Where nothing waits, no function is under way.
use Rattle.std.proofs.Common.{◌≡◌, ℕ, List, [], ◌∷◌, refl, sym, ap, ◌∙◌}
use Rattle.apl_workspace.specs.Workspace.{PlainWorkspace}
use Rattle.apl_statements.specs.declared.waiting.Waiting.{Waiting}
use Rattle.apl_statements.specs.Evaluating.{stack_of, waiting_of}

pub nobody : (w : PlainWorkspace) (input : List ℕ) (callers : List Waiting) → stack_of w input callers ≡ [] → callers ≡ []
nobody w input [] none = refl
nobody w input (waiting ∷ others) none = absurd (let no : waiting_of w input waiting (stack_of w input others) ∷ stack_of w input others ≡ [] = none in cc)

-- where nothing waits, nothing does whatever line was read
pub none_waits : (w : PlainWorkspace) (input other : List ℕ) (callers : List Waiting) → stack_of w input callers ≡ [] → stack_of w other callers ≡ stack_of w input callers
none_waits w input other callers none = ap (stack_of w other) (nobody w input callers none) ∙ sym none
