-- Names that are left out of a copy.
use Rattle.std.proofs.Common.{◌≡◌, ℕ, Bool, true, false, cond, List, [], ◌∷◌, ◌++◌, Result, Ok, Err, sym, ap, ◌∙◌, codes}
use Rattle.std.specs.Prelude.{OnOk}
use Rattle.apl_execute.specs.Merge.{is_missing}
use Rattle.apl_workspace.specs.Workspace.{PlainWorkspace, is_shared}
use Rattle.ws_commands.specs.Library.{left_out}
use Rattle.ws_commands.specs.declared.mention.Mention.{Mention}

-- the line of a name that is missing
pub line_of_missing : {E : Type 0} (result : Result (Unit {0}) E) (into from : PlainWorkspace) (mention : Mention) (old new : List (List ℕ)) (line : List ℕ) → mention.repeated ≡ false → is_missing from mention.name ≡ true → line ≡ codes "NOT FOUND: " ++ mention.name
    → OnOk result (new ≡ old ++ line ∷ []) → OnOk result (new ≡ old ++ left_out into from mention)
line_of_missing (Err why) into from mention old new line first missing is pushed = tt
line_of_missing (Ok done) into from mention old new line first missing is pushed =
    let found : List (List ℕ) = (codes "NOT FOUND: " ++ mention.name) ∷ [] in
    let kept : List (List ℕ) = cond (is_shared into mention.name) ((codes "NOT COPIED: " ++ mention.name) ∷ []) [] in
    pushed ∙ ap (λ (l : List ℕ). old ++ l ∷ []) is
    ∙ ap (λ (l : List (List ℕ)). old ++ l) (sym (ap (λ (b : Bool). cond b [] (cond (is_missing from mention.name) found kept)) first ∙ ap (λ (b : Bool). cond b found kept) missing))

-- the line of a name that is shared here
pub line_of_shared : {E : Type 0} (result : Result (Unit {0}) E) (into from : PlainWorkspace) (mention : Mention) (old new : List (List ℕ)) (line : List ℕ) → mention.repeated ≡ false → is_missing from mention.name ≡ false → is_shared into mention.name ≡ true
    → line ≡ codes "NOT COPIED: " ++ mention.name → OnOk result (new ≡ old ++ line ∷ []) → OnOk result (new ≡ old ++ left_out into from mention)
line_of_shared (Err why) into from mention old new line first there shared is pushed = tt
line_of_shared (Ok done) into from mention old new line first there shared is pushed =
    let found : List (List ℕ) = (codes "NOT FOUND: " ++ mention.name) ∷ [] in
    let kept : List (List ℕ) = (codes "NOT COPIED: " ++ mention.name) ∷ [] in
    pushed ∙ ap (λ (l : List ℕ). old ++ l ∷ []) is
    ∙ ap (λ (l : List (List ℕ)). old ++ l)
    (sym
    (ap (λ (b : Bool). cond b [] (cond (is_missing from mention.name) found (cond (is_shared into mention.name) kept []))) first ∙ ap (λ (b : Bool). cond b found (cond (is_shared into mention.name) kept [])) there
    ∙ ap (λ (b : Bool). cond b kept []) shared))
