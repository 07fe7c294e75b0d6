-- Names that are taken back in their order, and a workspace that may come in behind them.
use Rattle.std.proofs.Common.{◌≡◌, ◌∙◌, ◌+◌, ◌<◌, ◌≤◌, ℕ, List, ◌∷◌, Option, Some, None, length, drop, get_or, ap, subst, sym}
use Rattle.std.specs.Prelude.{IfSome}
use Rattle.std.proofs.lemmas.List.{drop_more}
use Rattle.apl_workspace.specs.Workspace.{PlainWorkspace}
use Rattle.ws_commands.specs.Finish.{MayComeIn}

-- the names that are left begin with the one at this place
pub next_is : (names : List (List ℕ)) (i : ℕ) (name : List ℕ) (left : List (List ℕ)) → i < length names → name ≡ get_or names i name → left ≡ drop i names → left ≡ name ∷ drop (i + 1) names
next_is names i name left within is from =
    from ∙ drop_more names i name within ∙ ap (λ (first : List ℕ). first ∷ drop (i + 1) names) (sym is)

comes_then : (workspace old new : PlainWorkspace) → new.printed ≡ old.printed → MayComeIn old workspace → MayComeIn new workspace
comes_then workspace old new same comes = record { frames = comes.frames; printed = subst (λ (n : ℕ). workspace.printed ≤ n) (sym same) comes.printed }

-- a workspace that may come in may still, once names were taken back
pub still_comes : (brought : Option PlainWorkspace) (old new : PlainWorkspace) → new.printed ≡ old.printed → IfSome brought (MayComeIn old) → IfSome brought (MayComeIn new)
still_comes None old new same comes = comes
still_comes (Some workspace) old new same comes = comes_then workspace old new same comes
