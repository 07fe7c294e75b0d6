use Rattle.std.proofs.Common.{◌≡◌, ◌≤◌, ◌∙◌, ℕ, List, true, ap, sym, subst, arith}
use Rattle.std.specs.Prelude.{Err, IfErr, Result, nat_le}
use Rattle.std.proofs.lemmas.Bool.Decides.{nat_tests}
use Rattle.std.proofs.lemmas.Result.{err_from_is_err_and}
use Rattle.apl_arrays.specs.declared.report.Fail.{Fail}
use Rattle.apl_arrays.specs.declared.report.Fail.TheVariants.{WantOfMemory}
use Rattle.apl_workspace.specs.Limits.{most_weight}
use Rattle.apl_workspace.specs.Workspace.{IsFull, PlainWorkspace, with_global, workspace_weight}
use Rattle.apl_workspace.specs.declared.meaning.Meaning.TheVariants.{Function}
use Rattle.fn_editor.specs.Editor.{defined_function}
use Rattle.fn_editor.proofs.editor.Editor.close.Goals as goal

within : (a b : ℕ) → true ≡ nat_le a b → a ≤ b
within a b e = grind (arith, nat_tests)

wanted_room : {T : Type 0} (r : Result T Fail) (why : Fail) (w : PlainWorkspace) → r ≡ Err why → why ≡ WantOfMemory → true ≡ nat_le (workspace_weight w) most_weight → IfErr r (IsFull w)
wanted_room {T} r why w is same fits = subst (λ (x : Result T Fail). IfErr x (IsFull w)) (sym is) (subst (λ (fail : Fail). IsFull w fail) (sym same) (within (workspace_weight w) most_weight fits))

pub returns-in_err-function-clause-full : goal.returns-in_err-function-clause-full
returns-in_err-function-clause-full c =
    let ws = c.args.ws.now in
    let function = defined_function c.args.self in
    let fits : true ≡ nat_le (workspace_weight (with_global ws c.args.self.header.name (Function function))) most_weight =
    sym c.if-not-has_room.false ∙ c.has_room.ensures (Function function) c.weight-weight.ensures ∙ ap (λ (n : List ℕ). nat_le (workspace_weight (with_global ws n (Function function))) most_weight) c.name-name.ensures in
    let exit = err_from_is_err_and c.from_residual.result c.from_residual.ensures.1 in
    let why : exit.0 ≡ WantOfMemory = cc exit.2 in
    wanted_room c.from_residual.result exit.0 (with_global ws c.args.self.header.name (Function function)) exit.1 why fits
