-- An assignment of an array that is all that a statement holds: it stays where it is.
use Rattle.std.proofs.Common.{◌≡◌, ◌≤◌, ◌++◌, ℕ, true, List, [], ◌∷◌, refl, sym, ap, ◌∙◌, arith}
use Rattle.std.specs.Prelude.{Some, Result, Ok, map, reverse}
use Rattle.std.proofs.lemmas.List.Elements.{All-push}
use Rattle.apl_arrays.specs.Array.{PlainArray}
use Rattle.apl_arrays.specs.declared.report.Fail.{Fail}
use Rattle.apl_items.specs.Places.{OnWantOfMemory}
use Rattle.apl_workspace.specs.Limits.{most_weight}
use Rattle.apl_workspace.specs.Workspace.{PlainWorkspace, assigned, is_assignable, look, workspace_weight}
use Rattle.apl_meaning.specs.Nodes.{assign_step}
use Rattle.apl_meaning.specs.State.{gives}
use Rattle.apl_meaning.specs.Variables.{assignment}
use Rattle.apl_values.specs.declared.values.StackValue.{StackValue}
use Rattle.apl_values.specs.declared.values.StackValue.TheVariants as held
use Rattle.apl_values.specs.Pending.{assigned_giving}
use Rattle.apl_values.specs.Values.{IsStackValue, settled, stack_value}
use Rattle.apl_statements.specs.declared.evaluation.Evaluation.{Evaluation}
use Rattle.apl_statements.specs.declared.flow.Flow.{Flow}
use Rattle.apl_statements.specs.declared.flow.Flow.TheVariants as flow
use Rattle.apl_statements.specs.Interpreter.{PlainInterpreter, state_at}
use Rattle.apl_statements.specs.Moves.{Comes, Does, part_gives, part_takes}
use Rattle.apl_statements.specs.Sound.{IsCaller, IsEvaluation}
use Rattle.apl_statements.specs.Holding.{IsWithValues, parts_of, stack_values}
use Rattle.apl_statements.specs.Wants.{NoReportIsDue}
use Rattle.apl_statements.proofs.Gives.{push_comes, with_values_sound}
use Rattle.apl_statements.proofs.Renewing.{on, settled_sound}
use Rattle.apl_statements.proofs.Same.{comes_as}
use Rattle.apl_statements.proofs.Taken.{assign_takes, taken_sound}
use Rattle.apl_answers.proofs.Behind.{gets, goes_behind}
use Rattle.apl_answers.proofs.Wanting.{assign_wants}

-- a statement without its values
abbrev emptied : Evaluation → Evaluation
emptied e = record e { values = record e.values { items = []; len = 0; ok = (refl, omega arith) } }

-- it differs in its values alone, and none of them changes
emptied_stays : (w : PlainWorkspace) (e : Evaluation) → IsWithValues (emptied e) (map (settled w) (emptied e).values.items) (emptied e)
emptied_stays w e = record { same = refl; values = refl }

-- and with the array it is the statement again
filled : (e : Evaluation) (array : PlainArray) → e.values.items ≡ held.Made array ∷ [] → IsWithValues (emptied e) ((emptied e).values.items ++ held.Made array ∷ []) e
filled e array holds = record { same = refl; values = holds }

-- it waits on any workspace
emptied_waits : (w v : PlainWorkspace) (e : Evaluation) (array : PlainArray) → e.values.items ≡ held.Made array ∷ [] → IsCaller w e → IsCaller v (emptied e)
emptied_waits w v e array holds is = settled_sound w v (emptied e) (emptied e) (taken_sound w e (emptied e) (held.Made array ∷ []) refl holds is) (emptied_stays w e)

-- the statement stands on any workspace
pub alone_sound : (w v : PlainWorkspace) (e : Evaluation) (array : PlainArray) → e.values.items ≡ held.Made array ∷ [] → IsCaller w e → IsEvaluation v e
alone_sound w v e array holds is =
    let waits : IsCaller v (emptied e) = emptied_waits w v e array holds is in
    with_values_sound v (emptied e) e ((emptied e).values.items ++ held.Made array ∷ []) waits.evaluation
    (All-push (IsStackValue v (parts_of (emptied e))) (emptied e).values.items (held.Made array) waits.evaluation.values refl) (filled e array holds)

-- the array is the newest value
pub alone_newest : (w : PlainWorkspace) (e : Evaluation) (array value : PlainArray) (values : List PlainArray) → e.values.items ≡ held.Made array ∷ [] → stack_values w e ≡ value ∷ values → array ≡ value
alone_newest w e array value values holds are =
    let both : array ∷ [] ≡ value ∷ values = sym (ap (λ (list : List StackValue). reverse (map (stack_value w (parts_of e)) list)) holds) ∙ are in
    cc

-- the name has the array, and the statement goes on with it
pub alone_assigned : (m n : PlainInterpreter) (e : Evaluation) (name : List ℕ) (array : PlainArray) → e.values.items ≡ held.Made array ∷ [] → IsCaller m.workspace e → n ≡ on m (assigned m.workspace name array) → Does m (assignment name array) n
    → Comes m (part_takes m e (assign_step name)) 0 n (Ok (flow.Evaluates e))
alone_assigned m n e name array holds sound is does =
    let before : Evaluation = emptied e in
    let next : Result Flow Fail = Ok (flow.Evaluates e) in
    comes_as m n (part_takes m e (assign_step name)) (part_gives m before (assigned_giving name array array)) 0 next (λ asked count taken further.
    assign_takes m e before name (held.Made array) array (state_at m asked count taken further) refl holds refl)
    (goes_behind m n (assigned m.workspace name array) before before (assignment name array) (λ s. gives (Some array) s) next is does (emptied_stays m.workspace e)
    (gets n before (held.Made array) array next refl (push_comes n before e (held.Made array) (emptied_waits m.workspace n.workspace e array holds sound) (filled e array holds))))

-- where memory ran out for it, no report was due
pub alone_wants : {T : Type 0} (r : Result T Fail) (m : PlainInterpreter) (e : Evaluation) (name : List ℕ) (array : PlainArray) → e.values.items ≡ held.Made array ∷ [] → OnWantOfMemory r (is_assignable (look m.workspace name) ≡ true)
    → OnWantOfMemory r (workspace_weight (assigned m.workspace name array) ≤ most_weight) → OnWantOfMemory r (NoReportIsDue m (assign_step name (stack_values m.workspace e)))
alone_wants r m e name array holds may fits = assign_wants r m e (emptied e) name (held.Made array) array refl holds refl may (λ apart. fits)
