-- Calls and expressions are steady, where what is begun under them is.
use Rattle.std.proofs.Common.{ℕ, List, [], ◌∷◌, refl, arith, length}
use Rattle.std.specs.Prelude.{ℤ, Option, Some, None, nat_le}
use Rattle.apl_arrays.specs.Array.{PlainArray}
use Rattle.apl_arrays.specs.declared.report.Report.TheVariants.{Syntax, Value, WsFull}
use Rattle.apl_selection.specs.Indexing.{selection_of}
use Rattle.apl_workspace.specs.Function.{PlainFunction}
use Rattle.apl_workspace.specs.Limits.{most_depth}
use Rattle.apl_workspace.specs.Workspace.{look, with_frame, without_frame}
use Rattle.apl_workspace.specs.declared.args.Args.{Args}
use Rattle.apl_workspace.specs.declared.meaning.Meaning.{Meaning}
use Rattle.apl_workspace.specs.declared.meaning.Meaning.TheVariants as meaning
use Rattle.line_trees.specs.declared.tree.Fun.{Fun}
use Rattle.line_trees.specs.declared.tree.Fun.TheVariants as fun
use Rattle.line_trees.specs.Trees.{Expr, constant, value, niladic, paren, indexed, monadic, monadic_along, dyadic, dyadic_along, assign, assign_at, Subscripts, no_more, omitted, given as given_subscript}
use Rattle.apl_meaning.specs.State.{State, Outcome}
use Rattle.apl_items.specs.Answers.{answer_of, shape_faults}
use Rattle.apl_meaning.specs.Verbs.{named_axis}
use Rattle.apl_meaning.specs.Tasks.{Run, Task, lines_from}
use Rattle.apl_meaning.specs.Calls.{entering, leaving, call, call_by, takes}
use Rattle.apl_meaning.specs.Expressions.{Found, constant_array, needed, needed_value, valued, performed, performed_along, evaluated, evaluated_subscripts}
use Rattle.apl_meaning.proofs.Steady.{IsSteady, as_before, quiet, given, refused, resulting, by_bool, by_workspace, by_here, weighed, both}
use Rattle.apl_meaning.proofs.Names.{referred, assigns, assigns_items, applies, systematic}

-- whatever is begun is steady
abbrev pub IsSteadyRun : Run → Type 0
IsSteadyRun run = (task : Task) → IsSteady (run task)

-- ---- calls

pub enters : (name : List ℕ) (args : Args) → IsSteady (entering name args)
enters name args = by_workspace (λ w. by_bool (nat_le most_depth (length w.frames)) (refused WsFull) (weighed (λ _. with_frame w name args)))

pub leaves : (function : PlainFunction) (caller : List ℕ) → IsSteady (leaving function caller)
leaves function caller = quiet (λ s. tt) (λ s more. refl) (λ s. as_before s (record s { workspace = without_frame s.workspace; here = caller }) refl refl (omega arith) (omega arith)) (λ s. refl) (λ s. refl)

called_by : (run : Run) → IsSteadyRun run → (m : Meaning) (name : List ℕ) (args : Args) → IsSteady (call_by run m name args)
called_by run h meaning.Nothing name args = refused Syntax
called_by run h (meaning.Value v) name args = refused Syntax
called_by run h (meaning.Function function) name args =
    by_bool (takes function.header args) (by_here (λ here. both (enters name args) (λ _. both (h (lines_from function 1)) (λ _. leaves function here)))) (refused Syntax)
called_by run h (meaning.Label line) name args = refused Syntax
called_by run h (meaning.Shared copy) name args = refused Syntax

calls : (run : Run) → IsSteadyRun run → (name : List ℕ) (args : Args) → IsSteady (call run name args)
calls run h name args = by_workspace (λ w. called_by run h (look w name) name args)

-- ---- values

needs_value : (found : Found) → IsSteady (needed_value found)
needs_value None = refused Value
needs_value (Some v) = given v

pub needs : {f : State → Outcome Found} → IsSteady f → IsSteady (λ (s : State). needed (f s))
needs h = both h needs_value

values : {f : State → Outcome PlainArray} → IsSteady f → IsSteady (λ (s : State). valued (f s))
values h = both h (λ v. given (Some v))

performs : (run : Run) → IsSteadyRun run → (f : Fun) (left : Found) (right : PlainArray) (axis : Option ℤ) → IsSteady (performed run f left right axis)
performs run h (fun.Verb f) left right axis = values (applies f left right axis)
performs run h (fun.Defined name) left right axis = calls run h name (record { left = left; right = Some right })
performs run h (fun.System name) left right axis = values (systematic name left right)

performs_along : (run : Run) → IsSteadyRun run → (f : Fun) (left : Found) (axis right : PlainArray) → IsSteady (performed_along run f left axis right)
performs_along run h f left axis right = both (resulting (named_axis axis)) (λ k. performs run h f left right (Some k))

-- ---- expressions

mutual
  pub evaluates : (run : Run) → IsSteadyRun run → (e : Expr) → IsSteady (evaluated run e)
  evaluates run h (constant items) = values (resulting (answer_of (shape_faults (constant_array items).shape) (constant_array items)))
  evaluates run h (value name) = values (referred name)
  evaluates run h (niladic name) = calls run h name (record { left = None; right = None })
  evaluates run h (paren e) = evaluates run h e
  evaluates run h (indexed e subs) = both (evaluates_all run h subs) (λ subs. both (needs (evaluates run h e)) (λ array. values (resulting (selection_of array subs))))
  evaluates run h (monadic f right) = both (needs (evaluates run h right)) (λ right. performs run h f None right None)
  evaluates run h (monadic_along f axis right) =
      both (needs (evaluates run h right)) (λ right. both (needs (evaluates run h axis)) (λ axis. performs_along run h f None axis right))
  evaluates run h (dyadic f left right) =
      both (needs (evaluates run h right)) (λ right. both (needs (evaluates run h left)) (λ left. performs run h f (Some left) right None))
  evaluates run h (dyadic_along f left axis right) =
      both (needs (evaluates run h right)) (λ right.
      both (needs (evaluates run h axis)) (λ axis.
      both (needs (evaluates run h left)) (λ left. performs_along run h f (Some left) axis right)))
  evaluates run h (assign name right) = both (needs (evaluates run h right)) (λ right. both (assigns name right) (λ _. given (Some right)))
  evaluates run h (assign_at name subs right) =
      both (needs (evaluates run h right)) (λ right.
      both (evaluates_all run h subs) (λ subs. both (assigns_items name subs right) (λ _. given (Some right))))

  pub evaluates_all : (run : Run) → IsSteadyRun run → (subs : Subscripts) → IsSteady (evaluated_subscripts run subs)
  evaluates_all run h no_more = given []
  evaluates_all run h (omitted more) = both (evaluates_all run h more) (λ others. given (None ∷ others))
  evaluates_all run h (given_subscript e more) =
      both (evaluates_all run h more) (λ others. both (needs (evaluates run h e)) (λ sub. given (Some sub ∷ others)))
