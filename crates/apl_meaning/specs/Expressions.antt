-- The order of evaluation of an expression: the right argument, the axis, the left argument, and then the function; subscripts from the last to the first, and then what they index; in an assignment the right side, the subscripts, and then the target.
use Rattle.std.specs.Prelude.{ℤ, List, [], ◌∷◌, Option, Some, None, if◌then◌else◌, ◌==◌}
use Rattle.apl_arrays.specs.Array.{PlainArray, PlainItems, item_count}
use Rattle.apl_arrays.specs.declared.report.Report.TheVariants.{Value}
use Rattle.apl_items.specs.Answers.{answer_of, shape_faults}
use Rattle.apl_selection.specs.Indexing.{selection_of}
use Rattle.line_trees.specs.declared.tree.Fun.{Fun}
use Rattle.line_trees.specs.declared.tree.Fun.TheVariants as fun
use Rattle.line_trees.specs.Trees.{Expr, constant, value, niladic, paren, indexed, monadic, monadic_along, dyadic, dyadic_along, assign, assign_at, Subscripts, no_more, omitted, given}
use Rattle.apl_meaning.specs.State.{State, Outcome, gives, refuses, and_then, outcome_of}
use Rattle.apl_meaning.specs.Variables.{assignment, items_assignment, reference}
use Rattle.apl_meaning.specs.Verbs.{application, named_axis}
use Rattle.apl_meaning.specs.Queries.{system_outcome}
use Rattle.apl_meaning.specs.Tasks.{Run}
use Rattle.apl_meaning.specs.Calls.{call}

-- a value, or none where a function gave none
abbrev pub Found : Type 0
Found = Option PlainArray

-- a value where one is needed
abbrev pub needed_value : Found → State → Outcome PlainArray
needed_value None s = refuses Value s
needed_value (Some found) s = gives found s

-- an expression whose value is needed
abbrev pub needed : Outcome Found → Outcome PlainArray
needed found = and_then found needed_value

-- an expression that has a value
abbrev pub valued : Outcome PlainArray → Outcome Found
valued found = and_then found (λ v s. gives (Some v) s)

-- the array of a constant: one item is a scalar, and any other count is a vector
abbrev pub constant_array : PlainItems → PlainArray
constant_array items = record { shape = if item_count items == 1 then [] else item_count items ∷ []; items = items }

-- a constant, unless it would be too large
abbrev pub constant_outcome : PlainItems → State → Outcome PlainArray
constant_outcome items s = outcome_of (answer_of (shape_faults (constant_array items).shape) (constant_array items)) s

-- a function of its arguments, all of which are evaluated
abbrev pub performed : Run → Fun → Found → PlainArray → Option ℤ → State → Outcome Found
performed run (fun.Verb f) left right axis s = valued (application f left right axis s)
performed run (fun.Defined name) left right axis s = call run name (record { left = left; right = Some right }) s
performed run (fun.System name) left right axis s = valued (system_outcome name left right s)

-- a function along an axis, which is looked at when all arguments are evaluated
abbrev pub performed_along : Run → Fun → Found → PlainArray → PlainArray → State → Outcome Found
performed_along run f left axis right s = and_then (outcome_of (named_axis axis) s) (λ k s. performed run f left right (Some k) s)

-- an expression; subscripts
abbrev mutual
  pub evaluated : Run → Expr → State → Outcome Found
  evaluated run (constant items) s = valued (constant_outcome items s)
  evaluated run (value name) s = valued (reference name s)
  evaluated run (niladic name) s = call run name (record { left = None; right = None }) s
  evaluated run (paren e) s = evaluated run e s
  evaluated run (indexed e subs) s =
      and_then (evaluated_subscripts run subs s) (λ subs s.
      and_then (needed (evaluated run e s)) (λ array s. valued (outcome_of (selection_of array subs) s)))
  evaluated run (monadic f right) s =
      and_then (needed (evaluated run right s)) (λ right s. performed run f None right None s)
  evaluated run (monadic_along f axis right) s =
      and_then (needed (evaluated run right s)) (λ right s.
      and_then (needed (evaluated run axis s)) (λ axis s. performed_along run f None axis right s))
  evaluated run (dyadic f left right) s =
      and_then (needed (evaluated run right s)) (λ right s.
      and_then (needed (evaluated run left s)) (λ left s. performed run f (Some left) right None s))
  evaluated run (dyadic_along f left axis right) s =
      and_then (needed (evaluated run right s)) (λ right s.
      and_then (needed (evaluated run axis s)) (λ axis s.
      and_then (needed (evaluated run left s)) (λ left s. performed_along run f (Some left) axis right s)))
  evaluated run (assign name right) s =
      and_then (needed (evaluated run right s)) (λ right s.
      and_then (assignment name right s) (λ _ s. gives (Some right) s))
  evaluated run (assign_at name subs right) s =
      and_then (needed (evaluated run right s)) (λ right s.
      and_then (evaluated_subscripts run subs s) (λ subs s.
      and_then (items_assignment name subs right s) (λ _ s. gives (Some right) s)))

  pub evaluated_subscripts : Run → Subscripts → State → Outcome (List (Option PlainArray))
  evaluated_subscripts run no_more s = gives [] s
  evaluated_subscripts run (omitted more) s = and_then (evaluated_subscripts run more s) (λ others s. gives (None ∷ others) s)
  evaluated_subscripts run (given e more) s =
      and_then (evaluated_subscripts run more s) (λ others s.
      and_then (needed (evaluated run e s)) (λ sub s. gives (Some sub ∷ others) s))
