-- What a shared variable function does for one row, and then for all.
use Rattle.std.specs.Prelude.{◌++◌, ℕ, ℤ, pos, Bool, true, false, List, [], ◌∷◌, Option, Some, None, map, option_map, unwrap_or}
use Rattle.apl_arrays.specs.Array.{PlainArray}
use Rattle.apl_scalar.specs.Table.{truth}
use Rattle.apl_workspace.specs.Workspace.{global_in, is_shared, marked, unmarked}
use Rattle.apl_workspace.specs.declared.meaning.Meaning.{Meaning}
use Rattle.apl_workspace.specs.declared.meaning.Meaning.TheVariants as meaning
use Rattle.sv_access.specs.declared.control.Control.{Control}
use Rattle.sv_events.specs.Answer.{PlainAnswer}
use Rattle.sv_events.specs.Row.{answer_row}
use Rattle.sv_events.specs.declared.event.Act.{Act}
use Rattle.sv_events.specs.declared.event.Act.TheVariants as act
use Rattle.apl_meaning.specs.State.{State, Outcome, gives, and_then}
use Rattle.apl_meaning.specs.Answers.{answered_act}
use Rattle.apl_meaning.specs.Naming.{Naming}

-- what is done for a row
pub data Deed : Type 0 where
  offer : ℕ → Deed
  ask_degree : Deed
  set_control : Control → Deed
  ask_control : Deed
  ask_state : Deed
  retract : Deed

-- the value that a global name has, shared or not
abbrev pub value_of : Meaning → Option PlainArray
value_of meaning.Nothing = None
value_of (meaning.Value value) = Some value
value_of (meaning.Function function) = None
value_of (meaning.Label line) = None
value_of (meaning.Shared copy) = copy

-- the degree that an answer tells
abbrev pub degree_in : PlainAnswer → List ℤ
degree_in answer = pos (unwrap_or (answer_row answer).row.degree 0) ∷ []

-- the elements of a control
abbrev pub control_elements : Control → List ℤ
control_elements control = map truth control.0

-- four zeros
abbrev pub zeros : List ℤ
zeros = pos 0 ∷ pos 0 ∷ pos 0 ∷ pos 0 ∷ []

-- the vector that an answer tells
abbrev pub vector_in : PlainAnswer → List ℤ
vector_in answer = unwrap_or (option_map control_elements (answer_row answer).row.vector) zeros

-- a question and what its answer tells
abbrev pub asked_and_told : (PlainAnswer → List ℤ) → Act → State → Outcome (List ℤ)
asked_and_told told asked s = and_then (answered_act asked s) (λ answer s. gives (told answer) s)

-- a name is offered with the value that the global has, and is shared from then on
abbrev pub offering : ℕ → Naming → Option PlainArray → State → Outcome (List ℤ)
offering to names value s =
    and_then (answered_act (act.Offer to names.local names.surrogate value) s) (λ answer s.
    gives (degree_in answer) (record s { workspace = marked s.workspace (record { local = names.local; surrogate = names.surrogate; to = to }) value }))

-- a name is shared no more, and has the value that the answer tells
abbrev pub retraction : List ℕ → State → Outcome (List ℤ)
retraction name s =
    and_then (answered_act (act.Retract name) s) (λ answer s.
    gives (degree_in answer) (record s { workspace = unmarked s.workspace name (answer_row answer).value }))

-- what is done for a name, where it is shared; a name that is not makes no act, and its result is zeros
abbrev pub where_shared : Bool → List ℤ → (State → Outcome (List ℤ)) → State → Outcome (List ℤ)
where_shared false none next s = gives none s
where_shared true none next s = next s

-- what is done for a name is done where it is shared at that moment
abbrev pub if_shared : List ℕ → List ℤ → (State → Outcome (List ℤ)) → State → Outcome (List ℤ)
if_shared name none next s = where_shared (is_shared s.workspace name) none next s

-- what is done for a row, and the numbers of its result
abbrev pub done_for : Deed → Naming → State → Outcome (List ℤ)
done_for (offer to) names s = offering to names (value_of (global_in s.workspace names.local)) s
done_for ask_degree names s = if_shared names.local (pos 0 ∷ []) (asked_and_told degree_in (act.AskDegree names.local)) s
done_for (set_control control) names s = if_shared names.local zeros (asked_and_told vector_in (act.SetControl names.local control)) s
done_for ask_control names s = if_shared names.local zeros (asked_and_told vector_in (act.AskControl names.local)) s
done_for ask_state names s = if_shared names.local zeros (asked_and_told vector_in (act.AskState names.local)) s
done_for retract names s = if_shared names.local (pos 0 ∷ []) (retraction names.local) s

-- rows are done first to last; the numbers of their results follow one another
abbrev pub done_for_all : List (Naming × Deed) → State → Outcome (List ℤ)
done_for_all [] s = gives [] s
done_for_all (row ∷ rows) s =
    and_then (done_for row.1 row.0 s) (λ numbers s. and_then (done_for_all rows s) (λ others s. gives (numbers ++ others) s))
