-- A story, one entry later.
use Rattle.std.specs.Prelude.{Bool, true, false, Option, Some, None, option_map, if◌then◌else◌}
use Rattle.apl_arrays.specs.Array.{PlainArray}
use Rattle.sv_access.specs.Access.{is_set}
use Rattle.sv_access.specs.State.{state_after}
use Rattle.sv_access.specs.declared.access.Kind.{Kind}
use Rattle.sv_access.specs.declared.access.Side.{Side}
use Rattle.sv_access.specs.declared.access.Side.TheVariants.{A, B}
use Rattle.sv_access.specs.declared.state.AccessState.{AccessState}
use Rattle.sv_access.specs.declared.state.AccessState.TheVariants.{Quiet, UnseenA, UnseenB}
use Rattle.sv_events.specs.Entry.{PlainEntry}
use Rattle.sv_rules.specs.Story.{GrantedAccess, access_on}
use Rattle.sv_rules.specs.declared.coupling.Coupling.{Coupling}

-- the state once a side made an access, if it made one
abbrev pub state_with : AccessState → Side → Option Kind → AccessState
state_with before side None = before
state_with before side (Some kind) = state_after before side kind

-- the last value set once an access was made, if one was: a use sets none
abbrev pub value_with : Option PlainArray → Option GrantedAccess → Option PlainArray
value_with before None = before
value_with before (Some access) = if is_set access.kind then Some access.value else before

-- a set of this side is unseen in the state
abbrev pub is_unseen_by : AccessState → Side → Bool
is_unseen_by Quiet side = false
is_unseen_by UnseenA A = true
is_unseen_by UnseenA B = false
is_unseen_by UnseenB A = false
is_unseen_by UnseenB B = true

-- the state once an entry made its accesses on both sides of a coupling, and the last value set
abbrev pub state_with_both : AccessState → Coupling → PlainEntry → AccessState
state_with_both before coupling e =
    state_with (state_with before B (option_map (λ access. access.kind) (access_on coupling.b e))) A (option_map (λ access. access.kind) (access_on coupling.a e))

-- the last value set once an entry made its accesses on both sides
abbrev pub value_with_both : Option PlainArray → Coupling → PlainEntry → Option PlainArray
value_with_both before coupling e = value_with (value_with before (access_on coupling.b e)) (access_on coupling.a e)
