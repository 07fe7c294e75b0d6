use Rattle.std.specs.Prelude.{Bool, true, false}
use Rattle.sv_access.specs.declared.access.Side.{Side}
use Rattle.sv_access.specs.declared.access.Side.TheVariants.{A, B}
use Rattle.sv_access.specs.declared.access.Kind.{Kind}
use Rattle.sv_access.specs.declared.access.Kind.TheVariants.{Set, Use}
use Rattle.sv_access.specs.declared.control.Control.{Control}
use Rattle.sv_access.specs.declared.state.AccessState.{AccessState}
use Rattle.sv_access.specs.declared.state.AccessState.TheVariants.{Quiet, UnseenA, UnseenB}
use Rattle.sv_access.specs.Control.{four_elements}

-- the two are one state
abbrev pub same_state : AccessState → AccessState → Bool
same_state Quiet Quiet = true
same_state UnseenA UnseenA = true
same_state UnseenB UnseenB = true
same_state Quiet UnseenA = false
same_state Quiet UnseenB = false
same_state UnseenA Quiet = false
same_state UnseenA UnseenB = false
same_state UnseenB Quiet = false
same_state UnseenB UnseenA = false

-- the state once a side has used the value: what the other side had set is unseen no longer
abbrev pub state_after_use : AccessState → Side → AccessState
state_after_use Quiet side = Quiet
state_after_use UnseenA A = UnseenA
state_after_use UnseenA B = Quiet
state_after_use UnseenB A = Quiet
state_after_use UnseenB B = UnseenB

-- the state after a granted access
abbrev pub state_after : AccessState → Side → Kind → AccessState
state_after state A Set = UnseenA
state_after state B Set = UnseenB
state_after state side Use = state_after_use state side

-- no set is unseen: each side's use would come early
abbrev pub quiet_vector : Control
quiet_vector = four_elements false false true true

-- my own set is unseen: my next set and my use would come early
abbrev pub own_unseen_vector : Control
own_unseen_vector = four_elements true false true false

-- the partner's set is unseen: its next set and its use would come early
abbrev pub partners_unseen_vector : Control
partners_unseen_vector = four_elements false true false true

-- which accesses come early in a state, as a side counts them: a set of its own, of the other side, a use of its own,
-- of the other side
abbrev pub vector_of_state : AccessState → Side → Control
vector_of_state Quiet side = quiet_vector
vector_of_state UnseenA A = own_unseen_vector
vector_of_state UnseenA B = partners_unseen_vector
vector_of_state UnseenB A = partners_unseen_vector
vector_of_state UnseenB B = own_unseen_vector
