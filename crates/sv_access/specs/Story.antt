use Rattle.std.specs.Prelude.{ℕ, Bool, false, ◌&&◌, not, if◌then◌else◌, List, [], ◌∷◌, Option, Some, None, option_map, find}
use Rattle.std.specs.List.{list_any}
use Rattle.std.specs.Option.{option_map_or}
use Rattle.sv_access.specs.declared.access.Side.{Side}
use Rattle.sv_access.specs.declared.access.Kind.{Kind}
use Rattle.sv_access.specs.declared.access.Kind.TheVariants.{Set, Use}
use Rattle.sv_access.specs.declared.control.Control.{Control}
use Rattle.sv_access.specs.declared.state.AccessState.{AccessState}
use Rattle.sv_access.specs.declared.state.AccessState.TheVariants.{Quiet}
use Rattle.sv_access.specs.declared.verdict.Verdict.{Verdict}
use Rattle.sv_access.specs.declared.verdict.Verdict.TheVariants.{Granted, Held}
use Rattle.sv_access.specs.Access.{Access, other_side, same_side, is_set}
use Rattle.sv_access.specs.Control.{has_element}
use Rattle.sv_access.specs.State.{state_after, quiet_vector, own_unseen_vector, partners_unseen_vector}
use Rattle.sv_access.specs.Table.{element_of}

-- the granted accesses of a coupling, or of an offer that is open, the newest first
abbrev pub Story : Type 0 → Type 0
Story V = List (Access V)

-- the last set of a story, if it has one
abbrev pub last_set : {V : Type 0} → Story V → Option (Access V)
last_set story = find (λ access. is_set access.kind) story

-- the value of the last set
abbrev pub last_value : {V : Type 0} → Story V → Option V
last_value story = option_map (λ access. access.value) (last_set story)

-- the accesses that follow the last set, which are uses, or all of them where there is no set
abbrev pub uses_since_set : {V : Type 0} → Story V → Story V
uses_since_set [] = []
uses_since_set (access ∷ story) = if is_set access.kind then [] else access ∷ uses_since_set story

-- this side was the last to set
abbrev pub is_last_setter : {V : Type 0} → Side → Story V → Bool
is_last_setter side story = option_map_or (λ access. same_side access.side side) (last_set story) false

-- a use by this side follows the last set
abbrev pub has_used_since : {V : Type 0} → Side → Story V → Bool
has_used_since side story = list_any (λ access. same_side access.side side) (uses_since_set story)

-- this side's set waits to be seen: it was the last to set, and the other side has used nothing since
abbrev pub is_unseen : {V : Type 0} → Side → Story V → Bool
is_unseen side story = is_last_setter side story && not (has_used_since (other_side side) story)

-- an access comes early: a set while a set of its own side is unseen, a use while no set of the other side is
abbrev pub is_early : {V : Type 0} → Story V → Side → Kind → Bool
is_early story side Set = is_unseen side story
is_early story side Use = not (is_unseen (other_side side) story)

-- the element that refuses an access, if one does: its own in A's view, where the control in force has it and the access is early
abbrev pub refused_element : {V : Type 0} → Control → Story V → Side → Kind → Option ℕ
refused_element joint story side kind =
    if has_element joint (element_of side kind) && is_early story side kind then Some (element_of side kind) else None

-- the verdict over a story: held by the element that refuses the access, else granted
abbrev pub verdict_of_story : {V : Type 0} → Control → Story V → Side → Kind → Verdict
verdict_of_story joint story side kind = option_map_or Held (refused_element joint story side kind) Granted

-- the state vector of a story in a side's view
abbrev pub vector_of_story : {V : Type 0} → Story V → Side → Control
vector_of_story story side =
    if is_unseen side story then own_unseen_vector else (if is_unseen (other_side side) story then partners_unseen_vector else quiet_vector)

-- the state of a story: Quiet before the first access, and then as each access leaves it
abbrev pub state_of_story : {V : Type 0} → Story V → AccessState
state_of_story [] = Quiet
state_of_story (access ∷ story) = state_after (state_of_story story) access.side access.kind
