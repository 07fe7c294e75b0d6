use Rattle.std.specs.Prelude.{◌≡◌, Bool, true, false, Option, Some, None, is_some}
use Rattle.apl_arrays.specs.Array.{PlainArray}
use Rattle.sv_access.specs.declared.access.Side.{Side}
use Rattle.sv_access.specs.declared.access.Side.TheVariants.{A, B}
use Rattle.sv_access.specs.declared.access.Kind.{Kind}
use Rattle.sv_access.specs.declared.access.Kind.TheVariants.{Set, Use}
use Rattle.sv_access.specs.declared.state.AccessState.{AccessState}
use Rattle.sv_access.specs.declared.state.AccessState.TheVariants.{Quiet}
use Rattle.sv_access.specs.State.{state_after}
use Rattle.sv_access.specs.Story.{Story, last_value, state_of_story}

-- what is kept of a coupling: the value that each side knows, the state, and the side that set last
pub record PlainShare : Type 0 where
  pub a : Option PlainArray
  pub b : Option PlainArray
  pub state : AccessState
  pub last : Side

-- the state where a side set all that was set, and the other has seen nothing
abbrev pub unseen_by_other : Side → Bool → AccessState
unseen_by_other side true = state_after Quiet side Set
unseen_by_other side false = Quiet

-- the state of an offer that is open, by whether its party knows a value: the party is side A
abbrev pub alone : Bool → AccessState
alone known = unseen_by_other A known

-- the side that gives the first value: A where it knows one, else B
abbrev pub giver : Option PlainArray → Side
giver (Some value) = A
giver None = B

-- the value that a side knows
abbrev pub known_to : PlainShare → Side → Option PlainArray
known_to share A = share.a
known_to share B = share.b

-- a side comes to know a value
abbrev pub knowing : PlainShare → Side → PlainArray → PlainShare
knowing share A value = record share { a = Some value }
knowing share B value = record share { b = Some value }

-- the value that a use gives: the one that the side knows that set last
abbrev pub shared_value : PlainShare → Option PlainArray
shared_value share = known_to share share.last

-- the state that the giver's value leaves: unseen where it knows one
abbrev pub given_state : PlainShare → AccessState
given_state share = unseen_by_other share.last (is_some (shared_value share))

-- the share of two offers that couple, by the values that their parties know
abbrev pub share_of : Option PlainArray → Option PlainArray → PlainShare
share_of a b = record { a = a; b = b; state = given_state (record { a = a; b = b; state = Quiet; last = giver a }); last = giver a }

-- the share after a set
abbrev pub after_set : PlainShare → Side → PlainArray → PlainShare
after_set share side value = record (knowing share side value) { state = state_after share.state side Set; last = side }

-- the share after a use that got a value
abbrev pub after_use : PlainShare → Side → PlainArray → PlainShare
after_use share side value = record (knowing share side value) { state = state_after share.state side Use }

-- the share after an access, be it a set or a use that got a value
abbrev pub after_access : PlainShare → Side → Kind → PlainArray → PlainShare
after_access share side Set value = after_set share side value
after_access share side Use value = after_use share side value

-- the share after a use, which changes nothing where there is no value
abbrev pub after_get : PlainShare → Side → Option PlainArray → PlainShare
after_get share side None = share
after_get share side (Some value) = after_use share side value

-- the share is that of a coupling with this story: it has the story's state, and a use gives the value that was set last
pub record IsShareOf (story : Story PlainArray) (share : PlainShare) : Type 0 where
  pub state : share.state ≡ state_of_story story
  pub value : shared_value share ≡ last_value story
