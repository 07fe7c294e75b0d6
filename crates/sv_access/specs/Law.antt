use Rattle.std.specs.Prelude.{◌≡◌, ℕ, ◌↔◌, IsTrue, ◌∷◌, not}
use Rattle.sv_access.specs.declared.access.Side.{Side}
use Rattle.sv_access.specs.declared.access.Side.TheVariants.{A, B}
use Rattle.sv_access.specs.declared.access.Kind.{Kind}
use Rattle.sv_access.specs.declared.access.Kind.TheVariants.{Set, Use}
use Rattle.sv_access.specs.declared.control.Control.{Control}
use Rattle.sv_access.specs.declared.state.AccessState.{AccessState}
use Rattle.sv_access.specs.declared.state.AccessState.TheVariants.{Quiet, UnseenA, UnseenB}
use Rattle.sv_access.specs.Access.{Access, other_side}
use Rattle.sv_access.specs.Control.{has_element, combined, in_view}
use Rattle.sv_access.specs.State.{state_after, vector_of_state}
use Rattle.sv_access.specs.Table.{element_of, verdict_of, owners_among, owners_of, NamesAnElement}
use Rattle.sv_access.specs.Story.{Story, is_unseen, verdict_of_story, vector_of_story, state_of_story}

-- the state of a story says whose set is unseen
pub record SaysWhoseSetIsUnseen (V : Type 0) (story : Story V) : Type 0 where
  pub of_a : (state_of_story story ≡ UnseenA) ↔ IsTrue (is_unseen A story)
  pub of_b : (state_of_story story ≡ UnseenB) ↔ IsTrue (is_unseen B story)
  pub of_neither : (state_of_story story ≡ Quiet) ↔ (IsTrue (not (is_unseen A story)) × IsTrue (not (is_unseen B story)))

-- each story's state says whose set is unseen
abbrev pub StatesFollowStories : Type 0 → Type 0
StatesFollowStories V = (story : Story V) → SaysWhoseSetIsUnseen V story

-- one granted access more moves the state by the table
abbrev pub AccessesMoveTheState : Type 0 → Type 0
AccessesMoveTheState V =
    (access : Access V) (story : Story V) → state_of_story (access ∷ story) ≡ state_after (state_of_story story) access.side access.kind

-- the verdict by control and state is the verdict over the story
abbrev pub VerdictsFollowStories : Type 0 → Type 0
VerdictsFollowStories V =
    (joint : Control) (story : Story V) (side : Side) (kind : Kind) →
    verdict_of joint (state_of_story story) side kind ≡ verdict_of_story joint story side kind

-- a verdict over a story that holds an access names one of the four elements, and the control in force has 1 there
abbrev pub RefusalsNameAnElement : Type 0 → Type 0
RefusalsNameAnElement V =
    (joint : Control) (story : Story V) (side : Side) (kind : Kind) → NamesAnElement joint (verdict_of_story joint story side kind)

-- the vector by state is the vector over the story
abbrev pub VectorsFollowStories : Type 0 → Type 0
VectorsFollowStories V = (story : Story V) (side : Side) → vector_of_state (state_of_story story) side ≡ vector_of_story story side

-- a state's vector in a side's view is its vector in A's view as that side sees it
abbrev pub StatesHaveOneVector : Type 0
StatesHaveOneVector = (state : AccessState) (side : Side) → vector_of_state state side ≡ in_view side (vector_of_state state A)

-- what B sees of the control in force is what A would, were the two vectors exchanged
abbrev pub SidesJoinAlike : Type 0
SidesJoinAlike = (a b : Control) → in_view B (combined a b) ≡ combined b a

-- the vector that a side set, in its own view, by A's and B's
abbrev pub vector_by : Control → Control → Side → Control
vector_by a b A = a
vector_by a b B = b

-- the number of an access as its own side counts: 1 of a set, 3 of a use
abbrev pub my_element : Kind → ℕ
my_element Set = 1
my_element Use = 3

-- the element of my access in the partner's view: set by the partner, use by the partner
abbrev pub partners_element : Kind → ℕ
partners_element Set = 2
partners_element Use = 4

-- the owners are those whose own vector, in its own view, has 1 at the access of the refused side: mine, the partner's or both
abbrev pub OwnersAreAsTheRefusedSideSees : Type 0
OwnersAreAsTheRefusedSideSees =
    (a b : Control) (side : Side) (kind : Kind) →
    owners_of a b side (element_of side kind) ≡
    owners_among (has_element (vector_by a b side) (my_element kind)) (has_element (vector_by a b (other_side side)) (partners_element kind))
