use Rattle.std.specs.Prelude.{ℕ, ◌==◌, nat_lt, List, [], ◌∷◌, Option, Some, None, unwrap_or, if◌then◌else◌}
use Rattle.apl_arrays.specs.Array.{PlainArray}
use Rattle.sv_access.specs.Control.{combined, no_control}
use Rattle.sv_access.specs.Story.{Story, vector_of_story}
use Rattle.sv_access.specs.declared.access.Side.{Side}
use Rattle.sv_access.specs.declared.access.Side.TheVariants.{A, B}
use Rattle.sv_access.specs.declared.control.Control.{Control}
use Rattle.sv_events.specs.Entry.{PlainEntry}
use Rattle.sv_events.specs.Row.{act_row}
use Rattle.sv_events.specs.declared.row.Controlling.{Controlling}
use Rattle.sv_rules.specs.Coupling.{coupling_now}
use Rattle.apl_arrays.specs.Name.{same_name}
use Rattle.sv_rules.specs.Entries.{Entries, next_place}
use Rattle.sv_rules.specs.Story.{opening, story}
use Rattle.sv_rules.specs.declared.coupling.Coupling.{Coupling}
use Rattle.sv_rules.specs.declared.standing.Standing.{Standing}

-- the control that is set on a local name, if one is
abbrev pub control_to : List ℕ → Option Controlling → Option Control
control_to local None = None
control_to local (Some set) = if same_name set.local local then Some set.control else None

-- the control that an entry sets on an offer: its party's, on its local name
abbrev pub control_on : Standing → PlainEntry → Option Control
control_on offer e = if e.party == offer.party then control_to offer.local (act_row e.act).row.controls else None

-- the vector of an offer, in its party's view: the last control that its party set on it since, else none
abbrev pub vector_of : Entries → Standing → Control
vector_of [] offer = no_control
vector_of (e ∷ journal) offer =
    if nat_lt offer.place (next_place journal) then unwrap_or (control_on offer e) (vector_of journal offer) else no_control

-- the side of the offer at a place
abbrev pub side_at : Coupling → ℕ → Side
side_at coupling place = if coupling.a.place == place then A else B

-- how a party shares a name: the story, the vectors of sides A and B, each in its owner's view, and the party's side
pub record Sharing : Type 0 where
  pub story : Story PlainArray
  pub a : Control
  pub b : Control
  pub side : Side

-- an open offer is shared with nobody, and its party is side A; a coupled one is shared with its partner
abbrev pub sharing_of : Entries → Standing → Option Coupling → Sharing
sharing_of journal offer None = record { story = opening A journal offer; a = vector_of journal offer; b = no_control; side = A }
sharing_of journal offer (Some coupling) = record {
  story = story journal coupling;
  a = vector_of journal coupling.a;
  b = vector_of journal coupling.b;
  side = side_at coupling offer.place;
}

-- how the party of a standing offer shares it
abbrev pub sharing : Entries → Standing → Sharing
sharing journal offer = sharing_of journal offer (coupling_now journal offer.place)

-- the vector of the partner of the offer at a place, in the partner's view: none while the offer is open
abbrev pub partners_vector : Entries → ℕ → Option Coupling → Control
partners_vector journal place None = no_control
partners_vector journal place (Some coupling) = vector_of journal (if coupling.a.place == place then coupling.b else coupling.a)

-- the control in force with a vector of the party's own, in its own view: 1 wherever its own has it, or the partner's
-- read from its side
abbrev pub in_force_with : Entries → Control → Standing → Control
in_force_with journal own offer = combined own (partners_vector journal offer.place (coupling_now journal offer.place))

-- the control in force, in the party's own view: none without an offer
abbrev pub control_in_force : Entries → Option Standing → Control
control_in_force journal None = no_control
control_in_force journal (Some offer) = in_force_with journal (vector_of journal offer) offer

-- the state vector of a coupling, in the view of the offer at a place; none below degree 2
abbrev pub state_vector_of : Entries → ℕ → Option Coupling → Control
state_vector_of journal place None = no_control
state_vector_of journal place (Some coupling) = vector_of_story (story journal coupling) (side_at coupling place)

-- the state vector, in the party's own view
abbrev pub state_vector : Entries → Option Standing → Control
state_vector journal None = no_control
state_vector journal (Some offer) = state_vector_of journal offer.place (coupling_now journal offer.place)
