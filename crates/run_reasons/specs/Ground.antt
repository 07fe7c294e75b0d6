-- What decides of an access, with the entries by which it came to be.
use Rattle.std.specs.Prelude.{Option, Some, None}
use Rattle.std.specs.Option.{option_map_or}
use Rattle.sv_access.specs.Control.{no_control}
use Rattle.sv_access.specs.Story.{Story}
use Rattle.sv_access.specs.declared.access.Side.{Side}
use Rattle.sv_access.specs.declared.access.Side.TheVariants.{A}
use Rattle.sv_access.specs.declared.control.Control.{Control}
use Rattle.sv_rules.specs.Control.{Sharing, side_at}
use Rattle.sv_rules.specs.Coupling.{coupling_now}
use Rattle.sv_rules.specs.Entries.{Entries}
use Rattle.sv_rules.specs.declared.coupling.Coupling.{Coupling}
use Rattle.sv_rules.specs.declared.standing.Standing.{Standing}
use Rattle.run_reasons.specs.Placed.{Placed, placed_control, placed_opening, placed_story, unplaced}
use Rattle.run_reasons.specs.declared.placed.PlacedControl.{PlacedControl}

-- an offer, its coupling, the party's side, the controls of sides A and B, and the story
pub record Ground : Type 0 where
  pub offer : Standing
  pub coupling : Option Coupling
  pub side : Side
  pub a : Option PlacedControl
  pub b : Option PlacedControl
  pub story : Story Placed

-- an open offer has no partner, and its party is side A; a coupled one has one
abbrev pub ground_of : Entries → Standing → Option Coupling → Ground
ground_of journal offer None = record {
  offer = offer;
  coupling = None;
  side = A;
  a = placed_control journal offer;
  b = None;
  story = placed_opening A journal offer;
}
ground_of journal offer (Some coupling) = record {
  offer = offer;
  coupling = Some coupling;
  side = side_at coupling offer.place;
  a = placed_control journal coupling.a;
  b = placed_control journal coupling.b;
  story = placed_story journal coupling;
}

-- the ground of a standing offer
abbrev pub ground_now : Entries → Standing → Ground
ground_now journal offer = ground_of journal offer (coupling_now journal offer.place)

-- a control, or none at all
abbrev pub control_in : Option PlacedControl → Control
control_in set = option_map_or (λ one. one.control) set no_control

-- what the rules ask of a ground: the same without the entries
abbrev pub sharing_in : Ground → Sharing
sharing_in basis = record { story = unplaced basis.story; a = control_in basis.a; b = control_in basis.b; side = basis.side }
