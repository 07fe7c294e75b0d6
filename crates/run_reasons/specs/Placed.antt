-- What parties know and what a story tells, with the entries by which they do.
use Rattle.std.specs.Prelude.{ℕ, Bool, true, false, nat_lt, [], ◌∷◌, ◌++◌, map, Option, Some, None, option_map, if◌then◌else◌}
use Rattle.std.specs.Option.{option_or}
use Rattle.apl_arrays.specs.Array.{PlainArray}
use Rattle.sv_access.specs.Access.{is_set}
use Rattle.sv_access.specs.Story.{Story}
use Rattle.sv_access.specs.declared.access.Kind.TheVariants as kind
use Rattle.sv_access.specs.declared.access.Side.{Side}
use Rattle.sv_access.specs.declared.access.Side.TheVariants.{A, B}
use Rattle.sv_access.specs.declared.control.Control.{Control}
use Rattle.sv_rules.specs.Control.{control_on}
use Rattle.sv_rules.specs.Entries.{Entries, next_place}
use Rattle.sv_rules.specs.Story.{GrantedAccess, access_on, handed_in, known, opens_at}
use Rattle.sv_rules.specs.declared.coupling.Coupling.{Coupling}
use Rattle.sv_rules.specs.declared.standing.Standing.{Standing}
use Rattle.run_reasons.specs.declared.placed.PlacedControl.{PlacedControl}
use Rattle.run_reasons.specs.declared.story.Source.{Source}

-- a value, the place of the entry by which it came there, and whether it was set there
pub record Placed : Type 0 where
  pub at : ℕ
  pub is_set : Bool
  pub value : PlainArray

-- the entry by which a value came, and whether it was set there
abbrev pub source_of : Placed → Source
source_of one = record { at = one.at; is_set = one.is_set }

-- a value that is handed in at a place, if there is one
abbrev pub placed : ℕ → Option PlainArray → Option Placed
placed at value = option_map (λ one. record { at = at; is_set = false; value = one }) value

-- what is known after an entry at a place
abbrev pub placed_after : ℕ → Option GrantedAccess → Option Placed → Option Placed
placed_after at None before = before
placed_after at (Some access) before = Some (record { at = at; is_set = is_set access.kind; value = access.value })

-- what the party of an offer knows, and by which entry: its newest set or get there, or else its offer
abbrev pub placed_known : Entries → Standing → Option Placed
placed_known [] offer = None
placed_known (e ∷ journal) offer =
    if nat_lt offer.place (next_place journal) then placed_after (next_place journal) (access_on offer e) (placed_known journal offer)
    else placed (next_place journal) (handed_in e.act)

-- the entry by which the party of an offer knows its value, if it knows one
abbrev pub known_source : Entries → Standing → Option Source
known_source journal offer = option_map source_of (placed_known journal offer)

-- a story begins with a set of the value that is known, if one is
abbrev pub placed_first : Side → Option Placed → Story Placed
placed_first side None = []
placed_first side (Some value) = record { side = side; kind = kind.Set; value = value } ∷ []

-- an access of a side at a place, as what it adds to a story
abbrev pub placed_part : ℕ → Side → Option GrantedAccess → Story Placed
placed_part at side None = []
placed_part at side (Some access) = record { side = side; kind = access.kind; value = record { at = at; is_set = is_set access.kind; value = access.value } } ∷ []

-- the story of an offer since it last opened
abbrev pub placed_opening : Side → Entries → Standing → Story Placed
placed_opening side [] offer = []
placed_opening side (e ∷ journal) offer =
    elim (opens_at e journal offer) [
      | true ↦ placed_first side (placed_known (e ∷ journal) offer)
      | false ↦ placed_part (next_place journal) side (access_on offer e) ++ placed_opening side journal offer
    ]

-- the story at coupling is the giver's: that of A's offer where A knows a value, else that of B's
abbrev pub placed_giver : Entries → Coupling → Option PlainArray → Story Placed
placed_giver journal coupling (Some known_to_a) = placed_opening A journal coupling.a
placed_giver journal coupling None = placed_opening B journal coupling.b

-- the story of a coupling: the giver's up to the entry that made it, and the accesses since
abbrev pub placed_story : Entries → Coupling → Story Placed
placed_story [] coupling = []
placed_story (e ∷ journal) coupling =
    elim (nat_lt coupling.at (next_place journal)) [
      | true ↦ placed_part (next_place journal) A (access_on coupling.a e) ++ placed_part (next_place journal) B (access_on coupling.b e) ++ placed_story journal coupling
      | false ↦ placed_giver (e ∷ journal) coupling (known (e ∷ journal) coupling.a)
    ]

-- a control at a place, if there is one
abbrev pub control_at : ℕ → Option Control → Option PlacedControl
control_at at control = option_map (λ one. record { at = at; control = one }) control

-- the last control that its party set on an offer, if it set one
abbrev pub placed_control : Entries → Standing → Option PlacedControl
placed_control [] offer = None
placed_control (e ∷ journal) offer =
    if nat_lt offer.place (next_place journal) then option_or (control_at (next_place journal) (control_on offer e)) (placed_control journal offer) else None

-- a story without the places
abbrev pub unplaced : Story Placed → Story PlainArray
unplaced story = map (λ access. record { side = access.side; kind = access.kind; value = access.value.value }) story
