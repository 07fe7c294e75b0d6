-- A stretch of the story of a coupling, and the control that is in force in it.
use Rattle.std.specs.Prelude.{◌≡◌, ◌<◌, ◌≤◌, ◌⊎◌, ℕ, nat_lt, Bool, true, false, ◌&&◌, [], ◌∷◌, ◌++◌, length, Contains, Some, is_some, if◌then◌else◌}
use Rattle.apl_arrays.specs.Array.{PlainArray}
use Rattle.sv_access.specs.declared.access.Side.{Side}
use Rattle.sv_access.specs.declared.access.Side.TheVariants.{A, B}
use Rattle.sv_access.specs.declared.control.Control.{Control}
use Rattle.sv_access.specs.Control.{has_element, in_view}
use Rattle.sv_access.specs.Story.{Story}
use Rattle.sv_events.specs.Entry.{PlainEntry}
use Rattle.sv_rules.specs.declared.coupling.Coupling.{Coupling}
use Rattle.sv_rules.specs.declared.standing.Standing.{Standing}
use Rattle.sv_rules.specs.Control.{control_in_force, vector_of}
use Rattle.sv_rules.specs.Coupling.{coupling_now, open_offers}
use Rattle.sv_rules.specs.Entries.{Entries, next_place}
use Rattle.sv_rules.specs.Story.{access_on, known, opens_at, opening, story, story_part}
use Rattle.sv_story_laws.specs.StoryLaws.{accesses_of, offer_on}

-- the giver of a coupling, with whose opening its story begins: A where A knew a value when the coupling was made, else B
abbrev pub giver_of : Entries → Coupling → Side
giver_of [] coupling = B
giver_of (e ∷ journal) coupling =
    elim (nat_lt coupling.at (next_place journal)) [
      | true ↦ giver_of journal coupling
      | false ↦ if is_some (known (e ∷ journal) coupling.a) then A else B
    ]

-- the place of the entry by which an offer opened last, 0 where none did
abbrev pub last_opening : Entries → Standing → ℕ
last_opening [] offer = 0
last_opening (e ∷ journal) offer = if opens_at e journal offer then next_place journal else last_opening journal offer

-- the story of a coupling at a moment: until the coupling is made the giver's opening
abbrev pub story_then : Side → Entries → Coupling → Story PlainArray
story_then giver journal coupling =
    elim (nat_lt (length journal) coupling.at) [
      | true ↦ opening giver journal (offer_on coupling giver)
      | false ↦ story journal coupling
    ]

-- what an entry adds to it: until the coupling is made the giver's access, later that of either side
abbrev pub added_by : Side → PlainEntry → Entries → Coupling → Story PlainArray
added_by giver e journal coupling =
    if nat_lt coupling.at (next_place journal) then accesses_of coupling e else story_part giver (access_on (offer_on coupling giver) e)

-- what entries after a journal add to it
abbrev pub added_in : Side → Entries → Entries → Coupling → Story PlainArray
added_in giver [] before coupling = []
added_in giver (e ∷ entries) before coupling = added_by giver e (entries ++ before) coupling ++ added_in giver entries before coupling

-- the control in force of the giver's offer, as A sees it
abbrev pub control_then : Side → Entries → Coupling → Control
control_then giver journal coupling = in_view giver (control_in_force journal (Some (offer_on coupling giver)))

-- it has 1 at an element before each of these entries after a journal
abbrev pub has_throughout : ℕ → Side → Entries → Entries → Coupling → Bool
has_throughout element giver [] before coupling = true
has_throughout element giver (e ∷ entries) before coupling =
    has_element (control_then giver (entries ++ before) coupling) element && has_throughout element giver entries before coupling

-- the vector has 1 at all four elements
abbrev pub is_full_vector : Control → Bool
is_full_vector vector = has_element vector 1 && has_element vector 2 && has_element vector 3 && has_element vector 4

-- the vector of an offer does before each of these entries after a journal
abbrev pub is_full_throughout : Standing → Entries → Entries → Bool
is_full_throughout offer [] before = true
is_full_throughout offer (e ∷ entries) before = is_full_vector (vector_of (entries ++ before) offer) && is_full_throughout offer entries before

-- a stretch of a coupling: its entries, those before it, the coupling, and which side is the giver
pub record Stretch : Type 0 where
  pub entries : Entries
  pub before : Entries
  pub coupling : Coupling
  pub giver : Side

-- the story at the start of a stretch, what the stretch adds to it, and the story at the end
abbrev pub story_before : Stretch → Story PlainArray
story_before stretch = story_then stretch.giver stretch.before stretch.coupling

-- what a stretch adds to the story
abbrev pub story_in : Stretch → Story PlainArray
story_in stretch = added_in stretch.giver stretch.entries stretch.before stretch.coupling

-- the story at the end of a stretch
abbrev pub story_after : Stretch → Story PlainArray
story_after stretch = story_then stretch.giver (stretch.entries ++ stretch.before) stretch.coupling

-- the control in force has 1 at an element throughout a stretch
abbrev pub is_controlled : ℕ → Stretch → Bool
is_controlled element stretch = has_throughout element stretch.giver stretch.entries stretch.before stretch.coupling

-- the vector of a side is full throughout a stretch
abbrev pub is_full_for : Side → Stretch → Bool
is_full_for side stretch = is_full_throughout (offer_on stretch.coupling side) stretch.entries stretch.before

-- the coupling stands after the stretch and some later entries, the giver is its own, and the giver's offer opened last
-- before the stretch
pub record IsStretch (later : Entries) (stretch : Stretch) : Type 0 where
  pub stands :
      coupling_now (later ++ (stretch.entries ++ stretch.before)) stretch.coupling.a.place ≡ Some stretch.coupling
  pub giver : giver_of (later ++ (stretch.entries ++ stretch.before)) stretch.coupling ≡ stretch.giver
  pub opened :
      last_opening (later ++ (stretch.entries ++ stretch.before)) (offer_on stretch.coupling stretch.giver) ≤ length stretch.before

-- a stretch of the journal
abbrev pub IsStretchIn : Entries → Stretch → Type 0
IsStretchIn journal stretch =
    (after later : Entries) × (journal ≡ after ++ (later ++ (stretch.entries ++ stretch.before))) × IsStretch later stretch

-- at a moment the coupling stands, or it is still to be made and the giver's offer is open
abbrev pub StandsOrIsOpen : Side → Entries → Coupling → Type 0
StandsOrIsOpen giver journal coupling =
    (coupling_now journal coupling.a.place ≡ Some coupling) ⊎ ((length journal < coupling.at) × Contains (open_offers journal) (offer_on coupling giver))
