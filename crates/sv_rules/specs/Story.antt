use Rattle.std.specs.Prelude.{ℕ, Bool, true, false, ◌&&◌, ◌||◌, ◌==◌, not, nat_lt, List, [], ◌∷◌, ◌++◌, Option, Some, None, option_map, if◌then◌else◌}
use Rattle.apl_arrays.specs.Array.{PlainArray}
use Rattle.sv_access.specs.declared.access.Side.{Side}
use Rattle.sv_access.specs.declared.access.Side.TheVariants.{A, B}
use Rattle.sv_access.specs.declared.access.Kind.{Kind}
use Rattle.sv_access.specs.declared.access.Kind.TheVariants as kind
use Rattle.sv_access.specs.Story.{Story}
use Rattle.sv_events.specs.Answer.{PlainAnswer}
use Rattle.sv_events.specs.Entry.{PlainEntry}
use Rattle.sv_events.specs.Row.{act_row}
use Rattle.sv_events.specs.declared.event.Act.{Act}
use Rattle.apl_arrays.specs.Name.{same_name}
use Rattle.sv_events.specs.declared.row.Accessing.{Accessing}
use Rattle.sv_rules.specs.Coupling.{couplings, couplings_among, is_coupled}
use Rattle.sv_rules.specs.Entries.{Entries, next_place, kind_of, is_granted, value_got}
use Rattle.sv_rules.specs.Standing.{standing}
use Rattle.sv_rules.specs.declared.standing.Standing.{Standing}
use Rattle.sv_rules.specs.declared.coupling.Coupling.{Coupling}

-- an access that was granted with a value
pub record GrantedAccess : Type 0 where
  pub kind : Kind
  pub value : PlainArray

-- the access of a kind, where its answer grants it: a set of the value handed in, or a use that got a value
abbrev pub granted_as : Kind → Option PlainArray → PlainAnswer → Option GrantedAccess
granted_as kind.Set handed given =
    if is_granted (kind_of given) then option_map (λ new. record { kind = kind.Set; value = new }) handed else None
granted_as kind.Use handed given = option_map (λ got. record { kind = kind.Use; value = got }) (value_got given)

-- the same, where it is on a local name
abbrev pub granted_on : List ℕ → Option PlainArray → PlainAnswer → Option Accessing → Option GrantedAccess
granted_on local handed given None = None
granted_on local handed given (Some access) = if same_name access.local local then granted_as access.kind handed given else None

-- the access that an act and its answer make on a local name: a set that was granted, or a use that got a value
abbrev pub access_to : List ℕ → PlainAnswer → Act → Option GrantedAccess
access_to local given act = granted_on local (act_row act).hands_in given (act_row act).row.accesses

-- the access that an entry makes on an offer: its party's, on its local name
abbrev pub access_on : Standing → PlainEntry → Option GrantedAccess
access_on offer e = if e.party == offer.party then access_to offer.local e.answer e.act else None

-- the known value after an entry
abbrev pub known_after : Option GrantedAccess → Option PlainArray → Option PlainArray
known_after None before = before
known_after (Some access) before = Some access.value

-- the value that an act hands in
abbrev pub handed_in : Act → Option PlainArray
handed_in act = (act_row act).hands_in

-- what the party of an offer knows of the variable: its newest set or get there, or else what its entry handed in
abbrev pub known : Entries → Standing → Option PlainArray
known [] offer = None
known (e ∷ journal) offer =
    if nat_lt offer.place (next_place journal) then known_after (access_on offer e) (known journal offer) else handed_in e.act

-- a set by a side, as the one access of a story
abbrev pub one_set : Side → PlainArray → Story PlainArray
one_set side new = record { side = side; kind = kind.Set; value = new } ∷ []

-- a story begins with a set of the value that is known, if one is
abbrev pub first_set : Side → Option PlainArray → Story PlainArray
first_set side None = []
first_set side (Some value) = one_set side value

-- an access of a side, as what it adds to a story
abbrev pub story_part : Side → Option GrantedAccess → Story PlainArray
story_part side None = []
story_part side (Some access) = record { side = side; kind = access.kind; value = access.value } ∷ []

-- by the newest entry the coupling of the offer at a place ends, while this offer stands
abbrev pub coupling_ends : PlainEntry → Entries → ℕ → Bool
coupling_ends e journal place =
    is_coupled (couplings journal) place && not (is_coupled (couplings_among (standing (e ∷ journal)) (couplings journal)) place)

-- an entry at which the story of an offer begins anew: the offer is made there, or its partner goes there
abbrev pub opens_at : PlainEntry → Entries → Standing → Bool
opens_at e journal offer = offer.place == next_place journal || coupling_ends e journal offer.place

-- the story of an offer since it last opened, newest first, with its party on a side: the value that was known then,
-- and the accesses since
abbrev pub opening : Side → Entries → Standing → Story PlainArray
opening side [] offer = []
opening side (e ∷ journal) offer =
    elim (opens_at e journal offer) [
      | true ↦ first_set side (known (e ∷ journal) offer)
      | false ↦ story_part side (access_on offer e) ++ opening side journal offer
    ]

-- the story at coupling is the giver's: that of A's offer where A knows a value, else that of B's
abbrev pub giver_story : Entries → Coupling → Option PlainArray → Story PlainArray
giver_story journal coupling (Some known_to_a) = opening A journal coupling.a
giver_story journal coupling None = opening B journal coupling.b

-- the story of a coupling, newest first: the giver's up to the entry that made it, and the accesses since
abbrev pub story : Entries → Coupling → Story PlainArray
story [] coupling = []
story (e ∷ journal) coupling =
    elim (nat_lt coupling.at (next_place journal)) [
      | true ↦ story_part A (access_on coupling.a e) ++ story_part B (access_on coupling.b e) ++ story journal coupling
      | false ↦ giver_story (e ∷ journal) coupling (known (e ∷ journal) coupling.a)
    ]
