-- The sentences, each on one definition of the rules.
use Rattle.std.specs.Prelude.{ℕ, Bool, true, false, ◌==◌, List, [], ◌∷◌, ◌++◌, codes, decimal, Option, Some, None, if◌then◌else◌}
use Rattle.std.specs.List.{flat_map}
use Rattle.sv_access.specs.Access.{other_side}
use Rattle.sv_access.specs.Control.{swapped}
use Rattle.sv_access.specs.declared.access.Kind.{Kind}
use Rattle.sv_access.specs.declared.access.Kind.TheVariants as kind
use Rattle.sv_access.specs.declared.access.Side.{Side}
use Rattle.sv_access.specs.declared.access.Side.TheVariants.{A, B}
use Rattle.sv_access.specs.declared.control.Control.{Control}
use Rattle.sv_access.specs.declared.state.AccessState.{AccessState}
use Rattle.sv_access.specs.declared.state.AccessState.TheVariants.{Quiet, UnseenA, UnseenB}
use Rattle.sv_events.specs.declared.entry.Pair.{Pair}
use Rattle.sv_events.specs.declared.event.Hold.{Hold}
use Rattle.sv_journal.specs.EntryText.{control_text, hold_text}
use Rattle.sv_rules.specs.declared.coupling.Coupling.{Coupling}
use Rattle.sv_rules.specs.declared.standing.Standing.{Standing}
use Rattle.run_reasons.specs.declared.story.LastSet.{LastSet}
use Rattle.run_reasons.specs.declared.story.Source.{Source}
use Rattle.run_reasons.specs.declared.placed.PlacedControl.{PlacedControl}

-- texts, one behind another
abbrev pub joined : List (List ℕ) → List ℕ
joined texts = flat_map (λ text. text) texts

-- the name of a side
abbrev pub side_text : Side → List ℕ
side_text A = codes "side A"
side_text B = codes "side B"

-- to whom an offer is made
abbrev pub to_text : ℕ → List ℕ
to_text to = if to == 0 then codes "any party" else decimal to

-- by `standing`: an offer that stands, and its entry
abbrev pub offer_sentence : Standing → List ℕ
offer_sentence offer =
    joined
    (decimal offer.party ∷ codes " offers " ∷ offer.local ∷ codes " to " ∷ to_text offer.to ∷ codes " under the name " ∷ offer.surrogate
    ∷ codes " since entry " ∷ decimal offer.place ∷ codes "." ∷ [])

-- by `own_offer`: the party had none
abbrev pub none_sentence : ℕ → List ℕ → List ℕ
none_sentence party local = joined (decimal party ∷ codes " had no standing offer of " ∷ local ∷ codes " before this entry." ∷ [])

-- the offer on the other side of the one at a place
abbrev pub partners_offer : ℕ → Coupling → Standing
partners_offer place coupling = if coupling.a.place == place then coupling.b else coupling.a

-- by `coupling_now`: the offer is open, or an entry coupled it with another
abbrev pub coupling_sentence : ℕ → Option Coupling → List ℕ
coupling_sentence place None = codes "It is coupled with no other offer."
coupling_sentence place (Some coupling) =
    joined
    (codes "Entry " ∷ decimal coupling.at ∷ codes " coupled it with the offer of " ∷ (partners_offer place coupling).local ∷ codes " by "
    ∷ decimal (partners_offer place coupling).party ∷ codes ", which stands since entry " ∷ decimal (partners_offer place coupling).place ∷ codes "." ∷ [])

-- by `side_at`: which side a party is
abbrev pub side_sentence : ℕ → Side → List ℕ
side_sentence party side = joined (decimal party ∷ codes " is " ∷ side_text side ∷ codes "." ∷ [])

-- the control of side B once more, as side A counts: in the order 2 1 4 3
abbrev pub counted_text : Side → Control → List ℕ
counted_text A control = []
counted_text B control = joined (codes ", " ∷ control_text (swapped control) ∷ codes " as side A counts" ∷ [])

-- by `vector_of`: the control that a side set on its offer, as that side counts and as side A does, and its entry
abbrev pub control_sentence : Side → Option PlacedControl → List ℕ
control_sentence side None = joined (codes "No control is set by " ∷ side_text side ∷ codes "." ∷ [])
control_sentence side (Some set) =
    joined (codes "Entry " ∷ decimal set.at ∷ codes " set the control " ∷ control_text set.control ∷ codes " by " ∷ side_text side
    ∷ counted_text side set.control ∷ codes "." ∷ [])

-- whether a set of an open offer, and one of a coupling by a side, is unseen in a state
abbrev pub open_seen_text : AccessState → List ℕ
open_seen_text Quiet = codes "it was seen."
open_seen_text UnseenA = codes "no partner has used it since: it is unseen."
open_seen_text UnseenB = codes "no partner has used it since: it is unseen."

abbrev pub seen_text : AccessState → List ℕ
seen_text Quiet = codes " has used it since."
seen_text UnseenA = codes " has not used it since: it is unseen."
seen_text UnseenB = codes " has not used it since: it is unseen."

abbrev pub unseen_text : Option Coupling → Side → AccessState → List ℕ
unseen_text None side state = open_seen_text state
unseen_text (Some coupling) side state = side_text (other_side side) ++ seen_text state

-- how a value came by an entry: a set there, or what a party knew when the story began
abbrev pub came_text : Bool → List ℕ
came_text true = codes "The last value set is that of entry "
came_text false = codes "What counts as the last value set is what was known since entry "

-- by `last_set` and `is_unseen` of the story: the last value set, and whether the partner has used it
abbrev pub last_sentence : Option Coupling → AccessState → Option LastSet → List ℕ
last_sentence coupling state None = codes "No value was set."
last_sentence coupling state (Some set) =
    joined
    (came_text set.source.is_set ∷ decimal set.source.at ∷ codes ", of " ∷ side_text set.side ∷ codes "; " ∷ unseen_text coupling set.side state ∷ [])

-- by `refused_element`: the row of the access table
abbrev pub rule_sentence : Side → Kind → List ℕ
rule_sentence A kind.Set = codes "A set by side A is refused where a control has 1 at element 1, as side A counts, and a set of side A is unseen."
rule_sentence B kind.Set = codes "A set by side B is refused where a control has 1 at element 2, as side A counts, and a set of side B is unseen."
rule_sentence A kind.Use = codes "A use by side A is refused where a control has 1 at element 3, as side A counts, and no set of side B is unseen."
rule_sentence B kind.Use = codes "A use by side B is refused where a control has 1 at element 4, as side A counts, and no set of side A is unseen."

-- by `hold_on`: whether it is refused, by which element, and whose 1 it is as the party sees it
abbrev pub hold_sentence : Option Hold → List ℕ
hold_sentence None = codes "So nothing refuses it."
hold_sentence (Some hold) = joined (codes "So it is refused: element " ∷ hold_text hold ∷ codes "." ∷ [])

-- by `value_for`, or `known` where a name is taken back: the entry by which the value came
abbrev pub value_sentence : Option Source → List ℕ
value_sentence None = codes "There is no value."
value_sentence (Some source) = joined (codes "The value is that of entry " ∷ decimal source.at ∷ codes "." ∷ [])

-- since when the party waits, whose last entry is held
abbrev pub wait_sentence : ℕ → ℕ → List ℕ
wait_sentence party at = joined (decimal party ∷ codes " waited since entry " ∷ decimal at ∷ codes "." ∷ [])

-- by the answer: a wait is given up
abbrev pub stuck_sentence : List ℕ
stuck_sentence = codes "Its wait is given up, as is done where nobody can go on."

-- a pair that the entry makes
abbrev pub pair_sentence : Pair → List ℕ
pair_sentence pair = joined (codes "It couples the offers of entries " ∷ decimal pair.a ∷ codes " and " ∷ decimal pair.b ∷ codes "." ∷ [])

-- an entry before it that the rules don't allow
abbrev pub illegal_sentence : ℕ → List ℕ
illegal_sentence at = joined (codes "Entry " ∷ decimal at ∷ codes " may not follow those before it; this is what the rules say all the same." ∷ [])
