-- What is kept of a ground: of its story the last set and the state alone.
use Rattle.std.specs.Prelude.{ℕ, List, [], ◌∷◌, ◌++◌, Option, Some, None}
use Rattle.sv_access.specs.declared.access.Side.TheVariants.{A, B}
use Rattle.sv_rules.specs.declared.coupling.Coupling.{Coupling}
use Rattle.run_reasons.specs.Ground.{Ground}
use Rattle.run_reasons.specs.Sentence.{control_sentence, coupling_sentence, last_sentence, offer_sentence, side_sentence}
use Rattle.run_reasons.specs.StoryFacts.{told}
use Rattle.run_reasons.specs.declared.ground.GroundFacts.{GroundFacts}

-- the facts of a ground
abbrev pub facts_of : Ground → GroundFacts
facts_of basis = record { offer = basis.offer; coupling = basis.coupling; side = basis.side; a = basis.a; b = basis.b; told = told basis.story }

-- the control of the partner, if there is one
abbrev pub partner_lines : GroundFacts → Option Coupling → List (List ℕ)
partner_lines facts None = []
partner_lines facts (Some coupling) = control_sentence B facts.b ∷ []

-- the lines of the sides: which one the party is, and their controls
abbrev pub side_lines : GroundFacts → List (List ℕ)
side_lines facts = side_sentence facts.offer.party facts.side ∷ control_sentence A facts.a ∷ partner_lines facts facts.coupling

-- the offer, its coupling, the sides and their controls, and the last value set
abbrev pub ground_lines : GroundFacts → List (List ℕ)
ground_lines facts =
    offer_sentence facts.offer
    ∷ coupling_sentence facts.offer.place facts.coupling
    ∷ side_lines facts
    ++ last_sentence facts.coupling facts.told.state facts.told.last
    ∷ []
