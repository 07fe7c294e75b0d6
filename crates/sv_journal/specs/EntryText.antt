use Rattle.std.specs.Prelude.{ℕ, Bool, true, false, List, [], ◌∷◌, ◌++◌, map, codes, decimal}
use Rattle.std.specs.List.{flat_map}
use Rattle.sv_access.specs.declared.control.Control.{Control}
use Rattle.sv_access.specs.declared.verdict.Owners.{Owners}
use Rattle.sv_access.specs.declared.verdict.Owners.TheVariants.{Mine, Partner, Both}
use Rattle.sv_events.specs.Answer.{PlainAnswer, degree, granted, value, no_value, held, abandoned, not_shared, offer_limit, full, vector, parties, names, kept, done}
use Rattle.sv_events.specs.Entry.{PlainEntry}
use Rattle.sv_events.specs.declared.event.Act.{Act}
use Rattle.sv_events.specs.declared.event.Act.TheVariants.{Offer, Retract, SetControl, AskControl, AskState, AskDegree, AskParties, AskNames, Set, Use, Leave}
use Rattle.sv_events.specs.declared.event.Hold.{Hold}
use Rattle.sv_events.specs.declared.entry.Pair.{Pair}
use Rattle.line_text.specs.Spaced.{spaced}
use Rattle.sv_text.specs.ValueText.{array_text, value_text}

-- an element of a control or of a state
abbrev pub bit_text : Bool → List ℕ
bit_text true = codes "1"
bit_text false = codes "0"

-- the four elements of a control or of a state
abbrev pub control_text : Control → List ℕ
control_text control = spaced (map bit_text control.0)

-- whose 1 it is that refuses
abbrev pub owners_text : Owners → List ℕ
owners_text Mine = codes "mine"
owners_text Partner = codes "partner"
owners_text Both = codes "both"

-- what refuses an access: the element, and whose 1 it is
abbrev pub hold_text : Hold → List ℕ
hold_text hold = spaced (decimal hold.element ∷ owners_text hold.owners ∷ [])

-- an act: its word, and what it is made with
abbrev pub act_text : Act → List ℕ
act_text (Offer to local surrogate handed) =
    spaced (codes "offer" ∷ decimal to ∷ local ∷ surrogate ∷ value_text handed ∷ [])
act_text (Retract local) = spaced (codes "retract" ∷ local ∷ [])
act_text (SetControl local control) = spaced (codes "control" ∷ local ∷ control_text control ∷ [])
act_text (AskControl local) = spaced (codes "askcontrol" ∷ local ∷ [])
act_text (AskState local) = spaced (codes "askstate" ∷ local ∷ [])
act_text (AskDegree local) = spaced (codes "askdegree" ∷ local ∷ [])
act_text AskParties = codes "askparties"
act_text (AskNames party) = spaced (codes "asknames" ∷ decimal party ∷ [])
act_text (Set local new) = spaced (codes "set" ∷ local ∷ array_text new ∷ [])
act_text (Use local) = spaced (codes "use" ∷ local ∷ [])
act_text Leave = codes "leave"

-- an answer: its word, and what it tells. No entry is answered full, which has a word so that every answer has one
abbrev pub answer_text : PlainAnswer → List ℕ
answer_text (degree d) = spaced (codes "degree" ∷ decimal d ∷ [])
answer_text granted = codes "granted"
answer_text (value got) = spaced (codes "value" ∷ array_text got ∷ [])
answer_text no_value = codes "novalue"
answer_text (held hold) = spaced (codes "held" ∷ hold_text hold ∷ [])
answer_text (abandoned hold) = spaced (codes "abandoned" ∷ hold_text hold ∷ [])
answer_text not_shared = codes "notshared"
answer_text offer_limit = codes "limit"
answer_text full = codes "full"
answer_text (vector control) = spaced (codes "vector" ∷ control_text control ∷ [])
answer_text (parties list) = spaced (codes "parties" ∷ map decimal list)
answer_text (names list) = spaced (codes "names" ∷ list)
answer_text (kept d known) = spaced (codes "kept" ∷ decimal d ∷ value_text known ∷ [])
answer_text done = codes "done"

-- a pair, behind what stands before it
abbrev pub pair_text : Pair → List ℕ
pair_text pair = codes " + " ++ spaced (decimal pair.a ∷ decimal pair.b ∷ [])

-- an entry at its place: party, act, answer, and the pairs that it made
abbrev pub entry_text : ℕ → PlainEntry → List ℕ
entry_text place entry =
    spaced (decimal place ∷ decimal entry.party ∷ act_text entry.act ∷ codes ":" ∷ answer_text entry.answer ∷ [])
    ++ flat_map pair_text entry.made
