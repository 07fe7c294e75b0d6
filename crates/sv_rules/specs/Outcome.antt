use Rattle.std.specs.Prelude.{ℕ, Bool, true, false, nat_le, List, [], ◌∷◌, map, Option, Some, None, option_map, unwrap_or, if◌then◌else◌}
use Rattle.std.specs.Option.{option_or}
use Rattle.apl_arrays.specs.Array.{PlainArray}
use Rattle.apl_arrays.specs.Limits.{most_offers}
use Rattle.sv_access.specs.declared.control.Control.{Control}
use Rattle.sv_access.specs.Story.{last_value}
use Rattle.sv_access.specs.declared.access.Kind.{Kind}
use Rattle.sv_access.specs.declared.access.Kind.TheVariants as kind
use Rattle.sv_events.specs.Answer.{PlainAnswer, degree, granted, value, no_value, held, abandoned, not_shared, offer_limit, vector, kept, done}
use Rattle.sv_events.specs.Row.{act_row}
use Rattle.sv_events.specs.declared.entry.Pair.{Pair}
use Rattle.sv_events.specs.declared.event.Act.{Act}
use Rattle.sv_events.specs.declared.event.Hold.{Hold}
use Rattle.sv_events.specs.declared.row.ActRow.{ActRow}
use Rattle.sv_events.specs.declared.row.Accessing.{Accessing}
use Rattle.sv_events.specs.declared.row.Controlling.{Controlling}
use Rattle.sv_events.specs.declared.row.Ending.{Ending}
use Rattle.sv_events.specs.declared.row.Ending.TheVariants.{One, All}
use Rattle.sv_events.specs.declared.row.Opening.{Opening}
use Rattle.sv_events.specs.declared.row.Question.{Question}
use Rattle.sv_rules.specs.Control.{in_force_with}
use Rattle.sv_rules.specs.Coupling.{couplings, coupling_now, degree_at, open_match, pair_of, made_by_ending}
use Rattle.sv_rules.specs.Entries.{Entries, next_place}
use Rattle.sv_rules.specs.Questions.{answer_to_question, degree_of}
use Rattle.sv_rules.specs.Refused.{hold_on, waits}
use Rattle.sv_rules.specs.Standing.{standing, own_offer, offer_count, offer_made}
use Rattle.sv_rules.specs.Story.{known, story}
use Rattle.sv_rules.specs.declared.coupling.Coupling.{Coupling}
use Rattle.sv_rules.specs.declared.coupling.Made.{Made}
use Rattle.sv_rules.specs.declared.standing.Standing.{Standing}

-- what becomes of an act: its answer, and the pairs that it couples
pub record ActOutcome : Type 0 where
  pub answer : PlainAnswer
  pub made : List Pair

-- an answer that couples nothing
abbrev pub answer_only : PlainAnswer → ActOutcome
answer_only answer = record { answer = answer; made = [] }

-- a new offer is coupled with its open match, if there is one
abbrev pub joined_to : Standing → Option Standing → ActOutcome
joined_to new None = answer_only (degree 1)
joined_to new (Some match) = record { answer = degree 2; made = pair_of match new ∷ [] }

-- an offer of a name that the party has not offered: refused where the party has 64 offers
abbrev pub new_offer : List Standing → List Made → Standing → ActOutcome
new_offer offers coupled new =
    if nat_le most_offers (offer_count offers new.party) then answer_only offer_limit else joined_to new (open_match offers coupled new)

-- an offer of a name that stands answers its degree, and changes nothing
abbrev pub offer_outcome : List Standing → List Made → Standing → Option Standing → ActOutcome
offer_outcome offers coupled new None = new_offer offers coupled new
offer_outcome offers coupled new (Some old) = answer_only (degree (degree_at coupled old.place))

-- what becomes of an act that opens an offer
abbrev pub opening_outcome : Entries → ℕ → Opening → ActOutcome
opening_outcome journal party opening =
    offer_outcome (standing journal) (couplings journal) (offer_made (next_place journal) party opening)
    (own_offer (standing journal) party opening.local)

-- the pairs that reopened offers make where an act ends offers
abbrev pub pairs_by_ending : Entries → ℕ → Ending → List Pair
pairs_by_ending journal party ending =
    map (λ made. made.pair) (made_by_ending (next_place journal) (standing journal) (couplings journal) party ending)

-- a name that is taken back: its degree before, and the value that its party knows
abbrev pub retraction_outcome : Entries → ℕ → List ℕ → Option Standing → ActOutcome
retraction_outcome journal party local None = answer_only not_shared
retraction_outcome journal party local (Some offer) = record {
  answer = kept (degree_of journal (Some offer)) (known journal offer);
  made = pairs_by_ending journal party (One local);
}

-- what becomes of an act that ends offers
abbrev pub ending_outcome : Entries → ℕ → Ending → ActOutcome
ending_outcome journal party (One local) = retraction_outcome journal party local (own_offer (standing journal) party local)
ending_outcome journal party All = record { answer = done; made = pairs_by_ending journal party All }

-- a control that is set: the control in force with it
abbrev pub control_answer : Entries → Control → Option Standing → PlainAnswer
control_answer journal control None = not_shared
control_answer journal control (Some offer) = vector (in_force_with journal control offer)

-- what becomes of an act that sets a control
abbrev pub control_outcome : Entries → ℕ → Controlling → ActOutcome
control_outcome journal party set = answer_only (control_answer journal set.control (own_offer (standing journal) party set.local))

-- a value, or that there is none
abbrev pub value_answer : Option PlainArray → PlainAnswer
value_answer None = no_value
value_answer (Some got) = value got

-- what a use gives: in a coupling the value of its newest set, whoever made it; without one what the party knows
abbrev pub value_for : Entries → Standing → Option Coupling → Option PlainArray
value_for journal offer None = known journal offer
value_for journal offer (Some coupling) = last_value (story journal coupling)

-- an access that is not refused: a set is granted, a use gives the value
abbrev pub granted_answer : Entries → Standing → Kind → PlainAnswer
granted_answer journal offer kind.Set = granted
granted_answer journal offer kind.Use = value_answer (value_for journal offer (coupling_now journal offer.place))

-- a refused access is held, and given up where its party waits already
abbrev pub refusal_answer : Bool → Hold → PlainAnswer
refusal_answer true hold = abandoned hold
refusal_answer false hold = held hold

-- the answer to an access, by what refuses it
abbrev pub unless_refused : Entries → ℕ → Standing → Kind → Option Hold → PlainAnswer
unless_refused journal party offer kind None = granted_answer journal offer kind
unless_refused journal party offer kind (Some hold) = refusal_answer (waits journal party) hold

-- the answer to an access of a name
abbrev pub access_answer : Entries → ℕ → Kind → Option Standing → PlainAnswer
access_answer journal party kind None = not_shared
access_answer journal party kind (Some offer) = unless_refused journal party offer kind (hold_on journal kind (Some offer))

-- what becomes of an access
abbrev pub access_outcome : Entries → ℕ → Accessing → ActOutcome
access_outcome journal party access =
    answer_only (access_answer journal party access.kind (own_offer (standing journal) party access.local))

-- what becomes of a question
abbrev pub question_outcome : Entries → ℕ → Question → ActOutcome
question_outcome journal party asked = answer_only (answer_to_question journal party asked)

-- what becomes of an act of a row, which opens, ends, sets a control, accesses or asks
abbrev pub outcome_of_row : Entries → ℕ → ActRow → ActOutcome
outcome_of_row journal party row =
    unwrap_or
    (option_or (option_map (opening_outcome journal party) row.opens)
    (option_or (option_map (ending_outcome journal party) row.ends)
    (option_or (option_map (control_outcome journal party) row.controls)
    (option_or (option_map (access_outcome journal party) row.accesses) (option_map (question_outcome journal party) row.asks)))))
    (answer_only done)

-- what becomes of an act of a party after a journal that is not full
abbrev pub outcome : Entries → ℕ → Act → ActOutcome
outcome journal party act = outcome_of_row journal party (act_row act).row
