-- Worked journals of degrees, retractions and questions, written with the oldest entry first.
use Rattle.std.specs.Prelude.{ℕ, [], ◌∷◌, reverse, codes, pos, Some, None}
use Rattle.apl_arrays.specs.Array.{PlainArray, numbers}
use Rattle.sv_access.specs.declared.verdict.Owners.TheVariants.{Mine}
use Rattle.sv_events.specs.Answer.{PlainAnswer, degree, granted, value, vector, parties, names, kept, done}
use Rattle.sv_events.specs.Entry.{PlainEntry, uncoupled}
use Rattle.sv_events.specs.declared.event.Act.TheVariants.{Offer, Retract, SetControl, AskState, AskDegree, AskParties, AskNames, Set, Leave}
use Rattle.sv_rules.specs.Entries.{Entries}
use Rattle.sv_plain.specs.Worked.{number_value, bits, joining, x, offer_x, set_x, use_x, left, answered_value, holds, shared_x}

-- a degree that is asked for
abbrev pub asked_degree : ℕ → ℕ → PlainEntry
asked_degree party d = uncoupled party (AskDegree x) (degree d)

-- an offer to any that a leave reopens is coupled with the offer that waited
abbrev pub matched_again : Entries
matched_again =
    reverse
    (uncoupled 1001 (offer_x 0 None) (degree 1) ∷ joining 1002 (offer_x 1001 None) (degree 2) 1 2 ∷ uncoupled 1003 (offer_x 1001 None) (degree 1)
    ∷ asked_degree 1001 2 ∷ joining 1002 Leave done 1 3 ∷ asked_degree 1003 2 ∷ left 1001 ∷ left 1003 ∷ [])

-- the same where 1002 takes its offer back
abbrev pub matched_after_a_retraction : Entries
matched_after_a_retraction =
    reverse
    (uncoupled 1001 (offer_x 0 None) (degree 1) ∷ joining 1002 (offer_x 1001 None) (degree 2) 1 2 ∷ uncoupled 1003 (offer_x 1001 None) (degree 1)
    ∷ joining 1002 (Retract x) (kept 2 None) 1 3 ∷ asked_degree 1002 0 ∷ uncoupled 1002 (offer_x 1001 None) (degree 1) ∷ [])

-- two offers to any of 1002 are reopened by a leave, and one offer waits for 1002: it is the first's
abbrev pub reopened_compete : Entries
reopened_compete =
    reverse
    (uncoupled 1002 (Offer 0 (codes "A") x None) (degree 1) ∷ uncoupled 1002 (Offer 0 (codes "B") x None) (degree 1)
    ∷ joining 1001 (Offer 1002 (codes "C") x None) (degree 2) 1 3 ∷ joining 1001 (Offer 1002 (codes "D") x None) (degree 2) 2 4
    ∷ uncoupled 1003 (offer_x 1002 None) (degree 1) ∷ joining 1001 Leave done 1 5 ∷ uncoupled 1002 (AskDegree (codes "B")) (degree 1)
    ∷ uncoupled 1002 (AskDegree (codes "A")) (degree 2) ∷ [])

-- X is taken back
abbrev pub retract_x : ℕ → PlainAnswer → PlainEntry
retract_x party answer = uncoupled party (Retract x) answer

-- each side keeps the value that it knows
abbrev pub each_keeps_its_own : Entries
each_keeps_its_own =
    shared_x (Some (number_value 1)) (Some (number_value 2))
    (set_x 1001 5 granted ∷ retract_x 1001 (kept 2 (Some (number_value 5))) ∷ left 1001 ∷ retract_x 1002 (kept 1 (Some (number_value 2))) ∷ left 1002 ∷ [])

-- the older offer's value is unseen by 1002, until it uses it
abbrev pub older_value_unseen : Entries
older_value_unseen =
    shared_x (Some (number_value 1)) (Some (number_value 2))
    (uncoupled 1002 (AskState x) (vector (bits 0 1 0 1)) ∷ use_x 1002 (answered_value 1) ∷ uncoupled 1001 (AskState x) (vector (bits 0 0 1 1))
    ∷ left 1002 ∷ left 1001 ∷ [])

-- three numbers
abbrev pub three_numbers : ℕ → ℕ → ℕ → PlainArray
three_numbers a b c = record { shape = 3 ∷ []; items = numbers (pos a ∷ pos b ∷ pos c ∷ []) }

-- one item is set: a use that is held until the partner has set, and a set
abbrev pub item_is_set : Entries
item_is_set =
    shared_x (Some (three_numbers 1 2 3)) None
    (uncoupled 1001 (SetControl x (bits 0 0 1 0)) (vector (bits 0 0 1 0)) ∷ use_x 1001 (holds 3 Mine) ∷ uncoupled 1002 (Set x (three_numbers 4 5 6)) granted
    ∷ use_x 1001 (value (three_numbers 4 5 6)) ∷ use_x 1002 (value (three_numbers 4 5 6)) ∷ uncoupled 1001 (Set x (three_numbers 4 7 6)) granted
    ∷ use_x 1002 (value (three_numbers 4 7 6)) ∷ left 1001 ∷ left 1002 ∷ [])

-- who offers, and under which surrogates
abbrev pub asked_who_offers : Entries
asked_who_offers =
    reverse
    (uncoupled 1002 AskParties (parties []) ∷ uncoupled 1001 (Offer 1002 (codes "AB") (codes "AB") None) (degree 1)
    ∷ uncoupled 1001 (Offer 0 (codes "C") (codes "C") None) (degree 1) ∷ uncoupled 1002 AskParties (parties (1001 ∷ []))
    ∷ uncoupled 1002 (AskNames 1001) (names (codes "AB" ∷ [])) ∷ uncoupled 1002 (AskNames 1003) (names []) ∷ left 1001 ∷ left 1002 ∷ [])

-- two parties offer twice each: the parties ascend, each once, and names come by place
abbrev pub asked_among_many : Entries
asked_among_many =
    reverse
    (uncoupled 1003 (Offer 1002 (codes "A") (codes "P") None) (degree 1) ∷ uncoupled 1001 (Offer 1002 (codes "B") (codes "Q") None) (degree 1)
    ∷ uncoupled 1003 (Offer 1002 (codes "C") (codes "O") None) (degree 1) ∷ uncoupled 1001 (Offer 1003 (codes "D") (codes "R") None) (degree 1)
    ∷ uncoupled 1002 AskParties (parties (1001 ∷ 1003 ∷ [])) ∷ uncoupled 1002 (AskNames 1003) (names (codes "P" ∷ codes "O" ∷ []))
    ∷ joining 1002 (Offer 1003 (codes "A") (codes "P") None) (degree 2) 1 7 ∷ uncoupled 1002 (AskNames 1003) (names (codes "O" ∷ [])) ∷ [])

-- an offer that reopens has the value that it knows unseen, though the partner had seen it
abbrev pub reopened_is_unseen : Entries
reopened_is_unseen =
    shared_x (Some (number_value 1)) None
    (uncoupled 1001 (SetControl x (bits 1 0 0 0)) (vector (bits 1 0 0 0)) ∷ use_x 1002 (answered_value 1) ∷ retract_x 1002 (kept 2 (Some (number_value 1)))
    ∷ set_x 1001 2 (holds 1 Mine) ∷ joining 1002 (offer_x 1001 None) (degree 2) 1 7 ∷ use_x 1002 (answered_value 1) ∷ set_x 1001 2 granted ∷ [])

-- the vector of an offer that was taken back does not count for the next one
abbrev pub vector_begins_anew : Entries
vector_begins_anew =
    reverse
    (uncoupled 1001 (offer_x 1002 None) (degree 1) ∷ uncoupled 1001 (SetControl x (bits 1 1 1 1)) (vector (bits 1 1 1 1)) ∷ retract_x 1001 (kept 1 None)
    ∷ uncoupled 1001 (offer_x 1002 None) (degree 1) ∷ set_x 1001 1 granted ∷ set_x 1001 2 granted ∷ [])
