use Rattle.std.specs.Prelude.{ℕ, ◌==◌, nat_lt, List, [], ◌∷◌, map, filter, Option, Some, None, if◌then◌else◌}
use Rattle.sv_events.specs.Answer.{PlainAnswer, degree, vector, parties, names}
use Rattle.sv_events.specs.declared.row.Question.{Question}
use Rattle.sv_events.specs.declared.row.Question.TheVariants as question
use Rattle.sv_rules.specs.Control.{control_in_force, state_vector}
use Rattle.sv_rules.specs.Coupling.{couplings, degree_at, open_to}
use Rattle.sv_rules.specs.Entries.{Entries}
use Rattle.sv_rules.specs.Standing.{standing, own_offer}
use Rattle.sv_rules.specs.declared.standing.Standing.{Standing}

-- the degree of a name: 0 without an offer, 2 where it is coupled, else 1
abbrev pub degree_of : Entries → Option Standing → ℕ
degree_of journal None = 0
degree_of journal (Some offer) = degree_at (couplings journal) offer.place

-- ascending numbers with one more, each once
abbrev pub with_number : ℕ → List ℕ → List ℕ
with_number new [] = new ∷ []
with_number new (number ∷ numbers) =
    if nat_lt new number then new ∷ number ∷ numbers
    else (if new == number then number ∷ numbers else number ∷ with_number new numbers)

-- the numbers, ascending, each once
abbrev pub ascending : List ℕ → List ℕ
ascending [] = []
ascending (number ∷ numbers) = with_number number (ascending numbers)

-- the parties that have these offers, ascending, each once
abbrev pub parties_of : List Standing → List ℕ
parties_of offers = ascending (map (λ offer. offer.party) offers)

-- the surrogates of a party's among some offers, in their order
abbrev pub surrogates_of : List Standing → ℕ → List (List ℕ)
surrogates_of offers from = map (λ offer. offer.surrogate) (filter (λ offer. offer.party == from) offers)

-- the parties that have open offers to the party by its number, ascending
abbrev pub parties_to : Entries → ℕ → List ℕ
parties_to journal party = parties_of (open_to journal party)

-- the surrogates of a party's open offers to another by its number, by place
abbrev pub names_to : Entries → ℕ → ℕ → List (List ℕ)
names_to journal from to = surrogates_of (open_to journal to) from

-- what a question of a party is answered
abbrev pub answer_to_question : Entries → ℕ → Question → PlainAnswer
answer_to_question journal party (question.Control local) = vector (control_in_force journal (own_offer (standing journal) party local))
answer_to_question journal party (question.State local) = vector (state_vector journal (own_offer (standing journal) party local))
answer_to_question journal party (question.Degree local) = degree (degree_of journal (own_offer (standing journal) party local))
answer_to_question journal party question.Parties = parties (parties_to journal party)
answer_to_question journal party (question.Names from) = names (names_to journal from party)
