use Rattle.std.specs.Prelude.{ℕ, Bool, true, false, ◌&&◌, ◌||◌, not, nat_le, Option, Some, None, is_some}
use Rattle.sv_access.specs.declared.access.Kind.{Kind}
use Rattle.sv_access.specs.declared.access.Kind.TheVariants as kind
use Rattle.sv_events.specs.declared.event.Act.{Act}
use Rattle.sv_events.specs.declared.event.Hold.{Hold}
use Rattle.sv_events.specs.declared.row.Ending.{Ending}
use Rattle.sv_events.specs.declared.row.Ending.TheVariants.{One, All}
use Rattle.sv_events.specs.declared.row.Accessing.{Accessing}
use Rattle.sv_events.specs.declared.row.Question.{Question}
use Rattle.sv_events.specs.declared.row.Question.TheVariants as question
use Rattle.sv_events.specs.declared.row.ActRow.{ActRow}
use Rattle.sv_events.specs.declared.row.AnswerRow.{AnswerRow}
use Rattle.sv_events.specs.declared.row.AnswerKind.{AnswerKind}
use Rattle.sv_events.specs.declared.row.AnswerKind.TheVariants as answer
use Rattle.sv_events.specs.Answer.{PlainAnswer}
use Rattle.sv_events.specs.Row.{act_row, answer_row}

-- the answers to an act that opens an offer
abbrev pub answers_opening : AnswerKind → Bool
answers_opening answer.Degree = true
answers_opening answer.OfferLimit = true
answers_opening _ = false

-- those to an act that ends the offer of a name
abbrev pub answers_retraction : AnswerKind → Bool
answers_retraction answer.Kept = true
answers_retraction answer.NotShared = true
answers_retraction _ = false

-- those to an act that ends all offers
abbrev pub answers_leave : AnswerKind → Bool
answers_leave answer.Done = true
answers_leave _ = false

-- those to an act that ends offers, one or all
abbrev pub answers_ending : Option Ending → AnswerKind → Bool
answers_ending None of = false
answers_ending (Some (One local)) of = answers_retraction of
answers_ending (Some All) of = answers_leave of

-- those to an act that sets a control
abbrev pub answers_control : AnswerKind → Bool
answers_control answer.Vector = true
answers_control answer.NotShared = true
answers_control _ = false

-- those to a set
abbrev pub answers_set : AnswerKind → Bool
answers_set answer.Granted = true
answers_set answer.Held = true
answers_set answer.Abandoned = true
answers_set answer.NotShared = true
answers_set _ = false

-- those to a use
abbrev pub answers_use : AnswerKind → Bool
answers_use answer.Value = true
answers_use answer.NoValue = true
answers_use answer.Held = true
answers_use answer.Abandoned = true
answers_use answer.NotShared = true
answers_use _ = false

-- those to an access of a kind
abbrev pub answers_access_of : Kind → AnswerKind → Bool
answers_access_of kind.Set of = answers_set of
answers_access_of kind.Use of = answers_use of

-- those to an act that makes an access
abbrev pub answers_access : Option Accessing → AnswerKind → Bool
answers_access None of = false
answers_access (Some access) of = answers_access_of access.kind of

-- a vector
abbrev pub is_vector : AnswerKind → Bool
is_vector answer.Vector = true
is_vector _ = false

-- a degree
abbrev pub is_degree : AnswerKind → Bool
is_degree answer.Degree = true
is_degree _ = false

-- parties
abbrev pub are_parties : AnswerKind → Bool
are_parties answer.Parties = true
are_parties _ = false

-- names
abbrev pub are_names : AnswerKind → Bool
are_names answer.Names = true
are_names _ = false

-- those to a question
abbrev pub answers_question : Option Question → AnswerKind → Bool
answers_question None of = false
answers_question (Some (question.Control local)) of = is_vector of
answers_question (Some (question.State local)) of = is_vector of
answers_question (Some (question.Degree local)) of = is_degree of
answers_question (Some question.Parties) of = are_parties of
answers_question (Some (question.Names party)) of = are_names of

-- the journal is full
abbrev pub is_full_kind : AnswerKind → Bool
is_full_kind answer.Full = true
is_full_kind _ = false

-- the act ends all offers of its party
abbrev pub ends_all : Option Ending → Bool
ends_all None = false
ends_all (Some (One local)) = false
ends_all (Some All) = true

-- an answer of this kind may be given to an act of this row
abbrev pub fits_kind : ActRow → AnswerKind → Bool
fits_kind row of =
    (is_some row.opens && answers_opening of) || answers_ending row.ends of || (is_some row.controls && answers_control of)
    || answers_access row.accesses of || answers_question row.asks of || (is_full_kind of && not (ends_all row.ends))

-- a degree is at most 2
abbrev pub is_degree_in_range : Option ℕ → Bool
is_degree_in_range None = true
is_degree_in_range (Some degree) = nat_le degree 2

-- the element of a hold is from 1 to 4
abbrev pub is_hold_in_range : Option Hold → Bool
is_hold_in_range None = true
is_hold_in_range (Some hold) = nat_le 1 hold.element && nat_le hold.element 4

-- an answer fits an act where its kind does, and its degree and element are in range
abbrev pub fits_row : ActRow → AnswerRow → Bool
fits_row act given = is_degree_in_range given.degree && is_hold_in_range given.hold && fits_kind act given.kind

-- an answer is one of those that fit an act
abbrev pub answer_fits : Act → PlainAnswer → Bool
answer_fits act given = fits_row (act_row act).row (answer_row given).row
