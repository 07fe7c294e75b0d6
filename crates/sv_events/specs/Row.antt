use Rattle.std.specs.Prelude.{ℕ, ◌+◌, ◌*◌, List, length, Option, Some, None}
use Rattle.std.specs.Option.{option_map_or}
use Rattle.apl_arrays.specs.Array.{PlainArray, item_count}
use Rattle.sv_access.specs.declared.access.Kind.TheVariants as kind
use Rattle.sv_events.specs.Answer.{PlainAnswer, degree, granted, value, no_value, held, abandoned, not_shared, offer_limit, full, vector, parties, names, kept, done}
use Rattle.sv_events.specs.declared.event.Act.{Act}
use Rattle.sv_events.specs.declared.event.Act.TheVariants.{Offer, Retract, SetControl, AskControl, AskState, AskDegree, AskParties, AskNames, Set, Use, Leave}
use Rattle.sv_events.specs.declared.row.Ending.TheVariants.{One, All}
use Rattle.sv_events.specs.declared.row.Question.{Question}
use Rattle.sv_events.specs.declared.row.Question.TheVariants as question
use Rattle.sv_events.specs.declared.row.ActRow.{ActRow}
use Rattle.sv_events.specs.declared.row.AnswerRow.{AnswerRow}
use Rattle.sv_events.specs.declared.row.AnswerKind.{AnswerKind}
use Rattle.sv_events.specs.declared.row.AnswerKind.TheVariants as answer_kind

-- what an act does: what it opens, ends, controls, accesses and asks, and the value that it hands in
pub record PlainActRow : Type 0 where
  pub row : ActRow
  pub hands_in : Option PlainArray

-- nothing
abbrev pub no_act : ActRow
no_act = record { opens = None; ends = None; controls = None; accesses = None; asks = None }

-- an act that hands in no value
abbrev pub without_value : ActRow → PlainActRow
without_value row = record { row = row; hands_in = None }

-- a question, and nothing else
abbrev pub asking : Question → ActRow
asking asked = record no_act { asks = Some asked }

-- each act's row
abbrev pub act_row : Act → PlainActRow
act_row (Offer to local surrogate handed) = record {
  row = record no_act { opens = Some (record { to = to; local = local; surrogate = surrogate }) };
  hands_in = handed;
}
act_row (Retract local) = without_value (record no_act { ends = Some (One local) })
act_row (SetControl local control) = without_value (record no_act { controls = Some (record { local = local; control = control }) })
act_row (AskControl local) = without_value (asking (question.Control local))
act_row (AskState local) = without_value (asking (question.State local))
act_row (AskDegree local) = without_value (asking (question.Degree local))
act_row AskParties = without_value (asking question.Parties)
act_row (AskNames party) = without_value (asking (question.Names party))
act_row (Set local new) = record {
  row = record no_act { accesses = Some (record { local = local; kind = kind.Set }) };
  hands_in = Some new;
}
act_row (Use local) = without_value (record no_act { accesses = Some (record { local = local; kind = kind.Use }) })
act_row Leave = without_value (record no_act { ends = Some All })

-- what an answer says: its kind, and the degree, vector, hold, value or list in it
pub record PlainAnswerRow : Type 0 where
  pub row : AnswerRow
  pub value : Option PlainArray
  pub parties : Option (List ℕ)
  pub names : Option (List (List ℕ))

-- an answer that says no more than its kind
abbrev pub of_kind : AnswerKind → AnswerRow
of_kind of = record { kind = of; degree = None; vector = None; hold = None }

-- an answer without a value or a list
abbrev pub bare : AnswerRow → PlainAnswerRow
bare row = record { row = row; value = None; parties = None; names = None }

-- each answer's row
abbrev pub answer_row : PlainAnswer → PlainAnswerRow
answer_row (degree d) = bare (record (of_kind answer_kind.Degree) { degree = Some d })
answer_row granted = bare (of_kind answer_kind.Granted)
answer_row (value got) = record (bare (of_kind answer_kind.Value)) { value = Some got }
answer_row no_value = bare (of_kind answer_kind.NoValue)
answer_row (held hold) = bare (record (of_kind answer_kind.Held) { hold = Some hold })
answer_row (abandoned hold) = bare (record (of_kind answer_kind.Abandoned) { hold = Some hold })
answer_row not_shared = bare (of_kind answer_kind.NotShared)
answer_row offer_limit = bare (of_kind answer_kind.OfferLimit)
answer_row full = bare (of_kind answer_kind.Full)
answer_row (vector control) = bare (record (of_kind answer_kind.Vector) { vector = Some control })
answer_row (parties list) = record (bare (of_kind answer_kind.Parties)) { parties = Some list }
answer_row (names list) = record (bare (of_kind answer_kind.Names)) { names = Some list }
answer_row (kept d known) = record (bare (record (of_kind answer_kind.Kept) { degree = Some d })) { value = known }
answer_row done = bare (of_kind answer_kind.Done)

-- how many elements a value has, none where there is no value
abbrev pub elements_of : Option PlainArray → ℕ
elements_of handed = option_map_or (λ array. item_count array.items) handed 0

-- an act weighs the elements that it hands in
abbrev pub act_weight : Act → ℕ
act_weight act = elements_of (act_row act).hands_in

-- how long a list is, none where there is no list
abbrev pub length_of : {X : Type 0} → Option (List X) → ℕ
length_of list = option_map_or length list 0

-- how many elements a party or a name counts for that an answer lists
abbrev pub listed_weight : ℕ
listed_weight = 8

-- an answer weighs the elements of its value, and 8 for each party or name that it lists
abbrev pub answer_weight : PlainAnswer → ℕ
answer_weight answer = elements_of (answer_row answer).value + listed_weight * (length_of (answer_row answer).parties + length_of (answer_row answer).names)
