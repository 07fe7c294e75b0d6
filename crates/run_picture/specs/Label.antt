-- What stands in a lane for an entry: its mark, and a text beside it.
use Rattle.std.specs.Prelude.{ℕ, ◌-◌, ◌+◌, nat_le, List, [], ◌∷◌, ◌++◌, map, take, length, codes, decimal, Option, Some, None, if◌then◌else◌}
use Rattle.std.specs.Option.{option_map_or}
use Rattle.apl_arrays.specs.Array.{PlainArray, PlainItems, numbers, chars}
use Rattle.apl_arrays.specs.Glyph.{left_arrow, right_arrow}
use Rattle.line_text.specs.Number.{number_text}
use Rattle.line_text.specs.Spaced.{spaced}
use Rattle.sv_events.specs.Entry.{PlainEntry}
use Rattle.sv_events.specs.Row.{answer_row}
use Rattle.sv_events.specs.declared.event.Act.{Act}
use Rattle.sv_events.specs.declared.event.Act.TheVariants.{Offer, Retract, SetControl, AskControl, AskState, AskDegree, AskParties, AskNames, Set, Use, Leave}
use Rattle.sv_journal.specs.EntryText.{control_text, hold_text}
use Rattle.run_picture.specs.Layout.{most_beside}

-- a text of so many glyphs at most; of a longer one the front, and two points
abbrev pub cut : ℕ → List ℕ → List ℕ
cut most text = if nat_le (length text) most then text else take (most - 2) text ++ codes ".."

-- the first items of a value, more of them than are shown
abbrev pub first_items : PlainItems → List ℕ
first_items (numbers list) = spaced (map number_text (take most_beside list))
first_items (chars list) = take (most_beside + 1) list

-- a value that is got, behind an arrow
abbrev pub got_text : Option PlainArray → List ℕ
got_text None = []
got_text (Some got) = right_arrow ∷ first_items got.items

-- the text of a question
abbrev pub asked_text : List ℕ → List ℕ
asked_text of = of ++ codes "?"

-- the text of an act, and of the value that it gets
abbrev pub act_label : Act → Option PlainArray → List ℕ
act_label (Offer to local surrogate handed) got = local
act_label (Retract local) got = local
act_label (SetControl local control) got = spaced (local ∷ control_text control ∷ [])
act_label (AskControl local) got = asked_text local
act_label (AskState local) got = asked_text local
act_label (AskDegree local) got = asked_text local
act_label AskParties got = asked_text []
act_label (AskNames party) got = asked_text (decimal party)
act_label (Set local new) got = local ++ left_arrow ∷ first_items new.items
act_label (Use local) got = local ++ got_text got
act_label Leave got = codes "leave"

-- what stands beside the mark: of a refused access the element and whose 1 it is, else the text of the act
abbrev pub label_of : PlainEntry → List ℕ
label_of e = cut most_beside (option_map_or hold_text (answer_row e.answer).row.hold (act_label e.act (answer_row e.answer).value))

-- the mark of an act
abbrev pub mark_of : Act → List ℕ
mark_of (Offer to local surrogate handed) = codes "offer"
mark_of (Retract local) = codes "retract"
mark_of (SetControl local control) = codes "control"
mark_of (AskControl local) = codes "question"
mark_of (AskState local) = codes "question"
mark_of (AskDegree local) = codes "question"
mark_of AskParties = codes "question"
mark_of (AskNames party) = codes "question"
mark_of (Set local new) = codes "set"
mark_of (Use local) = codes "use"
mark_of Leave = codes "leave"

-- how a mark is drawn: one of a refused access is hollow
abbrev pub style_of : PlainEntry → List ℕ
style_of e = option_map_or (λ hold. codes "held") (answer_row e.answer).row.hold (mark_of e.act)
