-- Why an entry is what it is: the lines, by what stood before it.
use Rattle.std.specs.Prelude.{ℕ, ◌==◌, List, [], ◌∷◌, ◌++◌, map, Option, Some, None, option_map, option_and_then, if◌then◌else◌}
use Rattle.std.specs.Option.{option_or}
use Rattle.sv_access.specs.declared.access.Kind.{Kind}
use Rattle.sv_access.specs.declared.access.Kind.TheVariants as kind
use Rattle.sv_events.specs.Entry.{PlainEntry}
use Rattle.sv_events.specs.Row.{act_row}
use Rattle.sv_events.specs.declared.event.Hold.{Hold}
use Rattle.sv_events.specs.declared.row.Accessing.{Accessing}
use Rattle.sv_events.specs.declared.row.ActRow.{ActRow}
use Rattle.sv_events.specs.declared.row.Ending.{Ending}
use Rattle.sv_events.specs.declared.row.Ending.TheVariants.{All, One}
use Rattle.sv_events.specs.declared.row.Question.{Question}
use Rattle.sv_events.specs.declared.row.Question.TheVariants as question
use Rattle.sv_journal.specs.EntryText.{entry_text}
use Rattle.sv_rules.specs.Entries.{Entries, is_abandoned, kind_of, next_place}
use Rattle.sv_rules.specs.Refused.{act_held, hold_under}
use Rattle.sv_rules.specs.Standing.{own_offer, standing}
use Rattle.sv_rules.specs.declared.coupling.Coupling.{Coupling}
use Rattle.sv_rules.specs.declared.standing.Standing.{Standing}
use Rattle.run_reasons.specs.Facts.{facts_of, ground_lines}
use Rattle.run_reasons.specs.Ground.{Ground, ground_now, sharing_in}
use Rattle.run_reasons.specs.Placed.{known_source}
use Rattle.run_reasons.specs.Sentence.{hold_sentence, illegal_sentence, none_sentence, pair_sentence, rule_sentence, stuck_sentence, value_sentence, wait_sentence}
use Rattle.run_reasons.specs.declared.ground.GroundFacts.{GroundFacts}
use Rattle.run_reasons.specs.declared.story.Source.{Source}

-- the local name that an ending or a question is about, if it is about one
abbrev pub ended_name : Ending → Option (List ℕ)
ended_name (One local) = Some local
ended_name All = None

abbrev pub asked_name : Question → Option (List ℕ)
asked_name (question.Control local) = Some local
asked_name (question.State local) = Some local
asked_name (question.Degree local) = Some local
asked_name question.Parties = None
asked_name (question.Names from) = None

-- the local name that an act is about
abbrev pub name_of : ActRow → Option (List ℕ)
name_of row =
    option_or (option_map (λ opening. opening.local) row.opens)
    (option_or (option_and_then ended_name row.ends)
    (option_or (option_map (λ set. set.local) row.controls) (option_or (option_map (λ access. access.local) row.accesses) (option_and_then asked_name row.asks))))

-- the entry whose value a use gets: that of the last set of a coupling, or of what its party knows
abbrev pub value_source : Entries → GroundFacts → Option Coupling → Option Source
value_source journal facts None = known_source journal facts.offer
value_source journal facts (Some coupling) = option_map (λ set. set.source) facts.told.last

-- what a use gets that nothing refuses
abbrev pub got_lines : Entries → GroundFacts → Kind → List (List ℕ)
got_lines journal facts kind.Set = []
got_lines journal facts kind.Use = value_sentence (value_source journal facts facts.coupling) ∷ []

-- what refuses the access of an act, by the rules over its ground
abbrev pub ground_hold : Ground → Option Accessing → Option Hold
ground_hold basis None = None
ground_hold basis (Some access) = hold_under (sharing_in basis) access.kind

-- what is got where nothing refuses it
abbrev pub unless_held : Entries → GroundFacts → Kind → Option Hold → List (List ℕ)
unless_held journal facts kind None = got_lines journal facts kind
unless_held journal facts kind (Some hold) = []

-- the row of the access table that decides of an access, and how
abbrev pub access_lines : Entries → GroundFacts → Option Hold → Option Accessing → List (List ℕ)
access_lines journal facts hold None = []
access_lines journal facts hold (Some access) = rule_sentence facts.side access.kind ∷ hold_sentence hold ∷ unless_held journal facts access.kind hold

-- the value that a party keeps which takes a name back
abbrev pub kept_lines : Entries → Standing → Option Ending → List (List ℕ)
kept_lines journal offer None = []
kept_lines journal offer (Some ending) = value_sentence (known_source journal offer) ∷ []

-- an act on an offer, by facts and by what refuses it
abbrev pub lines_by : Entries → ActRow → GroundFacts → Option Hold → List (List ℕ)
lines_by journal row facts hold = ground_lines facts ++ (access_lines journal facts hold row.accesses ++ kept_lines journal facts.offer row.ends)

-- an act on an offer that stands, by its ground
abbrev pub lines_on : Entries → ActRow → Ground → List (List ℕ)
lines_on journal row basis = lines_by journal row (facts_of basis) (ground_hold basis row.accesses)

-- an act on a name, by the party's offer of it
abbrev pub named_lines : Entries → ℕ → ActRow → List ℕ → Option Standing → List (List ℕ)
named_lines journal party row local None = none_sentence party local ∷ []
named_lines journal party row local (Some offer) = lines_on journal row (ground_now journal offer)

-- an act, on a name or on none
abbrev pub act_lines : Entries → ℕ → ActRow → Option (List ℕ) → List (List ℕ)
act_lines journal party row None = []
act_lines journal party row (Some local) = named_lines journal party row local (own_offer (standing journal) party local)

-- the place of a party's last entry, where this is held
abbrev pub waits_since : Entries → ℕ → Option ℕ
waits_since [] party = None
waits_since (e ∷ journal) party =
    if e.party == party then option_map (λ act. next_place journal) (act_held e) else waits_since journal party

-- since when the party waits, if it does
abbrev pub wait_lines : ℕ → Option ℕ → List (List ℕ)
wait_lines party None = []
wait_lines party (Some at) = wait_sentence party at ∷ []

-- that a wait is given up, where the answer says so
abbrev pub stuck_lines : PlainEntry → List (List ℕ)
stuck_lines e = if is_abandoned (kind_of e.answer) then stuck_sentence ∷ [] else []

-- what the rules say of an entry behind these
abbrev pub rule_lines : Entries → PlainEntry → List (List ℕ)
rule_lines journal e =
    wait_lines e.party (waits_since journal e.party)
    ++ (act_lines journal e.party (act_row e.act).row (name_of (act_row e.act).row) ++ (stuck_lines e ++ map pair_sentence e.made))

-- where entries before it are not legal, if they are not
abbrev pub illegal_lines : Option ℕ → List (List ℕ)
illegal_lines None = []
illegal_lines (Some at) = illegal_sentence at ∷ []

-- why an entry is what it is: its line, where entries before it are not legal, and what the rules say of it
abbrev pub why_lines : Option ℕ → Entries → PlainEntry → List (List ℕ)
why_lines illegal journal e = entry_text (next_place journal) e ∷ (illegal_lines illegal ++ rule_lines journal e)
