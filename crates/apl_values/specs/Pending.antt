-- What an open act is for, the act itself, and what its answer brings.
use Rattle.std.specs.Prelude.{◌≡◌, ℕ, ℤ, true, List, [], Option, Some, unwrap_or}
use Rattle.apl_arrays.specs.Array.{PlainArray}
use Rattle.apl_selection.specs.Assignment.{assign_of}
use Rattle.apl_workspace.specs.Meaning.{is_shared_meaning}
use Rattle.apl_workspace.specs.Workspace.{PlainWorkspace, look}
use Rattle.sv_events.specs.Answer.{PlainAnswer}
use Rattle.sv_events.specs.Row.{answer_row}
use Rattle.sv_events.specs.declared.event.Act.{Act}
use Rattle.sv_events.specs.declared.event.Act.TheVariants as act
use Rattle.apl_meaning.specs.State.{State, Outcome, gives, and_then, outcome_of}
use Rattle.apl_meaning.specs.Answers.{answered_act, got, report_of_kind, unless_ended, with_copy}
use Rattle.apl_meaning.specs.Variables.{assignment}
use Rattle.apl_meaning.specs.Queries.{list_outcome, name_matrix, party_vector}
use Rattle.apl_meaning.specs.Expressions.{Found, valued}
use Rattle.apl_values.specs.declared.pending.ActPurpose.{ActPurpose}
use Rattle.apl_values.specs.declared.pending.ActPurpose.TheVariants as pending
use Rattle.apl_values.specs.Rows.{PlainNameRow, AreRows, FirstAsksAct, rows_act, rows_brought, rows_left}

-- what an open act is for: a reference; a set of a value, behind which this one is given; the use of a name whose items are replaced; the first of these rows, behind the numbers so far; the parties with open offers; or the names that one offers
pub data PlainActPurpose : Type 0 where
  refers : List ℕ → PlainActPurpose
  sets : List ℕ → PlainArray → PlainArray → PlainActPurpose
  replaces : List ℕ → List (Option PlainArray) → PlainArray → PlainActPurpose
  in_rows : List ℤ → List PlainNameRow → List ℕ → PlainActPurpose
  parties_asked : PlainActPurpose
  names_asked : ℕ → PlainActPurpose

-- what an open act is for
abbrev pub plain_act_purpose : ActPurpose → PlainActPurpose
plain_act_purpose (pending.Refers name) = refers name
plain_act_purpose (pending.Sets name value other) = sets name value (unwrap_or other value)
plain_act_purpose (pending.Replaces name subs right) = replaces name subs.items right
plain_act_purpose (pending.Row rows) = in_rows rows.numbers.items (rows_left rows) rows.shape.items
plain_act_purpose pending.Parties = parties_asked
plain_act_purpose (pending.Names party) = names_asked party

-- the act that is open
abbrev pub act_for_purpose : PlainActPurpose → PlainWorkspace → Act
act_for_purpose (refers name) w = act.Use name
act_for_purpose (sets name value other) w = act.Set name value
act_for_purpose (replaces name subs right) w = act.Use name
act_for_purpose (in_rows numbers rows shape) w = rows_act rows w
act_for_purpose parties_asked w = act.AskParties
act_for_purpose (names_asked party) w = act.AskNames party

-- a value is assigned to a name, and this one is given
abbrev pub assigned_giving : List ℕ → PlainArray → PlainArray → State → Outcome Found
assigned_giving name value other s = and_then (assignment name value s) (λ _ s. gives (Some other) s)

-- items of this old value are replaced, the name gets the new one, and the right side is given
abbrev pub replaced : List ℕ → List (Option PlainArray) → PlainArray → PlainArray → State → Outcome Found
replaced name subs right old s = and_then (outcome_of (assign_of old subs right) s) (λ new s. assigned_giving name new right s)

-- what an answer that does not end the line brings
abbrev pub brought : PlainActPurpose → PlainAnswer → State → Outcome Found
brought (refers name) answer s = valued (got name (answer_row answer).value s)
brought (sets name value other) answer s = and_then (with_copy name value s) (λ _ s. gives (Some other) s)
brought (replaces name subs right) answer s = and_then (got name (answer_row answer).value s) (λ old s. replaced name subs right old s)
brought (in_rows numbers rows shape) answer s = rows_brought numbers rows shape answer s
brought parties_asked answer s = valued (list_outcome (party_vector (unwrap_or (answer_row answer).parties [])) s)
brought (names_asked party) answer s = valued (list_outcome (name_matrix (unwrap_or (answer_row answer).names [])) s)

-- what an answer that was taken brings; some answers end the line
abbrev pub brought_by : PlainAnswer → PlainActPurpose → State → Outcome Found
brought_by answer for_this s = and_then (unless_ended (report_of_kind (answer_row answer).row.kind) answer s) (λ answer s. brought for_this answer s)

-- the act is asked, and its answer brings what it brings
abbrev pub act_asked_for : PlainActPurpose → State → Outcome Found
act_asked_for for_this s = and_then (answered_act (act_for_purpose for_this s.workspace) s) (λ answer s. brought for_this answer s)

-- what holds of an open act: a name that is referred to, set or replaced is seen as shared, and a row that is next asks an act
abbrev pub IsPending : PlainWorkspace → ActPurpose → Type 0
IsPending w (pending.Refers name) = is_shared_meaning (look w name) ≡ true
IsPending w (pending.Sets name value other) = is_shared_meaning (look w name) ≡ true
IsPending w (pending.Replaces name subs right) = is_shared_meaning (look w name) ≡ true
IsPending w (pending.Row rows) = AreRows w rows × FirstAsksAct w (rows_left rows)
IsPending w pending.Parties = Unit {0}
IsPending w (pending.Names party) = Unit {0}
