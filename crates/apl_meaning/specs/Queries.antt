-- ⎕SVQ: the parties with open offers, and the names that a party offers; and all system functions by their names.
use Rattle.std.specs.Prelude.{◌-◌, ◌++◌, ◌&&◌, ◌||◌, ◌==◌, ℕ, pos, Bool, true, false, not, List, [], ◌∷◌, Option, Some, None, fold, length, map, max, nat_lt, replicate, unsigned_abs, unwrap_or}
use Rattle.std.specs.List.{flat_map, list_any}
use Rattle.apl_arrays.specs.Array.{PlainArray, char_array, is_chars, item_count, number_array, numbers_in}
use Rattle.apl_arrays.specs.Glyph.{blank}
use Rattle.apl_items.specs.Answers.{Faults, no_faults, answer_of, first_report, shape_faults}
use Rattle.apl_items.specs.Extension.{number_at}
use Rattle.apl_arrays.specs.declared.system.SystemName.{SystemName}
use Rattle.apl_arrays.specs.declared.system.SystemName.TheVariants.{Svo, Svc, Svr, Svq, Svs}
use Rattle.sv_events.specs.Row.{answer_row}
use Rattle.sv_events.specs.declared.event.Act.TheVariants as act
use Rattle.apl_meaning.specs.State.{State, Outcome, and_then, outcome_of}
use Rattle.apl_meaning.specs.Answers.{answered_act}
use Rattle.apl_meaning.specs.Sharing.{controls, controls_in_force, degrees, is_no_addressee, offers, retractions, states, unless_wrong}

-- an array of this shape, unless it would be too large
abbrev pub list_outcome : PlainArray → State → Outcome PlainArray
list_outcome array s = outcome_of (answer_of (shape_faults array.shape) array) s

-- the parties that are listed, in a vector
abbrev pub party_vector : List ℕ → PlainArray
party_vector parties = number_array (length parties ∷ []) (map (λ party. pos party) parties)

-- the length of the longest of these names
abbrev pub longest : List (List ℕ) → ℕ
longest names = fold max 0 (map length names)

-- a name, and blanks up to a width
abbrev pub filled : ℕ → List ℕ → List ℕ
filled width name = name ++ replicate (width - length name) blank

-- the names that are listed, a row each, filled with blanks to the longest
abbrev pub name_matrix : List (List ℕ) → PlainArray
name_matrix names = char_array (length names ∷ longest names ∷ []) (flat_map (filled (longest names)) names)

-- the parties with open offers to this user
abbrev pub parties_told : State → Outcome PlainArray
parties_told s = and_then (answered_act act.AskParties s) (λ answer s. list_outcome (party_vector (unwrap_or (answer_row answer).parties [])) s)

-- the surrogates that a party offers to this user
abbrev pub names_told : ℕ → State → Outcome PlainArray
names_told party s = and_then (answered_act (act.AskNames party) s) (λ answer s. list_outcome (name_matrix (unwrap_or (answer_row answer).names [])) s)

-- what is wrong with B: it has at most one element, and that is the number of a party; 0 is none
abbrev pub query_faults : PlainArray → Faults
query_faults b = record no_faults {
  bad_rank = nat_lt 1 (length b.shape);
  bad_length = nat_lt 1 (item_count b.items);
  bad_domain = not (item_count b.items == 0) && (is_chars b.items || list_any (λ number. is_no_addressee number || unsigned_abs number == 0) (numbers_in b.items));
}

-- the query for parties where B is empty, and else for the names of the party that it is
abbrev pub query_by : Bool → PlainArray → State → Outcome PlainArray
query_by true b s = parties_told s
query_by false b s = names_told (unsigned_abs (number_at (numbers_in b.items) 0)) s

-- ⎕SVQ B: what is wrong with B comes before the act
abbrev pub queries : PlainArray → State → Outcome PlainArray
queries b s = unless_wrong (first_report (query_faults b)) (query_by (item_count b.items == 0) b) s

-- a system function by its name and its arguments; ⎕SVR, ⎕SVQ and ⎕SVS have no left argument
abbrev pub system_outcome : SystemName → Option PlainArray → PlainArray → State → Outcome PlainArray
system_outcome Svo None n s = degrees n s
system_outcome Svo (Some p) n s = offers p n s
system_outcome Svc None n s = controls_in_force n s
system_outcome Svc (Some c) n s = controls c n s
system_outcome Svr left n s = retractions n s
system_outcome Svq left b s = queries b s
system_outcome Svs left n s = states n s
