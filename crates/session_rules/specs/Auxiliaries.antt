-- An auxiliary's part of a run: what answered behind it was told of its couplings, and gave its replies, in their order.
use Rattle.std.specs.Prelude.{◌==◌, ◌&&◌, ◌||◌, ◌++◌, ℕ, Bool, true, false, List, [], ◌∷◌, Option, Some, None, IsTrue, find, not, option_and_then, option_map, option_to_list, if◌then◌else◌}
use Rattle.std.specs.List.{list_any}
use Rattle.std.specs.Option.{option_map_or}
use Rattle.apl_arrays.specs.Array.{PlainArray}
use Rattle.apl_arrays.specs.Name.{same_name}
use Rattle.auxiliaries.specs.Run.{Event, began, answered, IsReplierRun}
use Rattle.sv_access.specs.Access.{is_set}
use Rattle.sv_events.specs.Entry.{PlainEntry}
use Rattle.sv_events.specs.Row.{act_row}
use Rattle.sv_events.specs.declared.row.Accessing.{Accessing}
use Rattle.sv_events.specs.declared.row.Controlling.{Controlling}
use Rattle.sv_rules.specs.Coupling.{partner_at}
use Rattle.sv_rules.specs.Entries.{Entries, has_left, value_got}
use Rattle.sv_rules.specs.Standing.{own_offer, standing}
use Rattle.sv_rules.specs.declared.standing.Standing.{Standing}

-- the party with which an offer is coupled, if it is
abbrev pub partner_of : Entries → Standing → Option ℕ
partner_of journal offer = partner_at journal offer.place

-- the party with which a party's name is coupled, if it is
abbrev pub partner_on : Entries → ℕ → List ℕ → Option ℕ
partner_on journal party local = option_and_then (partner_of journal) (own_offer (standing journal) party local)

-- an access is a use of this name
abbrev pub is_use_on : List ℕ → Accessing → Bool
is_use_on local access = not (is_set access.kind) && same_name access.local local

-- an entry is a party's use of a name
abbrev pub is_use_of : ℕ → List ℕ → PlainEntry → Bool
is_use_of party local e = e.party == party && option_map_or (is_use_on local) (act_row e.act).row.accesses false

-- the value that a party got by its last use of a name
abbrev pub value_used : Entries → ℕ → List ℕ → Option PlainArray
value_used journal party local = option_and_then (λ e. value_got e.answer) (find (is_use_of party local) journal)

-- the reply to the value that a party used last on a name, where it was set on this name
abbrev pub reply_to : Option PlainArray → Option ℕ → Option PlainArray → Option Event
reply_to (Some command) (Some customer) (Some reply) = Some (answered customer command reply)
reply_to _ _ _ = None

-- what a set of an auxiliary is: a reply to its last use before on the same name
abbrev pub reply_by : Entries → PlainEntry → Option Accessing → Option Event
reply_by journal e None = None
reply_by journal e (Some access) = reply_to (value_used journal e.party access.local) (partner_on journal e.party access.local) (act_row e.act).hands_in

-- what an entry of an auxiliary is to what answers behind it: a control begins with the partner, and a set is a reply
abbrev pub event_by : Entries → PlainEntry → Option Controlling → Option Event
event_by journal e (Some set) = option_map (λ customer. began customer) (partner_on journal e.party set.local)
event_by journal e None = reply_by journal e (act_row e.act).row.accesses

-- what an entry of an auxiliary is to what answers behind it, if it is anything
abbrev pub event_of : Entries → PlainEntry → Option Event
event_of journal e = event_by journal e (act_row e.act).row.controls

-- what the entries of an auxiliary are to what answers behind it, the newest first
abbrev pub events_of : Entries → ℕ → List Event
events_of [] party = []
events_of (e ∷ journal) party = (if e.party == party then option_to_list (event_of journal e) else []) ++ events_of journal party

-- some user has not left
abbrev pub some_stay : List ℕ → Entries → Bool
some_stay users journal = list_any (λ user. not (has_left journal user)) users

-- before each entry of a party some user has not left
abbrev pub acts_among : List ℕ → ℕ → Entries → Bool
acts_among users party [] = true
acts_among users party (e ∷ journal) = (not (e.party == party) || some_stay users journal) && acts_among users party journal

-- an auxiliary's part: its entries lead what answers behind it from one state to another, and before each of them some user has not left
pub record IsAuxiliaryPart {S : Type 0} (forgets : S → ℕ → S → Type 0) (replies : S → ℕ → PlainArray → PlainArray → S → Type 0) (users : List ℕ) (party : ℕ) (journal : Entries) (start end : S) : Type 0 where
  pub answers : IsReplierRun forgets replies start (events_of journal party) end
  pub among : IsTrue (acts_among users party journal)
