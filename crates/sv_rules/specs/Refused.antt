use Rattle.std.specs.Prelude.{ℕ, ◌==◌, find, Option, Some, None, is_some, Bool, option_map, option_and_then, if◌then◌else◌}
use Rattle.sv_access.specs.Control.{combined}
use Rattle.sv_access.specs.Story.{refused_element}
use Rattle.sv_access.specs.Table.{owners_of}
use Rattle.sv_access.specs.declared.access.Kind.{Kind}
use Rattle.sv_events.specs.Entry.{PlainEntry}
use Rattle.sv_events.specs.Row.{act_row}
use Rattle.sv_events.specs.declared.event.Act.{Act}
use Rattle.sv_events.specs.declared.event.Hold.{Hold}
use Rattle.sv_events.specs.declared.row.Accessing.{Accessing}
use Rattle.sv_rules.specs.Control.{Sharing, sharing}
use Rattle.sv_rules.specs.Entries.{Entries, kind_of, is_held}
use Rattle.sv_rules.specs.Standing.{standing, own_offer}
use Rattle.sv_rules.specs.declared.standing.Standing.{Standing}

-- what refuses an access of a party that shares so: the element of the access table over the story, and its owners
abbrev pub hold_under : Sharing → Kind → Option Hold
hold_under shared kind =
    option_map (λ element. record { element = element; owners = owners_of shared.a shared.b shared.side element })
    (refused_element (combined shared.a shared.b) shared.story shared.side kind)

-- what refuses an access of its party on an offer: nothing where there is no offer
abbrev pub hold_on : Entries → Kind → Option Standing → Option Hold
hold_on journal kind None = None
hold_on journal kind (Some offer) = hold_under (sharing journal offer) kind

-- what refuses the access of a party: nothing where there is none
abbrev pub hold_of : Entries → ℕ → Option Accessing → Option Hold
hold_of journal party None = None
hold_of journal party (Some access) = hold_on journal access.kind (own_offer (standing journal) party access.local)

-- what refuses an act of a party, if anything does
abbrev pub refused : Entries → ℕ → Act → Option Hold
refused journal party act = hold_of journal party (act_row act).row.accesses

-- the last entry of a party
abbrev pub last_entry : Entries → ℕ → Option PlainEntry
last_entry journal party = find (λ e. e.party == party) journal

-- the act of an entry that is held
abbrev pub act_held : PlainEntry → Option Act
act_held e = if is_held (kind_of e.answer) then Some e.act else None

-- the act that a party waits for: that of its last entry, where this is held
abbrev pub awaited : Entries → ℕ → Option Act
awaited journal party = option_and_then act_held (last_entry journal party)

-- the party waits
abbrev pub waits : Entries → ℕ → Bool
waits journal party = is_some (awaited journal party)

-- what refuses, now, the act that a party waits for
abbrev pub still_refused : Entries → ℕ → Option Hold
still_refused journal party = option_and_then (refused journal party) (awaited journal party)
