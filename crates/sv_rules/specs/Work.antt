use Rattle.std.specs.Prelude.{ℕ, Bool, true, false, ◌&&◌, ◌||◌, ◌==◌, not, nat_lt, List, filter, find, Option, is_some, option_map, unwrap_or, if◌then◌else◌}
use Rattle.std.specs.List.{list_any, list_all}
use Rattle.std.specs.Option.{option_map_or, option_or}
use Rattle.sv_access.specs.Access.{other_side, is_set}
use Rattle.sv_access.specs.Story.{is_unseen}
use Rattle.sv_events.specs.Entry.{PlainEntry}
use Rattle.sv_events.specs.Row.{act_row}
use Rattle.sv_events.specs.declared.work.Work.{Work}
use Rattle.sv_events.specs.declared.work.Work.TheVariants as work
use Rattle.aux_parties.specs.Auxiliaries.{auxiliaries, most_counters}
use Rattle.sv_rules.specs.Control.{control_on, side_at}
use Rattle.sv_rules.specs.Coupling.{couplings, is_coupled, coupling_now, open_to}
use Rattle.apl_arrays.specs.Name.{same_name}
use Rattle.sv_rules.specs.Entries.{Entries, since, is_full, has_left}
use Rattle.sv_rules.specs.Refused.{still_refused}
use Rattle.sv_rules.specs.Standing.{standing, offer_count}
use Rattle.sv_rules.specs.Story.{access_on, story}
use Rattle.aux_parties.specs.declared.auxiliary.AuxiliaryRow.{AuxiliaryRow}
use Rattle.sv_rules.specs.declared.coupling.Coupling.{Coupling}
use Rattle.sv_rules.specs.declared.standing.Standing.{Standing}

-- the offers of a party that stand, by place
abbrev pub own_offers : Entries → ℕ → List Standing
own_offers journal party = filter (λ offer. offer.party == party) (standing journal)

-- its open offer of the lowest place
abbrev pub first_open : Entries → ℕ → Option Standing
first_open journal party = find (λ offer. not (is_coupled (couplings journal) offer.place)) (own_offers journal party)

-- its coupled offer of the lowest place of which this holds
abbrev pub first_coupled : Entries → (Standing → Coupling → Bool) → ℕ → Option Standing
first_coupled journal holds party =
    find (λ offer. option_map_or (holds offer) (coupling_now journal offer.place) false) (own_offers journal party)

-- its party set no control on the offer since the coupling was made
abbrev pub lacks_control : Entries → Standing → Coupling → Bool
lacks_control journal offer coupling = not (list_any (λ e. is_some (control_on offer e)) (since coupling.at journal))

-- the entry is a set or a use by the offer's party on its local name, whatever its answer
abbrev pub tries : Standing → PlainEntry → Bool
tries offer e = e.party == offer.party && option_map_or (λ access. same_name access.local offer.local) (act_row e.act).row.accesses false

-- the entry is a use that got a value
abbrev pub gets_value : Standing → PlainEntry → Bool
gets_value offer e = option_map_or (λ access. not (is_set access.kind)) (access_on offer e) false

-- the last set or use by its party since the coupling was made is a use that got a value
abbrev pub owes_reply : Entries → Standing → Coupling → Bool
owes_reply journal offer coupling = option_map_or (gets_value offer) (find (tries offer) (since coupling.at journal)) false

-- a set of the partner is unseen
abbrev pub has_unseen : Entries → Standing → Coupling → Bool
has_unseen journal offer coupling = is_unseen (other_side (side_at coupling offer.place)) (story journal coupling)

-- the open offer of the lowest place that is made to the auxiliary, where it may have one offer more
abbrev pub to_counter : Entries → ℕ → Option Standing
to_counter journal party = find (λ offer. nat_lt (offer_count (standing journal) party) (most_counters party)) (open_to journal party)

-- the first work that applies, by the offers that are found: an own open offer is retracted; an own coupled one that lacks
-- a control gets one; one that owes a reply gets it; an offer that waits is countered; one with a value unseen is used
abbrev pub first_work : Option Standing → Option Standing → Option Standing → Option Standing → Option Standing → Option Work
first_work open' lacking owing waiting unseen =
    option_or (option_map (λ offer. work.Retract offer.local) open')
    (option_or (option_map (λ offer. work.Control offer.local) lacking)
    (option_or (option_map (λ offer. work.Reply offer.local) owing)
    (option_or (option_map (λ offer. work.Counter offer.party offer.surrogate) waiting)
    (option_map (λ offer. work.Use offer.local) unseen))))

-- the work that is due, if any is
abbrev pub work_due : Entries → ℕ → Option Work
work_due journal party =
    first_work (first_open journal party) (first_coupled journal (lacks_control journal) party)
    (first_coupled journal (owes_reply journal) party) (to_counter journal party) (first_coupled journal (has_unseen journal) party)

-- the work of an auxiliary: none where the journal is full
abbrev pub work_of : Entries → ℕ → Work
work_of journal party = if is_full journal then work.Idle else unwrap_or (work_due journal party) work.Idle

-- there is no work
abbrev pub is_idle : Work → Bool
is_idle work.Idle = true
is_idle _ = false

-- the user has left, or waits and is refused now
abbrev pub is_halted : Entries → ℕ → Bool
is_halted journal user = has_left journal user || is_some (still_refused journal user)

-- the party of a row has no work
abbrev pub rests : Entries → AuxiliaryRow → Bool
rests journal row = is_idle (work_of journal row.party)

-- nobody can go on: some user stays; whoever stays waits, and is refused still; no auxiliary has work
abbrev pub is_stuck : List ℕ → Entries → Bool
is_stuck users journal =
    list_any (λ user. not (has_left journal user)) users && list_all (is_halted journal) users && list_all (rests journal) auxiliaries
