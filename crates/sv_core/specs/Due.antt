-- What an auxiliary may have to do on a coupled offer of its own, and for whom.
use Rattle.std.specs.Prelude.{ℕ, Bool, true, false, ◌==◌, not, Option, option_and_then, List, find, if◌then◌else◌}
use Rattle.std.specs.Option.{option_map_or, option_or}
use Rattle.apl_arrays.specs.Array.{PlainArray}
use Rattle.sv_access.specs.declared.access.Side.{Side}
use Rattle.sv_access.specs.declared.access.Side.TheVariants.{A, B}
use Rattle.sv_access.specs.declared.state.AccessState.{AccessState}
use Rattle.sv_access.specs.declared.state.AccessState.TheVariants.{UnseenA, UnseenB}
use Rattle.sv_core.specs.declared.working.Due.{Due}
use Rattle.sv_core.specs.declared.working.Due.TheVariants as due
use Rattle.sv_events.specs.declared.work.Work.{Work}
use Rattle.sv_events.specs.declared.work.Work.TheVariants as work
use Rattle.sv_rules.specs.Coupling.{coupling_now, couplings, is_coupled, partner_at}
use Rattle.sv_rules.specs.Entries.{Entries}
use Rattle.sv_rules.specs.Story.{known}
use Rattle.sv_rules.specs.Work.{first_coupled, first_work, has_unseen, lacks_control, owes_reply, to_counter}
use Rattle.sv_rules.specs.declared.coupling.Coupling.{Coupling}
use Rattle.sv_rules.specs.declared.standing.Standing.{Standing}

-- the fact on a coupled offer
abbrev pub is_due : Entries → Due → Standing → Coupling → Bool
is_due journal due.Control = lacks_control journal
is_due journal due.Reply = owes_reply journal
is_due journal due.Use = has_unseen journal

-- the work is a reply
abbrev pub is_reply : Work → Bool
is_reply (work.Reply local) = true
is_reply _ = false

-- the work is for a partner: a control on a coupled offer, or a reply
abbrev pub is_service : Work → Bool
is_service (work.Control local) = true
is_service (work.Reply local) = true
is_service _ = false

-- the value to reply to: what is known of the first offer on which a reply is owed
abbrev pub request_due : Entries → ℕ → Option PlainArray
request_due journal party = option_and_then (known journal) (first_coupled journal (owes_reply journal) party)

-- by the state, a set of the other side is unseen
abbrev pub is_partners_unseen : AccessState → Side → Bool
is_partners_unseen UnseenB A = true
is_partners_unseen UnseenA B = true
is_partners_unseen _ _ = false

-- the offer is coupled, and this is due on it
abbrev pub is_due_on : Entries → Due → Standing → Bool
is_due_on journal due offer = option_map_or (is_due journal due offer) (coupling_now journal offer.place) false

-- the offer is in no coupling
abbrev pub is_open : Entries → Standing → Bool
is_open journal offer = not (is_coupled (couplings journal) offer.place)

-- the work that is due of a party with these offers of its own, if any is
abbrev pub work_among : Entries → ℕ → List Standing → Option Work
work_among journal party own =
    first_work (find (is_open journal) own) (find (is_due_on journal due.Control) own) (find (is_due_on journal due.Reply) own) (to_counter journal party)
    (find (is_due_on journal due.Use) own)

-- the coupled offer on which a party has to set a control, else the one on which it has to reply
abbrev pub offer_to_serve : Entries → ℕ → Option Standing
offer_to_serve journal party = option_or (first_coupled journal (lacks_control journal) party) (first_coupled journal (owes_reply journal) party)

-- the partner on that offer
abbrev pub customer_of : Entries → ℕ → Option ℕ
customer_of journal party = option_and_then (λ offer. partner_at journal offer.place) (offer_to_serve journal party)
