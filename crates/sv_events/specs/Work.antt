use Rattle.std.specs.Prelude.{ℕ, true, List, ◌∷◌, Option, Some, None, option_map, decimal}
use Rattle.apl_arrays.specs.Array.{PlainArray}
use Rattle.sv_access.specs.declared.control.Control.{Control}
use Rattle.sv_access.specs.Control.{four_elements}
use Rattle.sv_events.specs.declared.event.Act.{Act}
use Rattle.sv_events.specs.declared.event.Act.TheVariants as act
use Rattle.sv_events.specs.declared.work.Work.{Work}
use Rattle.sv_events.specs.declared.work.Work.TheVariants.{Idle, Retract, Control as ControlDue, Reply, Counter, Use}

-- the letter with which the local name of a counter-offer begins
abbrev pub letter_s : ℕ
letter_s = 83

-- the local name of a counter-offer: S and the place of its entry
abbrev pub counter_name : ℕ → List ℕ
counter_name place = letter_s ∷ decimal place

-- each access by either side is controlled
abbrev pub all_controlled : Control
all_controlled = four_elements true true true true

-- the act of some work that is no reply, whose entry has this place
abbrev pub lone_act : Work → ℕ → Option Act
lone_act Idle place = None
lone_act (Retract local) place = Some (act.Retract local)
lone_act (ControlDue local) place = Some (act.SetControl local all_controlled)
lone_act (Reply local) place = None
lone_act (Counter to surrogate) place = Some (act.Offer to (counter_name place) surrogate None)
lone_act (Use local) place = Some (act.Use local)

-- the local name whose value is to be answered, where the work is that
abbrev pub replied_name : Work → Option (List ℕ)
replied_name Idle = None
replied_name (Retract local) = None
replied_name (ControlDue local) = None
replied_name (Reply local) = Some local
replied_name (Counter to surrogate) = None
replied_name (Use local) = None

-- the act of some work, whose entry has this place: a reply is set, and other work takes none; there is no act where
-- there is no work, or a reply is wanting or too much
abbrev pub act_of : Work → ℕ → Option PlainArray → Option Act
act_of work place None = lone_act work place
act_of work place (Some reply) = option_map (λ local. act.Set local reply) (replied_name work)
