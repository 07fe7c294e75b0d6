use Rattle.std.proofs.Common.{ap, ◌∙◌, Some}
use Rattle.sv_access.specs.Table.{verdict_of}
use Rattle.sv_access.specs.declared.control.Control.{Control}
use Rattle.sv_access.specs.declared.verdict.Owners.{Owners}
use Rattle.sv_events.specs.declared.event.Hold.{Hold}
use Rattle.sv_rules.proofs.HoldLemmas.{hold_where_granted, hold_where_held}
use Rattle.sv_rules.proofs.control.hold_by_state.Goals as goal

pub returns-in-Granted : goal.returns-in-Granted
returns-in-Granted c =
    hold_where_granted c.args.a c.args.b c.args.state c.args.side c.args.kind
    (c.in-Granted.ensures.table ∙ ap (λ (joint : Control). verdict_of joint c.args.state c.args.side c.args.kind) c.join.ensures)

pub returns-in-Held : goal.returns-in-Held
returns-in-Held c = λ told is.
    ap (λ (own : Owners). let h : Hold = record { element = c.in-Held.element; owners = own } in Some h) c.owners.ensures
    ∙ hold_where_held c.args.a c.args.b c.args.state c.args.side c.args.kind c.in-Held.element
    (c.in-Held.ensures.table ∙ ap (λ (joint : Control). verdict_of joint c.args.state c.args.side c.args.kind) c.join.ensures) told is
