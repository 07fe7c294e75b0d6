use Rattle.std.proofs.Common.{◌∙◌, ap, ℕ}
use Rattle.sv_core.specs.Core.{core_after}
use Rattle.sv_events.specs.declared.event.Act.TheVariants.{Leave}
use Rattle.party_turns.proofs.Phases.{leave_one}
use Rattle.aplsv_serve.proofs.part.give_up.Goals as goal

pub returns-clause-one : goal.returns-clause-one
returns-clause-one g c =
    leave_one c.args.core.now c.leave.new.self c.args.user.now.session.user (c.leave.ensures ∙ ap (λ (u : ℕ). core_after c.args.core.now u Leave) c.user.ensures)
