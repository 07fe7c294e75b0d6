use Rattle.std.proofs.Common.{[], ◌∷◌, ap, subst}
use Rattle.apl_machine.specs.Machine.{PlainMachine}
use Rattle.apl_machine.specs.Runs.{StandsOn}
use Rattle.sv_events.specs.Answer.{plain_answer}
use Rattle.apl_session.specs.declared.under_way.UnderWay.{UnderWay}
use Rattle.apl_session.proofs.progress.Progress.hand.Goals as goal

pub returns-in-Ok-clause-stands : goal.returns-in-Ok-clause-stands
returns-in-Ok-clause-stands c = record {
  handed = record c.args.machine { value = c.resume.new.self };
  stands = subst (λ (m : PlainMachine). StandsOn m 0 (plain_answer c.args.answer ∷ []) [] c.resume.new.self) c.deref_mut.ensures.value c.resume.ensures.stands;
  may = c.resume.ensures.running;
  rest = ap (λ (u : UnderWay). record c.args.self.now { under_way = u }) c.replace.ensures.after;
}
