use Rattle.std.proofs.Common.{◌-◌, subst}
use Rattle.std.proofs.lemmas.Result.{on_ok_weaker}
use Rattle.apl_machine.specs.Machine.{PlainMachine}
use Rattle.apl_machine.specs.Runs.{StopsAs}
use Rattle.apl_session.proofs.Moves.{stopped_on}
use Rattle.apl_session.proofs.progress.Progress.run.Goals as goal

pub returns-in-Ok-clause-stands : goal.returns-in-Ok-clause-stands
returns-in-Ok-clause-stands g c =
    on_ok_weaker c.show.result
    (λ pauses lines answers exchanges under.
    stopped_on lines answers exchanges (c.run.new.steps - c.args.steps.now) c.args.machine.value c.run.new.self c.in-Ok.stop c.args.self.now c.show.new.self c.requires.none c.requires.free (subst (λ (m : PlainMachine). StopsAs m (c.run.new.steps - c.args.steps.now) c.run.new.self c.in-Ok.stop) c.deref_mut.ensures.value c.in-Ok.ensures.stop) c.show.ensures.taken pauses under)
    c.show.ensures.pauses
