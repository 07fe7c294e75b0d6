use Rattle.std.proofs.Common.{subst, sym}
use Rattle.apl_session.specs.Errands.{IsFirstAct}
use Rattle.apl_session.specs.Standing.{CommandMayGoOn, IsCommanded}
use Rattle.apl_session.specs.declared.errand.Errand.{Errand}
use Rattle.apl_session.proofs.progress.Progress.answer_command.Goals as goal

pub hear_command-requires-clause-may : goal.hear_command-requires-clause-may
hear_command-requires-clause-may c = subst (λ (e : Errand). CommandMayGoOn c.args.self.now.terminal e) (sym c.into_inner.ensures) c.requires.may

pub hear_command-requires-clause-first : goal.hear_command-requires-clause-first
hear_command-requires-clause-first c = subst (λ (e : Errand). IsFirstAct e c.args.self.now.terminal.workspace c.args.act) (sym c.into_inner.ensures) c.requires.first

pub returns-in-Ok-clause-heard : goal.returns-in-Ok-clause-heard
returns-in-Ok-clause-heard c = λ lines answers exchanges at.
    c.in-Ok.ensures.heard lines answers exchanges (subst (λ (e : Errand). IsCommanded lines answers exchanges c.args.self.now.read c.args.self.now.terminal e) (sym c.into_inner.ensures) at)
