use Rattle.std.proofs.Common.{sym, ap, subst, ◌∙◌}
use Rattle.apl_machine.specs.declared.flow.Stop.{Stop}
use Rattle.apl_session.specs.Standing.{IsIdleAt, PausesAt}
use Rattle.apl_session.specs.declared.progress.Progress.{Progress}
use Rattle.apl_session.proofs.Moves.{none_answered}
use Rattle.apl_session.proofs.progress.Progress.stop.Goals as goal

pub finish-requires-clause-idle : goal.finish-requires-clause-idle
finish-requires-clause-idle c = subst (λ (s : Stop). IsIdleAt c.args.machine.value s) c.in-Done.is c.requires.idle

pub finish-requires-in-Failed-clause-idle : goal.finish-requires-in-Failed-clause-idle
finish-requires-in-Failed-clause-idle c = subst (λ (s : Stop). IsIdleAt c.args.machine.value s) c.in-Failed.is c.requires.idle

pub returns-in-Asks-clause-pauses : goal.returns-in-Asks-clause-pauses
returns-in-Asks-clause-pauses c = subst (λ (s : Stop). PausesAt c.args.machine.value s c.args.self.now c.wait_for.new.self) (sym c.in-Asks.is) c.wait_for.ensures.pauses

pub returns-in-Done-clause-pauses : goal.returns-in-Done-clause-pauses
returns-in-Done-clause-pauses c = subst (λ (s : Stop). PausesAt c.args.machine.value s c.args.self.now c.finish.new.self) (sym c.in-Done.is) c.finish.ensures

pub returns-in-Failed-clause-pauses : goal.returns-in-Failed-clause-pauses
returns-in-Failed-clause-pauses c = subst (λ (s : Stop). PausesAt c.args.machine.value s c.args.self.now c.finish-in-Failed.new.self) (sym c.in-Failed.is) c.finish-in-Failed.ensures

pub returns-in-Done-clause-paused : goal.returns-in-Done-clause-paused
returns-in-Done-clause-paused c = none_answered c.finish.new.self.under_way (ap (λ (p : Progress). p.under_way) c.finish.ensures ∙ c.requires.none)

pub returns-in-Failed-clause-paused : goal.returns-in-Failed-clause-paused
returns-in-Failed-clause-paused c = none_answered c.finish-in-Failed.new.self.under_way (ap (λ (p : Progress). p.under_way) c.finish-in-Failed.ensures ∙ c.requires.none)
