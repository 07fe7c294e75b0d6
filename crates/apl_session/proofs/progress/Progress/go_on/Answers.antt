use Rattle.std.proofs.Common.{subst, sym, ◌∙◌}
use Rattle.std.proofs.lemmas.Result.{on_ok_weaker}
use Rattle.apl_session.specs.Errands.{errand_rest}
use Rattle.apl_session.specs.Standing.{IsAt, CommandMayGoOn}
use Rattle.apl_session.specs.declared.errand.Errand.{Errand}
use Rattle.apl_session.specs.declared.progress.Progress.{Progress}
use Rattle.apl_session.proofs.Moves.{answered_runs, answered_there, commanded_may, commanded_there, none_answered}
use Rattle.apl_session.proofs.Progressing.{still_on}
use Rattle.apl_session.proofs.progress.Progress.go_on.Goals as goal

pub run-requires-clause-may : goal.run-requires-clause-may
run-requires-clause-may g c = (answered_runs c.args.self.now.terminal c.args.self.now.under_way c.in-Answered.machine (sym c.replace.ensures.value ∙ c.in-Answered.is) c.requires).1

pub run-requires-clause-none : goal.run-requires-clause-none
run-requires-clause-none g c = c.replace.ensures.after

pub run-requires-clause-free : goal.run-requires-clause-free
run-requires-clause-free g c = (answered_runs c.args.self.now.terminal c.args.self.now.under_way c.in-Answered.machine (sym c.replace.ensures.value ∙ c.in-Answered.is) c.requires).0

pub returns-in-Answered-clause-stands : goal.returns-in-Answered-clause-stands
returns-in-Answered-clause-stands g c =
    on_ok_weaker c.run.result (λ goes lines answers exchanges at. goes lines answers exchanges (answered_there lines answers exchanges c.args.self.now c.in-Answered.machine (sym c.replace.ensures.value ∙ c.in-Answered.is) at)) c.run.ensures.stands

pub returns-in-Answered-clause-paused : goal.returns-in-Answered-clause-paused
returns-in-Answered-clause-paused g c = c.run.ensures.paused

pub returns-in-Nothing-clause-stands : goal.returns-in-Nothing-clause-stands
returns-in-Nothing-clause-stands g c = λ lines answers exchanges at. still_on lines answers exchanges c.args.self.now _ (sym c.replace.ensures.value ∙ c.in-Nothing.is) c.replace.ensures.after at

pub returns-in-Nothing-clause-paused : goal.returns-in-Nothing-clause-paused
returns-in-Nothing-clause-paused g c = none_answered _ c.replace.ensures.after

pub go_through-requires-clause-none : goal.go_through-requires-clause-none
go_through-requires-clause-none g c = c.replace.ensures.after

pub go_through-requires-clause-may : goal.go_through-requires-clause-may
go_through-requires-clause-may g c =
    let p : Progress = c.args.self.now in
    subst (λ (e : Errand). CommandMayGoOn p.terminal e) (sym c.into_inner.ensures) (commanded_may p.terminal p.under_way c.in-Commanded.errand (sym c.replace.ensures.value ∙ c.in-Commanded.is) c.requires)

pub returns-in-Commanded-clause-stands : goal.returns-in-Commanded-clause-stands
returns-in-Commanded-clause-stands g c =
    let p : Progress = c.args.self.now in
    on_ok_weaker c.go_through.result
    (λ goes lines answers exchanges at.
    let h = commanded_there lines answers exchanges p c.in-Commanded.errand (sym c.replace.ensures.value ∙ c.in-Commanded.is) at in
    goes lines answers exchanges (subst (λ (e : Errand). IsAt lines answers exchanges p.read (errand_rest e) p.terminal) (sym c.into_inner.ensures) h.at))
    c.go_through.ensures.stands

pub returns-in-Commanded-clause-paused : goal.returns-in-Commanded-clause-paused
returns-in-Commanded-clause-paused g c = c.go_through.ensures.paused
