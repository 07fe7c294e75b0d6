use Rattle.std.proofs.Common.{◌≡◌, ◌<◌, length, rules, tests}
use Rattle.std.proofs.lemmas.Result.{on_ok_weaker}
use Rattle.sv_events.specs.declared.event.Act.TheVariants as act
use Rattle.apl_session.specs.declared.errand.Errand.{Errand}
use Rattle.apl_session.specs.declared.progress.Progress.{Progress}
use Rattle.apl_session.proofs.Commanding.{retracts_next}
use Rattle.apl_session.proofs.Moves.{asks_command, asks_paused}
use Rattle.apl_session.proofs.progress.Progress.retract_next.Goals as goal

pub returns-then-errand-as_slice-clause-stands : goal.returns-then-errand-as_slice-clause-stands
returns-then-errand-as_slice-clause-stands c =
    let p : Progress = c.args.self.now in
    let errand : Errand = c.args.errand in
    let left : errand.retracted < length errand.todo.retract.items = search (rules, tests) in
    let first = retracts_next errand p.terminal.workspace c.index-as_slice-errand.result c.requires.phase left (search rules) in
    on_ok_weaker c.wait_for_command.result (λ is lines answers exchanges at. asks_command lines answers exchanges errand (act.Retract c.index-as_slice-errand.result) p c.wait_for_command.new.self is c.requires.may.free c.requires.may.fit first at) c.wait_for_command.ensures.asks

pub returns-then-errand-as_slice-clause-paused : goal.returns-then-errand-as_slice-clause-paused
returns-then-errand-as_slice-clause-paused c = on_ok_weaker c.wait_for_command.result (λ is. asks_paused c.args.errand (act.Retract c.index-as_slice-errand.result) c.args.self.now c.wait_for_command.new.self is) c.wait_for_command.ensures.asks
