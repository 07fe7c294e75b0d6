use Rattle.std.proofs.Common.{◌≡◌, ◌++◌, ◌∷◌, [], drop, ◌+◌, rules, subst, sym, ap, ◌∙◌}
use Rattle.std.proofs.lemmas.Result.{on_ok_weaker}
use Rattle.sv_events.specs.Answer.{PlainAnswer, plain_answer}
use Rattle.apl_terminal.specs.Terminal.{PlainTerminal}
use Rattle.apl_session.specs.Errands.{IsErrand}
use Rattle.apl_session.specs.Standing.{IsCommanded}
use Rattle.apl_session.specs.declared.errand.Errand.{Errand}
use Rattle.apl_session.specs.declared.progress.Progress.{Progress}
use Rattle.apl_session.proofs.Commanding.{command_retracted, here_and_behind, next_is_shared, unshared_there}
use Rattle.apl_session.proofs.Moves.{behind_command, behind_may}
use Rattle.apl_session.proofs.progress.Progress.unshare_next.Goals as goal

pub unshare-requires-clause-shared : goal.unshare-requires-clause-shared
unshare-requires-clause-shared c =
    let p : Progress = c.args.self.now in
    next_is_shared c.args.errand p.terminal.workspace c.index-as_slice-errand.result c.rules.ensures c.requires.phase c.requires.some (search rules) c.requires.may.fit

pub returns-clause-heard : goal.returns-clause-heard
returns-clause-heard c =
    let p : Progress = c.args.self.now in
    let errand : Errand = c.args.errand in
    let after : Errand = record errand { retracted = errand.retracted + 1 } in
    let name = c.index-as_slice-errand.result in
    let answer : PlainAnswer = plain_answer c.args.answer in
    let here = here_and_behind errand.todo.retract.items errand.retracted name c.requires.some (search rules) in
    on_ok_weaker c.answered.result
    (λ is lines answers exchanges h.
    behind_command lines (answers ++ answer ∷ []) exchanges after (record p { terminal = c.unshare.new.self }) c.answered.new.self is
    (subst (λ (t : PlainTerminal). IsCommanded lines (answers ++ answer ∷ []) exchanges p.read t after) (sym c.unshare.ensures)
    (command_retracted lines answers exchanges p.read p.terminal errand name (drop (errand.retracted + 1) errand.todo.retract.items) answer c.rules.ensures here c.requires.phase c.requires.goes h)))
    c.answered.ensures

pub returns-clause-may : goal.returns-clause-may
returns-clause-may c =
    let p : Progress = c.args.self.now in
    let errand : Errand = c.args.errand in
    let after : Errand = record errand { retracted = errand.retracted + 1 } in
    let name = c.index-as_slice-errand.result in
    let here = here_and_behind errand.todo.retract.items errand.retracted name c.requires.some (search rules) in
    on_ok_weaker c.answered.result
    (λ is. behind_may after (record p { terminal = c.unshare.new.self }) c.answered.new.self is (ap (λ (t : PlainTerminal). t.definition) c.unshare.ensures ∙ c.requires.may.free)
    (subst (λ (t : PlainTerminal). IsErrand after t.workspace) (sym c.unshare.ensures)
    (unshared_there errand p.terminal.workspace name (drop (errand.retracted + 1) errand.todo.retract.items) (plain_answer c.args.answer) c.rules.ensures here c.requires.phase c.requires.may.fit)))
    c.answered.ensures
