use Rattle.std.proofs.Common.{◌≡◌, ◌++◌, ◌∷◌, ◌∙◌, [], ℕ, drop, ◌+◌, rules, subst₂, sym, ap}
use Rattle.std.proofs.lemmas.Result.{on_ok_weaker}
use Rattle.apl_terminal.specs.Terminal.{PlainTerminal}
use Rattle.apl_session.specs.Standing.{IsCommanded}
use Rattle.apl_session.specs.declared.errand.Errand.{Errand}
use Rattle.apl_session.specs.declared.progress.Progress.{Progress}
use Rattle.apl_session.proofs.Commanding.{command_remade, here_and_behind, may_be_remade}
use Rattle.apl_session.proofs.Moves.{behind_command, behind_may}
use Rattle.apl_session.proofs.progress.Progress.share_next.Goals as goal

pub returns-in-Ok-clause-heard : goal.returns-in-Ok-clause-heard
returns-in-Ok-clause-heard c =
    let p : Progress = c.args.self.now in
    let q : Progress = c.share_again.new.self in
    let errand : Errand = c.args.errand in
    let after : Errand = record errand { remade = errand.remade + 1 } in
    let offer = c.index-as_slice-errand.result in
    let here = here_and_behind errand.todo.remakes.items errand.remade offer c.requires.some (search rules) in
    let same : q.read ≡ p.read = ap (λ (r : Progress). r.read) c.share_again.ensures.rest in
    on_ok_weaker c.answered.result
    (λ is lines answers exchanges answer goes h.
    behind_command lines (answers ++ answer ∷ []) exchanges after q c.answered.new.self is
    (subst₂ (λ (k : ℕ) (t : PlainTerminal). IsCommanded lines (answers ++ answer ∷ []) exchanges k t after) (sym same) (sym c.in-Ok.ensures.shared)
    (command_remade lines answers exchanges p.read p.terminal errand offer (drop (errand.remade + 1) errand.todo.remakes.items) answer here c.requires.phase goes h)))
    c.answered.ensures

pub returns-in-Ok-clause-may : goal.returns-in-Ok-clause-may
returns-in-Ok-clause-may c =
    let q : Progress = c.share_again.new.self in
    let errand : Errand = c.args.errand in
    let after : Errand = record errand { remade = errand.remade + 1 } in
    on_ok_weaker c.answered.result (λ is. behind_may after q c.answered.new.self is (ap (λ (t : PlainTerminal). t.definition) c.in-Ok.ensures.shared ∙ c.requires.free) (may_be_remade after q.terminal.workspace c.requires.phase)) c.answered.ensures
