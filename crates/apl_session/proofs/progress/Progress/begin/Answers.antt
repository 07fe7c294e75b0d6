use Rattle.std.proofs.Common.{ℕ, List, refl, ◌∙◌}
use Rattle.std.proofs.lemmas.Result.{on_ok_weaker}
use Rattle.line_trees.specs.Parsing.{plain_tree}
use Rattle.apl_session.specs.declared.progress.Progress.{Progress}
use Rattle.apl_session.proofs.Moves.{evaluated_on}
use Rattle.apl_session.proofs.progress.Progress.begin.Goals as goal

pub returns-in-Ok-clause-stands : goal.returns-in-Ok-clause-stands
returns-in-Ok-clause-stands g c =
    let p : Progress = c.args.self.now in
    let line : List ℕ = c.args.line.now.items in
    on_ok_weaker c.run.result
    (λ goes lines answers exchanges at.
    goes lines answers exchanges
    (evaluated_on lines line answers exchanges p.read p.terminal c.lend.new.self c.lend.result p.terminal.workspace (plain_tree c.args.tree) c.deref_mut.result.now c.begin.new.self c.lend.ensures.left c.lend.ensures.lent (c.deref_mut.ensures.value ∙ c.in_ok-machine.ensures) refl
    c.requires.tree c.in-Ok.ensures.stands at))
    c.run.ensures.stands
