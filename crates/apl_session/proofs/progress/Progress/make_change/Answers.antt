use Rattle.std.proofs.Common.{◌≡◌, [], ap, subst, subst₂, sym, ◌∙◌}
use Rattle.std.proofs.lemmas.List.{drop_all}
use Rattle.std.proofs.lemmas.Result.{on_ok_weaker}
use Rattle.apl_terminal.specs.Commands.{finishing}
use Rattle.apl_terminal.specs.Terminal.{PlainTerminal}
use Rattle.ws_commands.specs.Finish.{MayBeMade}
use Rattle.ws_commands.specs.Todo.{plain_change}
use Rattle.ws_commands.specs.declared.todo.Change.{Change}
use Rattle.apl_session.specs.Errands.{errand_rest, names_left}
use Rattle.apl_session.specs.Standing.{IsAt}
use Rattle.apl_session.specs.declared.errand.Errand.{Errand}
use Rattle.apl_session.specs.declared.errand.Phase.TheVariants as phase
use Rattle.apl_session.specs.declared.progress.Progress.{Progress}
use Rattle.apl_session.proofs.Commanding.{change_led, may_be_made}
use Rattle.apl_session.proofs.progress.Progress.make_change.Goals as goal

pub finish-requires-clause-may : goal.finish-requires-clause-may
finish-requires-clause-may c =
    let errand : Errand = c.args.errand in
    subst (λ (change : Change). MayBeMade (plain_change change) c.args.self.now.terminal.workspace) (sym c.replace-change.ensures.value)
    (may_be_made errand c.args.self.now.terminal.workspace (drop_all errand.retracted errand.todo.retract.items c.requires.all) c.requires.phase c.requires.may.fit)

pub returns-clause-stands : goal.returns-clause-stands
returns-clause-stands c =
    let errand : Errand = c.args.errand in
    let p : Progress = c.args.self.now in
    let none : names_left errand ≡ [] = drop_all errand.retracted errand.todo.retract.items c.requires.all in
    let made : c.finish.new.self ≡ finishing (plain_change errand.todo.change) p.terminal = c.finish.ensures ∙ ap (λ (change : Change). finishing (plain_change change) p.terminal) c.replace-change.ensures.value in
    on_ok_weaker c.remake_next.result
    (λ so lines answers exchanges at.
    so lines answers exchanges
    (subst₂ (λ (change : Change) (t : PlainTerminal). IsAt lines answers exchanges p.read (errand_rest (record errand { todo = record errand.todo { change = change }; phase = phase.Remaking })) t) (sym c.replace-change.ensures.after) (sym made)
    (change_led lines answers exchanges p.read p.terminal errand none c.requires.phase c.requires.may.fit at)))
    c.remake_next.ensures.stands
