use Rattle.std.proofs.Common.{◌++◌, ℕ, List, refl, subst, sym}
use Rattle.std.proofs.lemmas.Result.{on_ok_weaker}
use Rattle.session_rules.specs.Commands.{todo_done}
use Rattle.ws_commands.specs.Todo.{plain_todo}
use Rattle.apl_session.specs.Errands.{errand_rest}
use Rattle.apl_session.specs.Standing.{IsAt, CommandMayGoOn}
use Rattle.apl_session.specs.declared.errand.Errand.{Errand}
use Rattle.apl_session.specs.declared.progress.Progress.{Progress}
use Rattle.apl_session.proofs.Commanding.{command_begun}
use Rattle.apl_session.proofs.progress.Progress.command.Goals as goal

pub go_through-requires-clause-may : goal.go_through-requires-clause-may
go_through-requires-clause-may g c =
    subst (λ (e : Errand). CommandMayGoOn c.args.self.now.terminal e) (sym c.begun.ensures) (record { free = c.requires.free; fit = record { names_are = c.in-Ok.ensures.retract; comes = c.in-Ok.ensures.comes; none_made = refl } })

pub returns-in-Ok-clause-stands : goal.returns-in-Ok-clause-stands
returns-in-Ok-clause-stands g c =
    let p : Progress = c.args.self.now in
    let line : List ℕ = c.args.line.now.items in
    on_ok_weaker c.go_through.result
    (λ so lines answers exchanges at.
    let k = command_begun g.K.Shelf.told g.K.Shelf.faults lines answers exchanges p.read p.terminal line (plain_todo c.in-Ok.todo) c.args.user c.args.shelf.now c.prepare.new.shelf c.in-Ok.ensures.todo at in
    record {
      more = k.0;
      served = k.1;
      holds = so lines answers (k.0 ++ exchanges)
          (subst (λ (e : Errand). IsAt lines answers (k.0 ++ exchanges) p.read (errand_rest e) p.terminal) (sym c.begun.ensures)
          (subst (λ (own : List ℕ). IsAt lines answers (k.0 ++ exchanges) p.read (todo_done own (plain_todo c.in-Ok.todo)) p.terminal) (sym c.in_ok-own.ensures) k.2));
    })
    c.go_through.ensures.stands
