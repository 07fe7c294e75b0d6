use Rattle.std.proofs.Common.{◌≡◌, ◌∙◌, ap, refl, subst, ℕ, List, Option, option_copied, option_map}
use Rattle.std.specs.Prelude.{IfOk}
use Rattle.apl_io.specs.Faults.{Rose}
use Rattle.ws_commands.specs.Command.{PlainCommand, plain_command}
use Rattle.ws_commands.specs.Reading.{command_in, step_of_command}
use Rattle.ws_commands.specs.Shelf.{TakesStep}
use Rattle.ws_commands.specs.Todo.{PlainTodo, faulted, plain_todo}
use Rattle.ws_commands.specs.Words.{words_in}
use Rattle.ws_commands.proofs.Outcomes.{Comes, Gives, all_caused, all_come, all_give, taken_result}
use Rattle.ws_commands.proofs.preparing.prepare.Goals as goal

pub returns-clause-todo : goal.returns-clause-todo
returns-clause-todo g c =
    subst
    (λ (command : Option PlainCommand). IfOk c.perform_known-todo.result (λ todo. TakesStep g.K.Shelf.told g.K.Shelf.faults c.args.user (step_of_command command c.args.ws.now (option_copied c.args.wsid)) c.args.shelf.now (plain_todo todo) c.perform_known-todo.new.shelf))
    (c.in_ok-command.ensures ∙ ap (λ (line : List ℕ). command_in (words_in line)) c.as_slice.ensures) c.perform_known-todo.ensures.ok

pub returns-clause-retract : goal.returns-clause-retract
returns-clause-retract g c =
    let command : Option PlainCommand = option_map plain_command c.in_ok-command.command in
    let id = option_copied c.args.wsid in
    taken_result g.K.Shelf.told g.K.Shelf.faults (Gives c.args.ws.now) plain_todo c.args.user (step_of_command command c.args.ws.now id) c.args.shelf.now c.perform_known-todo.new.shelf c.perform_known-todo.result (all_give c.args.ws.now command id c.requires.frames) (λ cause. refl)
    c.perform_known-todo.ensures.ok

pub returns-clause-fault : goal.returns-clause-fault
returns-clause-fault g c =
    let command : Option PlainCommand = option_map plain_command c.in_ok-command.command in
    let id = option_copied c.args.wsid in
    taken_result g.K.Shelf.told g.K.Shelf.faults (λ (todo : PlainTodo). todo ≡ faulted → Rose (g.K.Shelf.faults c.args.shelf.now) (g.K.Shelf.faults c.perform_known-todo.new.shelf)) plain_todo c.args.user (step_of_command command c.args.ws.now id) c.args.shelf.now c.perform_known-todo.new.shelf
    c.perform_known-todo.result (all_caused (Rose (g.K.Shelf.faults c.args.shelf.now) (g.K.Shelf.faults c.perform_known-todo.new.shelf)) c.args.ws.now command id) (λ cause is. cause) c.perform_known-todo.ensures.ok

pub returns-clause-comes : goal.returns-clause-comes
returns-clause-comes g c =
    let command : Option PlainCommand = option_map plain_command c.in_ok-command.command in
    let id = option_copied c.args.wsid in
    taken_result g.K.Shelf.told g.K.Shelf.faults (Comes c.args.ws.now) plain_todo c.args.user (step_of_command command c.args.ws.now id) c.args.shelf.now c.perform_known-todo.new.shelf c.perform_known-todo.result (all_come c.args.ws.now command id c.requires.frames) (λ cause. tt)
    c.perform_known-todo.ensures.ok
