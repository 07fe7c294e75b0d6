use Rattle.std.proofs.Common.{Bool, sym, subst, ◌∙◌}
use Rattle.std.proofs.lemmas.Bool.{false≢true}
use Rattle.apl_items.specs.Places.{OnWantOfMemory}
use Rattle.apl_workspace.specs.Workspace.{look}
use Rattle.apl_statements.specs.Interpreter.{PlainInterpreter}
use Rattle.apl_statements.specs.Moves.{Comes, part_takes}
use Rattle.apl_statements.specs.Stack.{assignment_step}
use Rattle.apl_subscripts.specs.Held.{places_at}
use Rattle.apl_machine.specs.Nexts.{MayBeAssigned, given_places}
use Rattle.apl_machine.proofs.stepping.assign_to.Goals as goal

pub returns-then-has_subs-clause-comes : goal.returns-then-has_subs-clause-comes
returns-then-has_subs-clause-comes c =
    let m : PlainInterpreter = c.args.interpreter.now in
    subst (λ (b : Bool). Comes m (part_takes m c.args.e (assignment_step c.args.name (given_places b (places_at c.args.e c.args.at)))) 0 c.assign_items.new.interpreter c.assign_items.result) (sym c.if-has_subs.true) c.assign_items.ensures.comes

pub returns-else-has_subs-clause-comes : goal.returns-else-has_subs-clause-comes
returns-else-has_subs-clause-comes c =
    let m : PlainInterpreter = c.args.interpreter.now in
    subst (λ (b : Bool). Comes m (part_takes m c.args.e (assignment_step c.args.name (given_places b (places_at c.args.e c.args.at)))) 0 c.assign.new.interpreter c.assign.result) (sym c.if-has_subs.false) c.assign.ensures.comes

pub returns-then-has_subs-clause-memory : goal.returns-then-has_subs-clause-memory
returns-then-has_subs-clause-memory c =
    let m : PlainInterpreter = c.args.interpreter.now in
    subst (λ (b : Bool). OnWantOfMemory c.assign_items.result (MayBeAssigned (given_places b (places_at c.args.e c.args.at)) m.workspace c.args.e (look m.workspace c.args.name))) (sym c.if-has_subs.true) c.assign_items.ensures.memory

pub returns-else-has_subs-clause-memory : goal.returns-else-has_subs-clause-memory
returns-else-has_subs-clause-memory c =
    let m : PlainInterpreter = c.args.interpreter.now in
    subst (λ (b : Bool). OnWantOfMemory c.assign.result (MayBeAssigned (given_places b (places_at c.args.e c.args.at)) m.workspace c.args.e (look m.workspace c.args.name))) (sym c.if-has_subs.false) c.assign.ensures.memory

pub returns-then-has_subs-clause-due : goal.returns-then-has_subs-clause-due
returns-then-has_subs-clause-due c none = absurd (false≢true (sym none ∙ c.if-has_subs.true))

pub returns-else-has_subs-clause-due : goal.returns-else-has_subs-clause-due
returns-else-has_subs-clause-due c none = c.assign.ensures.due
