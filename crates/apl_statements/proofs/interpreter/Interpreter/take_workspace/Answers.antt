use Rattle.std.proofs.Common.{◌∙◌, List, sym, ap, subst}
use Rattle.std.specs.Prelude.{reverse}
use Rattle.apl_workspace.specs.Workspace.{PlainWorkspace, empty_workspace}
use Rattle.apl_statements.specs.declared.waiting.Waiting.{Waiting}
use Rattle.apl_statements.specs.Evaluating.{stack_of}
use Rattle.apl_statements.specs.Interpreter.{PlainInterpreter}
use Rattle.apl_statements.specs.Sound.{AreUnderWay, plain_interpreter}
use Rattle.apl_statements.proofs.Nobody.{nobody}
use Rattle.apl_statements.proofs.interpreter.Interpreter.take_workspace.Goals as goal

pub invariant_of-self : goal.invariant_of-self
invariant_of-self c =
    let none = nobody c.self.inside.workspace c.self.inside.input.items (reverse c.self.inside.callers.items) (ap (λ (m : PlainInterpreter). m.stack) c.self.view_is ∙ c.requires.none) in
    subst (λ (callers : List Waiting). AreUnderWay c.replace.new.dest callers) (sym none) (ap (λ (w : PlainWorkspace). w.frames) (c.replace.ensures.after ∙ c.new.ensures))

pub returns-clause-left : goal.returns-clause-left
returns-clause-left c =
    let none = nobody c.self.inside.workspace c.self.inside.input.items (reverse c.self.inside.callers.items) (ap (λ (m : PlainInterpreter). m.stack) c.self.view_is ∙ c.requires.none) in
    let here : PlainInterpreter = plain_interpreter c.self.inside in
    let on : PlainWorkspace → List Waiting → PlainInterpreter = λ w callers. record here { workspace = w; stack = stack_of w c.self.inside.input.items callers } in
    ap (λ (w : PlainWorkspace). on w (reverse c.self.inside.callers.items)) (c.replace.ensures.after ∙ c.new.ensures)
    ∙ ap (λ (callers : List Waiting). on empty_workspace callers) none
    ∙ ap (λ (callers : List Waiting). record here { workspace = empty_workspace; stack = stack_of c.self.inside.workspace c.self.inside.input.items callers }) (sym none)
    ∙ ap (λ (m : PlainInterpreter). record m { workspace = empty_workspace }) c.self.view_is
