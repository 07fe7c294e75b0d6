use Rattle.std.proofs.Common.{ℕ, List, ap, ◌∙◌}
use Rattle.std.specs.Prelude.{reverse}
use Rattle.apl_statements.specs.Evaluating.{stack_of}
use Rattle.apl_statements.specs.Interpreter.{PlainInterpreter}
use Rattle.apl_statements.specs.Sound.{plain_interpreter}
use Rattle.apl_statements.specs.Stack.{PlainWaiting}
use Rattle.apl_statements.proofs.Nobody.{none_waits}
use Rattle.apl_statements.proofs.interpreter.Interpreter.begin.Goals as goal

pub returns-clause-ok : goal.returns-clause-ok
returns-clause-ok c =
    let none = ap (λ (m : PlainInterpreter). m.stack) c.self.view_is ∙ c.requires in
    let on : List ℕ → List PlainWaiting → PlainInterpreter = λ input stack. record (plain_interpreter c.self.inside) { statements = c.args.statements; input = input; stack = stack } in
    ap (λ (input : List ℕ). on input (stack_of c.self.inside.workspace input (reverse c.self.inside.callers.items))) c.in_ok-renew.ensures.ok
    ∙ ap (λ (stack : List PlainWaiting). on c.args.input.now.items stack) (none_waits c.self.inside.workspace c.self.inside.input.items c.args.input.now.items (reverse c.self.inside.callers.items) none)
    ∙ ap (λ (m : PlainInterpreter). record m { statements = c.args.statements; input = c.args.input.now.items }) c.self.view_is
