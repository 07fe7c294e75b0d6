use Rattle.std.proofs.Common.{◌∙◌, ℕ, List, [], sym, ap, subst}
use Rattle.std.specs.Prelude.{reverse}
use Rattle.apl_statements.specs.declared.waiting.Waiting.{Waiting}
use Rattle.apl_statements.specs.Evaluating.{stack_of}
use Rattle.apl_statements.specs.Interpreter.{PlainInterpreter}
use Rattle.apl_statements.specs.Sound.{AreUnderWay}
use Rattle.apl_statements.proofs.Nobody.{nobody}
use Rattle.apl_statements.proofs.interpreter.Interpreter.renew_on.Goals as goal

pub invariant_of-self : goal.invariant_of-self
invariant_of-self c =
    let none = nobody c.self.inside.workspace c.self.inside.input.items (reverse c.self.inside.callers.items) (ap (λ (m : PlainInterpreter). m.stack) c.self.view_is ∙ c.requires.none) in
    subst (λ (callers : List Waiting). AreUnderWay c.args.workspace callers) (sym none) c.requires.frames

pub returns : goal.returns
returns c =
    let none = nobody c.self.inside.workspace c.self.inside.input.items (reverse c.self.inside.callers.items) (ap (λ (m : PlainInterpreter). m.stack) c.self.view_is ∙ c.requires.none) in
    let on : List (List ℕ) → List ℕ → List Waiting → PlainInterpreter = λ output input callers. record { workspace = c.args.workspace; output = output; statements = 0; input = input; stack = stack_of c.args.workspace input callers } in
    ap (λ (output : List (List ℕ)). on output c.clear.new.self.items (reverse c.self.inside.callers.items)) c.new.ensures
    ∙ ap (λ (input : List ℕ). on [] input (reverse c.self.inside.callers.items)) c.clear.ensures.items
    ∙ ap (λ (callers : List Waiting). on [] [] callers) none
