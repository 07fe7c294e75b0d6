-- A function that is called where a statement stands.
use Rattle.std.proofs.Common.{◌≡◌, ◌≢◌, ℕ, ◌+◌, ◌-◌, ◌≤◌, suc, List, [], ◌∷◌, drop, length, refl, sym, ap, ◌∙◌, arith}
use Rattle.std.proofs.lemmas.List.{length-drop, length-map}
use Rattle.apl_workspace.specs.Workspace.{PlainWorkspace}
use Rattle.apl_values.specs.declared.values.StackValue.{StackValue}
use Rattle.apl_values.specs.Parts.{plain_part, plain_parts}
use Rattle.apl_statements.specs.declared.evaluation.Evaluation.{Evaluation}
use Rattle.apl_statements.specs.Evaluating.{caller_of}
use Rattle.apl_statements.specs.Interpreter.{PlainInterpreter}
use Rattle.apl_statements.specs.Stack.{PlainWaiting}
use Rattle.apl_statements.specs.Holding.{IsWithValues, parts_of}
use Rattle.apl_statements.specs.Work.{caller_parts, machine_work, parts_left}
use Rattle.apl_calls.specs.Waitings.{StandsOver}

-- a caller has as many parts left as it had before its values were settled
pub settled_parts : (w : PlainWorkspace) (shown : List ℕ) (before e : Evaluation) (hs : List StackValue) → IsWithValues before hs e → length (caller_of w shown e).nodes ≡ parts_left before
settled_parts w shown before e hs with =
    ap (λ (x : Evaluation). length (drop x.at (plain_parts (parts_of x)))) with.same
    ∙ length-drop before.at (plain_parts (parts_of before)) ∙ ap (λ (n : ℕ). n - before.at) (length-map (parts_of before) plain_part)

-- what stands over others is not empty
pub some_stand : (waited : List PlainWaiting) (parts : ℕ) (ws : List PlainWaiting) → StandsOver waited parts ws → ws ≢ []
some_stand waited parts [] stands = absurd stands
some_stand waited parts (w ∷ ws) stands = λ e. let no : suc (length ws) ≡ 0 = ap length e in omega (arith, no)

deeper : (waited : List PlainWaiting) (parts : ℕ) (ws : List PlainWaiting) → StandsOver waited parts ws → length ws ≡ suc (length waited)
deeper waited parts [] stands = absurd stands
deeper waited parts (w ∷ ws) stands = ap (λ (list : List PlainWaiting). suc (length list)) stands.0

below : (waited : List PlainWaiting) (parts : ℕ) (ws : List PlainWaiting) → StandsOver waited parts ws → drop 1 ws ≡ waited
below waited parts [] stands = absurd stands
below waited parts (w ∷ ws) stands = stands.0

-- so many parts of the caller are left
parts_below : (waited : List PlainWaiting) (parts : ℕ) (ws : List PlainWaiting) → StandsOver waited parts ws → caller_parts ws ≡ parts
parts_below waited parts [] stands = absurd stands
parts_below waited parts (w ∷ ws) stands = stands.1

-- the first line of the function is less work than its caller
pub falls_here : (m mid n : PlainInterpreter) (parts : ℕ) → StandsOver m.stack parts mid.stack → mid.statements ≡ m.statements → machine_work n + 4 ≤ machine_work mid → machine_work n + 2 ≤ machine_work m
falls_here m mid n parts stands same less = omega (arith, deeper m.stack parts mid.stack stands, same, less)

-- where it was left at once, the caller goes on with the parts that it had
pub stays_here : (m mid n : PlainInterpreter) (e : Evaluation) (parts : ℕ) → StandsOver m.stack parts mid.stack → mid.statements ≡ m.statements → n.stack ≡ drop 1 mid.stack → n.statements ≡ mid.statements → parts_left e ≡ caller_parts mid.stack
    → (machine_work n ≡ machine_work m) × (parts_left e ≤ parts)
stays_here m mid n e parts stands same left kept has =
    let one : length n.stack ≡ length m.stack = ap length (left ∙ below m.stack parts mid.stack stands) in
    let own : parts_left e ≡ parts = has ∙ parts_below m.stack parts mid.stack stands in
    (omega (arith, one, same, kept), omega (arith, own))
