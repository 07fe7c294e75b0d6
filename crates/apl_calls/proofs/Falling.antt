-- The work that falls, and the parts that are left.
use Rattle.std.proofs.Common.{◌≡◌, ℕ, ◌+◌, ◌<◌, ◌≤◌, ◌∷◌, length, ap, arith}
use Rattle.std.specs.Prelude.{Result, Ok, Err, IfOk}
use Rattle.std.proofs.lemmas.List.{drop_all, length-map}
use Rattle.apl_arrays.specs.declared.report.Fail.{Fail}
use Rattle.apl_meaning.specs.State.{State}
use Rattle.apl_values.specs.Parts.{plain_part, plain_parts}
use Rattle.apl_statements.specs.declared.evaluation.Evaluation.{Evaluation}
use Rattle.apl_statements.specs.declared.flow.Flow.{Flow}
use Rattle.apl_statements.specs.declared.flow.Flow.TheVariants as flow
use Rattle.apl_statements.specs.Evaluating.{evaluation_of, plain_purpose}
use Rattle.apl_statements.specs.Interpreter.{PlainInterpreter}
use Rattle.apl_statements.specs.Moves.{value_put}
use Rattle.apl_statements.specs.Stack.{PlainWaiting, onward}
use Rattle.apl_statements.specs.Holding.{parts_of}
use Rattle.apl_statements.specs.Work.{Falls, FallsOrHas, IsAfresh, flow_work, machine_work, parts_left}
use Rattle.apl_statements.proofs.Parts.{end_of_nodes}

-- nor does one that begins afresh go on
pub falls_afresh : (most : ℕ) (m n : PlainInterpreter) (next : Flow) → IsAfresh next → Falls m n next → FallsOrHas most m n next
falls_afresh most m n (flow.Evaluates e) afresh falls = absurd afresh
falls_afresh most m n (flow.Begins e) afresh falls = falls
falls_afresh most m n (flow.Leads next) afresh falls = falls
falls_afresh most m n (flow.Opens for_this e) afresh falls = falls
falls_afresh most m n flow.Ends afresh falls = falls

-- what comes of the first line of a function that was entered is less work than its caller
pub falls_entered : (most : ℕ) (m mid n : PlainInterpreter) (w : PlainWaiting) (r : Result Flow Fail) → mid.statements ≡ m.statements → mid.stack ≡ w ∷ m.stack → IfOk r IsAfresh → IfOk r (λ next. flow_work n next + 2 ≤ machine_work mid) → IfOk r (FallsOrHas most m n)
falls_entered most m mid n w (Ok next) same stacked afresh few =
    let one : length mid.stack ≡ length (w ∷ m.stack) = ap length stacked in
    let less : flow_work n next < machine_work m + 2 = omega (arith, one, same, few) in
    falls_afresh most m n next afresh less
falls_entered most m mid n w (Err why) same stacked afresh few = tt

-- one that goes on has this work and so many parts
pub has_still : (most : ℕ) (m n : PlainInterpreter) (e : Evaluation) → FallsOrHas most m n (flow.Evaluates e) → (machine_work n ≡ machine_work m) × (parts_left e ≤ most)
has_still most m n e has = has

-- where no part is left, the value is put to its purpose
pub ends_there : (m : PlainInterpreter) (e : Evaluation) (s : State) → length (parts_of e) ≤ e.at → onward (evaluation_of m.workspace e) m.stack s ≡ value_put m e (plain_purpose e.purpose) s
ends_there m e s all = end_of_nodes (evaluation_of m.workspace e) m.stack s (drop_all e.at (plain_parts (parts_of e)) (let few : length (plain_parts (parts_of e)) ≤ e.at = omega (arith, length-map (parts_of e) plain_part, all) in few))
