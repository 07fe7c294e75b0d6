-- What falls with each step of a machine, so that a run ends.
use Rattle.std.specs.Prelude.{◌≡◌, ◌≤◌, ◌<◌, ◌+◌, ◌-◌, ◌*◌, ℕ, List, [], ◌∷◌, length}
use Rattle.apl_statements.specs.declared.evaluation.Evaluation.{Evaluation}
use Rattle.apl_statements.specs.declared.flow.Flow.{Flow}
use Rattle.apl_statements.specs.declared.flow.Flow.TheVariants as flow
use Rattle.apl_statements.specs.Interpreter.{PlainInterpreter}
use Rattle.apl_statements.specs.Stack.{PlainWaiting}
use Rattle.apl_statements.specs.Holding.{parts_of}

-- the work that an interpreter may still have: each statement that may be begun, and each function under way, which will be left
abbrev pub machine_work : PlainInterpreter → ℕ
machine_work m = 4 * m.statements + 2 * length m.stack

-- the work of an interpreter and of its flow: a statement counts twice, and once when it led somewhere
abbrev pub flow_work : PlainInterpreter → Flow → ℕ
flow_work m (flow.Evaluates e) = machine_work m + 2
flow_work m (flow.Begins e) = machine_work m + 2
flow_work m (flow.Leads next) = machine_work m + 1
flow_work m (flow.Opens for_this e) = machine_work m
flow_work m flow.Ends = machine_work m

-- the parts of a statement that are left
abbrev pub parts_left : Evaluation → ℕ
parts_left e = length (parts_of e) - e.at

-- the parts that are left of the statement that called the innermost function
abbrev pub caller_parts : List PlainWaiting → ℕ
caller_parts [] = 0
caller_parts (w ∷ ws) = length w.caller.nodes

-- what comes of a statement is less work than the statement
abbrev pub Falls : PlainInterpreter → PlainInterpreter → Flow → Type 0
Falls m n next = flow_work n next < machine_work m + 2

-- a statement goes on with no more parts than so many, or what comes of it is less work
abbrev pub FallsOrHas : ℕ → PlainInterpreter → PlainInterpreter → Flow → Type 0
FallsOrHas most m n (flow.Evaluates e) = (machine_work n ≡ machine_work m) × (parts_left e ≤ most)
FallsOrHas most m n (flow.Begins e) = Falls m n (flow.Begins e)
FallsOrHas most m n (flow.Leads next) = Falls m n (flow.Leads next)
FallsOrHas most m n (flow.Opens for_this e) = Falls m n (flow.Opens for_this e)
FallsOrHas most m n flow.Ends = Falls m n flow.Ends

-- no statement goes on in its middle: one begins, or something led somewhere
abbrev pub IsAfresh : Flow → Type 0
IsAfresh (flow.Evaluates e) = ⊥
IsAfresh (flow.Begins e) = Unit {0}
IsAfresh (flow.Leads next) = Unit {0}
IsAfresh (flow.Opens for_this e) = Unit {0}
IsAfresh flow.Ends = Unit {0}

-- a step within a statement evaluates no part twice
abbrev pub StaysWithin : PlainInterpreter → Evaluation → PlainInterpreter → Flow → Type 0
StaysWithin m e n next = FallsOrHas (parts_left e) m n next

-- the next part of a statement is done, and one part less is left
abbrev pub TakesAStep : PlainInterpreter → Evaluation → PlainInterpreter → Flow → Type 0
TakesAStep m e n next = FallsOrHas (parts_left e - 1) m n next
