use Rattle.std.proofs.Common.{◌≡◌, ◌≤◌, ◌+◌, ◌-◌, ℕ, true, false}
use Rattle.std.specs.Prelude.{if◌then◌else◌}
use Rattle.apl_statements.specs.Evaluating.{evaluation_of}
use Rattle.apl_statements.specs.Moves.{Moves}
use Rattle.apl_statements.specs.Sound.{IsEvaluation}
use Rattle.apl_statements.specs.Stack.{onward}
use Rattle.apl_statements.specs.Work.{machine_work, parts_left}
use Rattle.apl_machine.proofs.stepping.evaluate.Given as goal

-- the statements so far: nothing of what is to come has changed
abbrev pub invariant-statements : goal.invariant-statements
invariant-statements g l = record {
  sound : IsEvaluation l.interpreter.workspace l.e;
  rises : l.fn.steps ≤ l.steps;
  work : machine_work l.interpreter ≤ machine_work l.fn.interpreter;
  moves : Moves l.fn.interpreter (λ s. onward (evaluation_of l.fn.interpreter.workspace l.fn.evaluation) l.fn.interpreter.stack s) (l.steps - l.fn.steps) l.interpreter (λ s. onward (evaluation_of l.interpreter.workspace l.e) l.interpreter.stack s);
}

abbrev pub decreases-statements : goal.decreases-statements
decreases-statements g l = machine_work l.interpreter

-- one statement so far, or the first line of a function that it called: nothing of what is to come has changed
abbrev pub invariant-parts : goal.invariant-parts
invariant-parts g l = record {
  sound : IsEvaluation l.interpreter.workspace l.e;
  rises : l.initial.steps ≤ l.steps;
  work : l.began ≡ false → machine_work l.interpreter ≡ machine_work l.initial.interpreter;
  fell : l.began ≡ true → machine_work l.interpreter + 2 ≤ machine_work l.initial.interpreter;
  moves : Moves l.initial.interpreter (λ s. onward (evaluation_of l.initial.interpreter.workspace l.initial.e) l.initial.interpreter.stack s) (l.steps - l.initial.steps) l.interpreter (λ s. onward (evaluation_of l.interpreter.workspace l.e) l.interpreter.stack s);
}

abbrev pub decreases-parts : goal.decreases-parts
decreases-parts g l = if l.began then 0 else parts_left l.e + 1
