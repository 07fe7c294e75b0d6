use Rattle.std.proofs.Common.{◌≡◌, take}
use Rattle.apl_meaning.specs.Nodes.{popped}
use Rattle.apl_statements.specs.Sound.{IsEvaluation}
use Rattle.apl_statements.specs.Holding.{stack_values}
use Rattle.apl_statements.proofs.evaluation.Evaluation.take_subs.Given as goal

-- the subscripts so far, and the values behind them
abbrev pub invariant-loop-place : goal.invariant-loop-place
invariant-loop-place l = record {
  subs : l.subs.items ≡ (popped (take l.place-index l.places) (stack_values l.workspace l.fn.self)).subs;
  rest : stack_values l.workspace l.self ≡ (popped (take l.place-index l.places) (stack_values l.workspace l.fn.self)).values;
  same : l.self ≡ record l.fn.self { values = l.self.values };
  sound : IsEvaluation l.workspace l.self;
}
