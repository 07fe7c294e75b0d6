use Rattle.std.proofs.Common.{subst, sym}
use Rattle.apl_arrays.specs.Array.{numbers}
use Rattle.apl_items.specs.Answers.{AnswersFirst}
use Rattle.apl_verbs.specs.declared.verb.Dyad.{Dyad}
use Rattle.operator_rules.specs.Gathering.{gathered}
use Rattle.operator_rules.specs.Reduce.{reduced_line}
use Rattle.apl_operators.proofs.reducing.number_lines.Goals as goal

pub returns-then-are_small : goal.returns-then-are_small
returns-then-are_small c =
    subst (λ (f : Dyad). AnswersFirst c.small_lines.result (gathered c.args.shape.now (reduced_line f (numbers c.args.list.now) c.args.split))) (sym c.in-Plus.is) c.small_lines.ensures
