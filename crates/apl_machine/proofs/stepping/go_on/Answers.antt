use Rattle.std.proofs.Common.{◌≡◌, ◌-◌, false, refl, arith}
use Rattle.std.specs.Prelude.{IfSome, slice_get}
use Rattle.apl_arrays.specs.declared.report.Report.TheVariants as report
use Rattle.apl_meaning.specs.Nodes.{node_step}
use Rattle.apl_statements.specs.declared.evaluation.Evaluation.{Evaluation}
use Rattle.apl_values.specs.Parts.{is_paren, plain_part}
use Rattle.apl_statements.specs.Interpreter.{PlainInterpreter}
use Rattle.apl_statements.specs.Holding.{parts_of, stack_values}
use Rattle.apl_statements.specs.Wants.{NoReportIsDue}
use Rattle.apl_machine.specs.Wants.{no_lines}
use Rattle.apl_machine.proofs.WantSteps.{told_first}
use Rattle.apl_statements.proofs.Moving.{none_counted}
use Rattle.apl_machine.proofs.StepParts.{passes_wanting, to_come}
use Rattle.apl_machine.proofs.stepping.go_on.Goals as goal

pub returns-then-e-clause-comes : goal.returns-then-e-clause-comes
returns-then-e-clause-comes g c =
    let m : PlainInterpreter = c.args.interpreter.now in
    let e : Evaluation = c.args.e in
    none_counted m m (to_come m e) (c.args.steps.now - c.args.steps.now) c.pass_wanting.result (omega arith)
    (passes_wanting m e c.pass_wanting.result (slice_get (parts_of e) e.at) refl c.requires.next c.if-e.true c.pass_wanting.ensures.passed c.pass_wanting.ensures.parenthesis c.pass_wanting.ensures.refused)

pub returns-then-e-clause-memory : goal.returns-then-e-clause-memory
returns-then-e-clause-memory g c n next looks =
    told_first c.pass_wanting.result report.Value (IfSome (slice_get (parts_of c.args.e) c.args.e.at) (λ part. is_paren (plain_part part) ≡ false)) (NoReportIsDue c.args.interpreter.now (node_step no_lines n (stack_values c.args.interpreter.now.workspace c.args.e))) c.pass_wanting.ensures.refused

pub returns-else-e-clause-memory : goal.returns-else-e-clause-memory
returns-else-e-clause-memory g c n next looks = c.step.ensures.memory n next looks
