use Rattle.std.proofs.Common.{sym, subst, ◌∙◌}
use Rattle.line_trees.specs.Trees.{line_tree_of}
use Rattle.apl_meaning.specs.Meaning.{ran}
use Rattle.apl_meaning.specs.Statements.{line_outcome}
use Rattle.apl_selection.proofs.WantLemmas.{on_want}
use Rattle.apl_values.specs.declared.reading.LineReading.{LineReading}
use Rattle.apl_values.specs.Places.{plain_place}
use Rattle.apl_values.specs.Parts.{reading_tree}
use Rattle.apl_statements.specs.Interpreter.{PlainInterpreter}
use Rattle.apl_statements.specs.Moves.{Comes, statement_leads}
use Rattle.apl_calls.proofs.calling.begin_read.Goals as goal

pub returns-clause-comes : goal.returns-clause-comes
returns-clause-comes c =
    let m : PlainInterpreter = c.args.interpreter.now in
    subst (λ (r : LineReading). Comes m (statement_leads m (λ s. line_outcome ran (plain_place c.args.place) (line_tree_of (reading_tree r)) s)) 0 m c.begin_reading.result) c.in_ok-reading.ensures c.begin_reading.ensures.comes

pub returns-in_err-reading-clause-memory : goal.returns-in_err-reading-clause-memory
returns-in_err-reading-clause-memory c = on_want c.from_residual.result _ (sym c.is_misplaced.ensures ∙ c.if-is_misplaced.false)

pub returns-clause-memory : goal.returns-clause-memory
returns-clause-memory c = on_want c.begin_reading.result _ (sym c.is_misplaced.ensures ∙ c.if-is_misplaced.false)
