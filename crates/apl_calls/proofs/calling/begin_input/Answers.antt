use Rattle.std.proofs.Common.{◌≡◌, ◌<◌, false, sym, subst}
use Rattle.line_trees.specs.Trees.{line_tree_of}
use Rattle.apl_items.proofs.RowLemmas.{weaker_want}
use Rattle.apl_meaning.specs.State.{State, Outcome}
use Rattle.apl_meaning.specs.Tasks.{Next, begun, immediate}
use Rattle.apl_meaning.specs.Meaning.{ran}
use Rattle.apl_meaning.specs.Statements.{is_misplaced, line_outcome}
use Rattle.apl_values.specs.declared.reading.LineReading.{LineReading}
use Rattle.apl_values.specs.Parts.{reading_tree}
use Rattle.apl_statements.specs.Interpreter.{PlainInterpreter}
use Rattle.apl_statements.specs.Moves.{Moves, statement_leads}
use Rattle.apl_statements.proofs.Moving.{comes_after}
use Rattle.apl_calls.proofs.Begins.{is_counted}
use Rattle.apl_calls.proofs.calling.begin_input.Goals as goal

pub returns-clause-comes : goal.returns-clause-comes
returns-clause-comes c =
    let m : PlainInterpreter = c.args.interpreter.now in
    let n : PlainInterpreter = c.count_statement.new.interpreter in
    let next : LineReading → State → Outcome Next = λ r s. line_outcome ran immediate (line_tree_of (reading_tree r)) s in
    let first : Moves m (statement_leads m (λ s. begun (next c.args.reading) s)) 0 n (statement_leads n (next c.args.reading)) =
    subst (λ (x : PlainInterpreter). Moves m (statement_leads m (λ s. begun (next c.args.reading) s)) 0 x (statement_leads x (next c.args.reading))) (sym c.in_ok-room.ensures.ok.1) (is_counted m (next c.args.reading) c.in_ok-room.ensures.ok.0) in
    comes_after m n n (statement_leads m (λ s. begun (next c.args.reading) s)) (statement_leads n (next c.args.reading)) 0 c.begin_read.result first c.begin_read.ensures.comes

pub returns-clause-memory : goal.returns-clause-memory
returns-clause-memory c =
    weaker_want c.begin_read.result (is_misplaced immediate (line_tree_of (reading_tree c.args.reading)) ≡ false)
    ((0 < c.args.interpreter.now.statements) × (is_misplaced immediate (line_tree_of (reading_tree c.args.reading)) ≡ false)) (λ may. (c.in_ok-room.ensures.ok.0, may)) c.begin_read.ensures.memory
