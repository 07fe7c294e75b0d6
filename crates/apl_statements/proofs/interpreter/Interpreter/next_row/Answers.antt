use Rattle.std.proofs.Common.{◌≡◌, ◌∷◌, ℕ, true, ap, drop, length, subst, sym, ◌∙◌}
use Rattle.std.specs.Prelude.{pos, replicate, Some}
use Rattle.std.proofs.lemmas.List.{length-replicate}
use Rattle.apl_arrays.specs.Array.{PlainArray}
use Rattle.apl_meaning.specs.Expressions.{Found}
use Rattle.apl_meaning.specs.State.{Outcome, gives}
use Rattle.apl_values.specs.declared.pending.ActPurpose.TheVariants as pending
use Rattle.apl_values.specs.declared.rows.Rows.{Rows}
use Rattle.apl_values.specs.declared.values.StackValue.TheVariants as held
use Rattle.apl_values.specs.Pending.{act_asked_for, plain_act_purpose}
use Rattle.apl_values.specs.Rows.{HasTold, PlainNameRow, asks_act, plain_name_row, rest_of_rows, row_zeros, rows_left}
use Rattle.apl_values.specs.Values.{stack_value}
use Rattle.apl_statements.specs.Evaluating.{caller_of}
use Rattle.apl_statements.specs.Interpreter.{PlainInterpreter, here, state_at}
use Rattle.apl_statements.specs.Moves.{Coming, part_gives}
use Rattle.apl_statements.specs.Stack.{carried_on}
use Rattle.apl_statements.specs.Holding.{parts_of}
use Rattle.apl_statements.proofs.RowsGo.{all_told, first_and_others, none_at_first, row_opens, row_tells, rows_end, rows_stay}
use Rattle.apl_statements.proofs.Same.{comes_as}
use Rattle.apl_statements.proofs.interpreter.Interpreter.next_row.Goals as goal

pub returns-then-opens-clause-comes : goal.returns-then-opens-clause-comes
returns-then-opens-clause-comes c =
    let m : PlainInterpreter = c.args.self.now in
    let rows : Rows = c.loop-row.rows in
    let row : PlainNameRow = plain_name_row c.in-Some.row in
    let left : rows_left rows ≡ row ∷ drop 1 (rows_left rows) = first_and_others (rows_left rows) row (sym c.in-Some.ensures.row) in
    let acts : asks_act m.workspace row ≡ true = sym c.opens.ensures ∙ c.if-opens.true in
    comes_as m m (part_gives m c.args.e (rest_of_rows c.args.rows.numbers.items (rows_left c.args.rows) c.args.rows.shape.items)) (part_gives m c.args.e (act_asked_for (plain_act_purpose (pending.Row rows)))) 0 c.open.result (λ asked count taken further.
    c.loop-row.invariant.same asked count taken further
    ∙ ap (λ (found : Outcome Found). carried_on found (caller_of m.workspace (here m) c.args.e) m.stack) (row_opens rows row (drop 1 (rows_left rows)) (state_at m asked count taken further) left acts)) c.open.ensures.comes

pub loop-row-preserved : goal.loop-row-preserved
loop-row-preserved c =
    let m : PlainInterpreter = c.args.self.now in
    let rows : Rows = c.loop-row.rows in
    let after : Rows = c.tell_zeros.new.self in
    let row : PlainNameRow = plain_name_row c.in-Some.row in
    let left : rows_left rows ≡ row ∷ drop 1 (rows_left rows) = first_and_others (rows_left rows) row (sym c.in-Some.ensures.row) in
    let acts = sym c.opens.ensures ∙ c.if-opens.false in
    let told : HasTold rows (replicate (length (row_zeros row.1)) (pos 0)) after = subst (λ (k : ℕ). HasTold rows (replicate k (pos 0)) after) c.width.ensures c.in_ok-tell_zeros.ensures in
    record {
      rows = rows_stay m.workspace rows after row (drop 1 (rows_left rows)) (replicate (length (row_zeros row.1)) (pos 0)) c.loop-row.invariant.rows left told (length-replicate (length (row_zeros row.1)) (pos 0));
      same = λ asked count taken further.
          c.loop-row.invariant.same asked count taken further
          ∙ ap (λ (found : Outcome Found). carried_on found (caller_of m.workspace (here m) c.args.e) m.stack) (row_tells rows after row (drop 1 (rows_left rows)) (state_at m asked count taken further) left told acts);
    }

pub into_array-requires-clause-count : goal.into_array-requires-clause-count
into_array-requires-clause-count c = all_told c.args.self.now.workspace c.loop-row.rows c.loop-row.invariant.rows (none_at_first (rows_left c.loop-row.rows) (sym c.in_default.ensures.row))

pub returns-clause-comes : goal.returns-clause-comes
returns-clause-comes c =
    let m : PlainInterpreter = c.args.self.now in
    let rows : Rows = c.loop-row.rows in
    let given : Coming = part_gives m c.args.e (λ s. gives (Some (stack_value m.workspace (parts_of c.args.e) (held.Made c.in_ok-into_array.field-0))) s) in
    comes_as m m (part_gives m c.args.e (rest_of_rows c.args.rows.numbers.items (rows_left c.args.rows) c.args.rows.shape.items)) given 0 c.give.result (λ asked count taken further.
    c.loop-row.invariant.same asked count taken further
    ∙ ap (λ (found : Outcome Found). carried_on found (caller_of m.workspace (here m) c.args.e) m.stack)
    (rows_end rows (state_at m asked count taken further) (none_at_first (rows_left rows) (sym c.in_default.ensures.row)) ∙ ap (λ (a : PlainArray). gives (Some a) (state_at m asked count taken further)) (sym c.in_ok-into_array.ensures))) c.give.ensures.comes
