use Rattle.std.proofs.Common.{◌≡◌, ◌<◌, sym, ◌∙◌, arith}
use Rattle.apl_meaning.specs.Naming.{naming_count}
use Rattle.apl_acts.proofs.RowTests.{none_of_rows, one_passes, tested_more}
use Rattle.apl_acts.proofs.sharing.some_row_not_offered.Goals as goal

pub loop-row-preserved : goal.loop-row-preserved
loop-row-preserved c =
    let lt : c.loop-row.row < naming_count c.args.n.now = omega arith in
    tested_more c.args.workspace.now c.args.n.now c.loop-row.row lt c.loop-row.invariant (sym c.is_row_not_offered.ensures ∙ c.if-is_row_not_offered.false)

pub returns-then-is_row_not_offered : goal.returns-then-is_row_not_offered
returns-then-is_row_not_offered c =
    let lt : c.loop-row.row < naming_count c.args.n.now = omega arith in
    sym (one_passes c.args.workspace.now c.args.n.now c.loop-row.row lt (sym c.is_row_not_offered.ensures ∙ c.if-is_row_not_offered.true))

pub returns : goal.returns
returns c =
    let all : c.loop-row.row ≡ naming_count c.args.n.now = omega arith in
    sym (none_of_rows c.args.workspace.now c.args.n.now c.loop-row.row all c.loop-row.invariant)
