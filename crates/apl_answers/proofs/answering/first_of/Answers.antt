use Rattle.std.proofs.Common.{sym}
use Rattle.apl_values.specs.Rows.{rows_left}
use Rattle.apl_statements.proofs.RowsGo.{none_at_first}
use Rattle.apl_answers.proofs.answering.first_of.Goals as goal

pub unreachable-requires : goal.unreachable-requires
unreachable-requires c = c.requires (none_at_first (rows_left c.args.rows.now) (sym c.in-None.ensures.row))
