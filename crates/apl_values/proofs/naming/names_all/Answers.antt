use Rattle.std.proofs.Common.{◌<◌, sym, ap, ◌∙◌, arith}
use Rattle.std.specs.Prelude.{not}
use Rattle.apl_meaning.specs.Naming.{naming_count, naming_in}
use Rattle.apl_values.specs.Rows.{plain_naming}
use Rattle.apl_values.proofs.NamingSteps.{no_names, one_unnamed}
use Rattle.apl_values.proofs.naming.names_all.Goals as goal

pub returns-then-is_none : goal.returns-then-is_none
returns-then-is_none c =
    let lt : c.loop-row.row < naming_count c.args.n.now = omega arith in
    sym (ap not (one_unnamed c.args.n.now c.loop-row.row lt (no_names plain_naming c.naming_in.result _ c.if-is_none.ensures (c.naming_in.ensures ∙ ap naming_in c.row_at.ensures))))
