use Rattle.std.proofs.Common.{ap, ◌∙◌}
use Rattle.apl_meaning.specs.Naming.{naming_in}
use Rattle.apl_values.proofs.naming.naming_at.Goals as goal

pub returns : goal.returns
returns c = c.naming_in.ensures ∙ ap naming_in c.row_at.ensures
