use Rattle.std.proofs.Common.{rules, tests}
use Rattle.std.proofs.lemmas.Iterator.{YieldsList-from_slice}
use Rattle.std.proofs.lemmas.Iterator.Search.{position_from_yields_List}
use Rattle.apl_arrays.specs.Name.{same_name}
use Rattle.apl_workspace.proofs.table.place_among.Goals as goal

pub returns : goal.returns
returns c = position_from_yields_List (same_name c.args.name.now) _ _ c.position.result c.position.ensures.ran (YieldsList-from_slice c.args.names.now cc) (λ x b q k. search (rules, tests))
