use Rattle.std.proofs.Common.{◌≡◌, ◌∙◌, ap, arith}
use Rattle.apl_workspace.specs.Meaning.{table_weight}
use Rattle.apl_workspace.proofs.table.Table.put_weightless.Goals as goal

pub put_light-requires-clause-fits : goal.put_light-requires-clause-fits
put_light-requires-clause-fits c =
    let same : c.self.inside.weight ≡ table_weight c.args.self.now = c.self.invariant.counted ∙ ap table_weight c.self.view_is in omega (arith, same, c.self.invariant.within, c.requires.weightless)
