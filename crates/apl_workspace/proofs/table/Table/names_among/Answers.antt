use Rattle.std.proofs.Common.{ap, ◌∙◌}
use Rattle.apl_workspace.specs.Listing.{is_asked, names_among}
use Rattle.apl_workspace.proofs.Listed.{gathered}
use Rattle.apl_workspace.proofs.table.Table.names_among.Goals as goal

pub returns : goal.returns
returns c =
    c.from.ensures
    ∙ gathered (is_asked c.args.what) c.self.inside.names.entries c.in_ok-names.names.items c.sort.new.self.items c.collected.ensures.apart c.in_ok-names.ensures.names c.sort.ensures.permutation c.in_ok-sort.ensures.sorted
    ∙ ap (names_among c.args.what) c.self.view_is
