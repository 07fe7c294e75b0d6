use Rattle.aplsv_top.proofs.Printing.{own_outputs}
use Rattle.aplsv_top.proofs.printed.own_outputs_are_the_bundles.Goals as goal

pub returns : goal.returns
returns g c = own_outputs g.C.Clock.told g.C.Clock.faults g.T.TextStore.told g.T.TextStore.faults g.K.Shelf.told g.K.Shelf.faults
