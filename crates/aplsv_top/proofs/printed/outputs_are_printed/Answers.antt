use Rattle.aplsv_top.proofs.Printing.{outputs_printed, writes_printed}
use Rattle.aplsv_top.proofs.printed.outputs_are_printed.Goals as goal

pub returns-clause-printed : goal.returns-clause-printed
returns-clause-printed g c = outputs_printed g.C.Clock.told g.C.Clock.faults g.T.TextStore.told g.T.TextStore.faults g.K.Shelf.told g.K.Shelf.faults

pub returns-clause-written : goal.returns-clause-written
returns-clause-written g c = writes_printed g.C.Clock.told g.C.Clock.faults g.T.TextStore.told g.T.TextStore.faults g.K.Shelf.told g.K.Shelf.faults
