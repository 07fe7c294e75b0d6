use Rattle.aplsv_top.proofs.OneReplay.{one_written}
use Rattle.aplsv_top.proofs.laws.outputs_are_determined.Goals as goal

pub returns : goal.returns
returns g c =
    one_written c.files_are_read_in_one_way.ensures c.one_transcript_of_parts.ensures g.C.Clock.told g.C.Clock.faults g.T.TextStore.told g.T.TextStore.faults g.K.Shelf.told g.K.Shelf.faults
