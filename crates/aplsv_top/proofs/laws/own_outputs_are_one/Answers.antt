use Rattle.aplsv_top.proofs.OwnOutputs.{own_outputs_one}
use Rattle.aplsv_top.proofs.laws.own_outputs_are_one.Goals as goal

pub returns : goal.returns
returns g c =
    own_outputs_one c.files_are_read_in_one_way.ensures c.files_are_read_in_one_way-2.ensures c.one_transcript_of_parts.ensures g.C.Clock.told g.C.Clock.faults g.T.TextStore.told g.T.TextStore.faults g.K.Shelf.told g.K.Shelf.faults
    c.texts_are_of_one_bundle.ensures
