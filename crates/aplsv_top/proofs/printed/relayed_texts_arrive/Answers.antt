use Rattle.aux_parties.specs.Auxiliaries.{clock_party}
use Rattle.session_rules.specs.Auxiliaries.{events_of}
use Rattle.aplsv_top.specs.Relayed.{relayed_in}
use Rattle.aplsv_top.proofs.Over.{named_relayed}
use Rattle.aplsv_top.proofs.printed.relayed_texts_arrive.Goals as goal

pub returns : goal.returns
returns g c asked clock clock_then files files_then shelves shelves_then bytes text is output =
    let run = named_relayed asked.replay g.C.Clock.told g.C.Clock.faults g.T.TextStore.told g.T.TextStore.faults g.K.Shelf.told g.K.Shelf.faults asked.text asked.components asked.relay asked.clock asked.library output.bundle output.journal output.transcripts clock clock_then
    files files_then shelves shelves_then is output.run in
    let kept = c.replies_are_relayed.ensures (events_of output.journal clock_party) run.0 run.1 in
    (kept.0, λ from to. c.what_is_taken_was_given.ensures (relayed_in output.journal) from to kept.0)
