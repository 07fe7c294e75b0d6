use Rattle.std.proofs.Common.{false}
use Rattle.aplsv_words.specs.Meaning.{asked_by}
use Rattle.aplsv_top.proofs.Behind.{ForgetsFiles, RepliesFiles, over_own_files}
use Rattle.aplsv_top.proofs.Over.{if_whole}
use Rattle.aplsv_top.proofs.on_threads.behind_twenty.over_own_text.Goals as goal

pub returns-clause-run : goal.returns-clause-run
returns-clause-run g c =
    if_whole c.over_files-ended.result.ended _ _
    (λ transcripts journal over. over_own_files false g.C.Clock.told g.C.Clock.faults ForgetsFiles (RepliesFiles g.T.TextStore.told g.T.TextStore.faults) g.K.Shelf.told g.K.Shelf.faults (asked_by c.args.words.now).relay (asked_by c.args.words.now).clock
    (asked_by c.args.words.now).library c.args.bundle journal transcripts c.args.clock c.over_files-ended.result.clock c.args.shelves.items c.over_files-ended.result.shelves.items (asked_by c.args.words.now).components c.args.store c.files_in-files.result
    c.over_files-ended.result.text c.files_in-files.ensures c.requires.own over)
    c.over_files-ended.ensures.run
