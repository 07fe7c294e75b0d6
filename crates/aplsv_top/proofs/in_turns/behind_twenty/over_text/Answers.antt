use Rattle.std.proofs.Common.{true}
use Rattle.aplsv_words.specs.Meaning.{asked_by}
use Rattle.aplsv_top.proofs.Behind.{ForgetsFiles, RepliesFiles, over_files, over_handed_files}
use Rattle.aplsv_top.proofs.Over.{if_whole}
use Rattle.aplsv_top.proofs.in_turns.behind_twenty.over_text.Goals as goal

pub returns-clause-run : goal.returns-clause-run
returns-clause-run g c =
    if_whole c.over_files-ended.result.ended _ _
    (λ transcripts journal over. over_files true g.C.Clock.told g.C.Clock.faults g.T.TextStore.told g.T.TextStore.faults g.K.Shelf.told g.K.Shelf.faults (asked_by c.args.words.now).relay (asked_by c.args.words.now).clock (asked_by c.args.words.now).library
    c.args.bundle journal transcripts c.args.clock c.over_files-ended.result.clock c.args.shelves.items c.over_files-ended.result.shelves.items (asked_by c.args.words.now).components c.args.text c.store_of.result
    c.files_in-files.result c.in-First.files c.files_in-files.ensures c.store_of.ensures
    (over_handed_files true g.C.Clock.told g.C.Clock.faults ForgetsFiles (RepliesFiles g.T.TextStore.told g.T.TextStore.faults) g.K.Shelf.told g.K.Shelf.faults (asked_by c.args.words.now).relay (asked_by c.args.words.now).clock
    (asked_by c.args.words.now).library c.args.bundle journal transcripts c.args.clock c.over_files-ended.result.clock c.args.shelves.items c.over_files-ended.result.shelves.items c.files_in-files.result c.in-First.files c.over_files-ended.result.text c.in-First.is over))
    c.over_files-ended.ensures.run
