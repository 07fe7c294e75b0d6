use Rattle.std.proofs.Common.{false, Some}
use Rattle.aplsv_words.specs.Meaning.{asked_by}
use Rattle.aplsv_top.specs.Headline.{NamedRun}
use Rattle.aplsv_top.proofs.Over.{FilesRun, if_whole}
use Rattle.aplsv_top.proofs.on_threads.run.over_placed_text.Goals as goal

pub returns-in-Ok-clause-run : goal.returns-in-Ok-clause-run
returns-in-Ok-clause-run g c =
    if_whole c.over_text.result.ended
    (λ transcripts journal. FilesRun false g.C.Clock.told g.C.Clock.faults g.T.TextStore.told g.T.TextStore.faults g.K.Shelf.told g.K.Shelf.faults (asked_by c.args.words.now).components (asked_by c.args.words.now).relay (asked_by c.args.words.now).clock (asked_by c.args.words.now).library c.args.bundle journal transcripts c.args.clock c.over_text.result.clock c.set_place.new.self c.over_text.result.text
    c.args.shelves.items c.over_text.result.shelves.items)
    (λ transcripts journal. NamedRun false g.C.Clock.told g.C.Clock.faults g.T.TextStore.told g.T.TextStore.faults g.K.Shelf.told g.K.Shelf.faults (Some c.args.place.now) (asked_by c.args.words.now).components (asked_by c.args.words.now).relay (asked_by c.args.words.now).clock (asked_by c.args.words.now).library c.args.bundle journal transcripts c.args.clock c.over_text.result.clock c.args.text c.over_text.result.text
    c.args.shelves.items c.over_text.result.shelves.items)
    (λ transcripts journal filed. (c.set_place.new.self, (c.in-Ok.ensures.ok, c.set_place.ensures.counted), filed))
    c.over_text.ensures.run
