use Rattle.std.proofs.Common.{false, subst₂, sym}
use Rattle.aux_choice.specs.OneOf.{Forgets, Replies}
use Rattle.aplsv_words.specs.Meaning.{asked_by}
use Rattle.aplsv_top.specs.Headline.{TwentyRun}
use Rattle.aplsv_top.proofs.Behind.{ForgetsFiles, RepliesFiles}
use Rattle.aplsv_top.proofs.Over.{faults_of, if_whole, told_of}
use Rattle.aplsv_top.proofs.on_threads.behind_twenty.over_files.Goals as goal

pub returns-clause-run : goal.returns-clause-run
returns-clause-run g c =
    if_whole c.over_twenty-ended.result.ended _ _
    (λ transcripts journal over. subst₂
    (λ first last. TwentyRun false g.C.Clock.told g.C.Clock.faults (Forgets ForgetsFiles ForgetsFiles) (Replies (RepliesFiles g.T.TextStore.told g.T.TextStore.faults) (RepliesFiles told_of faults_of)) g.K.Shelf.told g.K.Shelf.faults
    (asked_by c.args.words.now).relay (asked_by c.args.words.now).clock (asked_by c.args.words.now).library c.args.bundle journal transcripts c.args.clock c.over_twenty-ended.result.clock first last c.args.shelves.items c.over_twenty-ended.result.shelves.items)
    c.new-chosen.ensures (sym c.into_one.ensures.same) over)
    c.over_twenty-ended.ensures.run
