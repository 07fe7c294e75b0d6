use Rattle.std.proofs.Common.{false, ◌≡◌, ◌∙◌}
use Rattle.auxiliaries.specs.Clock.{RepliesByReading}
use Rattle.aplsv_words.specs.Meaning.{asked_by}
use Rattle.aplsv_top.proofs.Behind.{over_readings}
use Rattle.aplsv_top.proofs.Over.{clock_faults_of, if_whole, ticks_of}
use Rattle.aplsv_top.proofs.on_threads.behind_ten.over_own_clock.Goals as goal

pub returns-clause-run : goal.returns-clause-run
returns-clause-run g c =
    if_whole c.over_ten-ended.result.ended _ _
    (λ transcripts journal over. over_readings false (λ old party new. new ≡ old) (λ old party value answer new. RepliesByReading g.C.Clock.told g.C.Clock.faults old value answer new) (λ old party new. new ≡ old)
    (λ old party value answer new. RepliesByReading ticks_of clock_faults_of old value answer new) g.Y.Replier.forgets g.Y.Replier.replies g.K.Shelf.told g.K.Shelf.faults (asked_by c.args.words.now).library c.args.bundle journal transcripts
    c.args.twenty c.over_ten-ended.result.twenty c.args.shelves.items c.over_ten-ended.result.shelves.items c.new.result c.over_ten-ended.result.ten (c.new.ensures ∙ c.requires.own) over)
    c.over_ten-ended.ensures.run
