use Rattle.std.proofs.Common.{true, subst₂, sym}
use Rattle.aplsv_words.specs.Meaning.{asked_by}
use Rattle.aplsv_top.specs.Headline.{ShelvedRun}
use Rattle.aplsv_top.proofs.Behind.{ForgetsTen, RepliesTen}
use Rattle.aplsv_top.proofs.Over.{if_whole}
use Rattle.aplsv_top.proofs.in_turns.behind_ten.over_ten.Goals as goal

pub returns-clause-run : goal.returns-clause-run
returns-clause-run g c =
    if_whole c.over_both-ended.result.ended _ _
    (λ transcripts journal over. subst₂
    (λ first last. ShelvedRun true ForgetsTen (RepliesTen g.C.Clock.told g.C.Clock.faults) g.Y.Replier.forgets g.Y.Replier.replies g.K.Shelf.told g.K.Shelf.faults (asked_by c.args.words.now).library c.args.bundle journal transcripts
    first last c.args.twenty c.over_both-ended.result.twenty c.args.shelves.items c.over_both-ended.result.shelves.items)
    c.new-chosen.ensures (sym c.into_one.ensures.same) over)
    c.over_both-ended.ensures.run
