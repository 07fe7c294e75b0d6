use Rattle.aplsv_check.proofs.Verdicts.{all_followed, tells_followed, unfit_found}
use Rattle.aplsv_check.proofs.judging.judge_from.Goals as goal

pub returns-in-Some : goal.returns-in-Some
returns-in-Some c = λ bundle text h tells.
    unfit_found bundle text c.journal.result.now c.args.printed.now.transcripts c.args.printed.now.journal c.journal.ensures tells c.first_unfit.new.follower c.in_ok-place.field-0 (c.in_ok-place.ensures bundle h) c.in-Some.place c.in-Some.is

pub returns-in-None : goal.returns-in-None
returns-in-None c = λ bundle text h tells.
    let run = c.first_unfit.new.follower in
    let all = all_followed bundle text c.journal.result.now c.args.printed.now.transcripts c.args.printed.now.journal c.journal.ensures tells run c.in_ok-place.field-0 (c.in_ok-place.ensures bundle h) c.in-None.is in
    c.verdict_behind.ensures bundle text all.0
    (tells_followed bundle text c.journal.result.now c.args.printed.now.transcripts c.args.printed.now.journal c.journal.ensures tells run c.in_ok-place.field-0 (c.in_ok-place.ensures bundle h) _ c.transcripts.ensures c.in-None.is)
