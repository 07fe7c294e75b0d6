use Rattle.std.proofs.Common.{◌∙◌}
use Rattle.sv_rules.specs.Journal.{journal_of}
use Rattle.sv_plain.proofs.WorkLemmas.{work_by_offers}
use Rattle.sv_plain.proofs.working.work_among.Goals as goal

pub returns : goal.returns
returns c =
    c.first_work.ensures
    ∙ work_by_offers (journal_of c.args.entries.now) c.args.party c.args.offers.now c.args.coupled.now c.args.own.now _ _ _ _ _
    c.requires.offers c.requires.coupled c.requires.own
    c.first_open-opened.ensures c.first_lacking-lacking.ensures c.first_owing-owing.ensures c.in_ok-waiting.ensures c.in_ok-unseen.ensures
