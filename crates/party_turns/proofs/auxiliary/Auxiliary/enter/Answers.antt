use Rattle.party_turns.proofs.Serving.{may_make}
use Rattle.party_turns.proofs.auxiliary.Auxiliary.enter.Goals as goal

pub step-requires-clause-present : goal.step-requires-clause-present
step-requires-clause-present g c =
    (may_make c.args.core.now.users c.args.core.now.journal c.journal.result.now c.args.self.now.party c.args.work c.args.reply c.act_of.result c.journal.ensures.legal c.journal.ensures.value c.requires.auxiliary c.requires.due c.act_of.ensures).present

pub step-requires-clause-goes_on : goal.step-requires-clause-goes_on
step-requires-clause-goes_on g c =
    (may_make c.args.core.now.users c.args.core.now.journal c.journal.result.now c.args.self.now.party c.args.work c.args.reply c.act_of.result c.journal.ensures.legal c.journal.ensures.value c.requires.auxiliary c.requires.due c.act_of.ensures).goes_on
