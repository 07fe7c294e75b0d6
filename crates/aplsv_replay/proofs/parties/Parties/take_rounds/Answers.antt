use Rattle.std.proofs.Common.{◌∙◌}
use Rattle.replay_rules.specs.Turns.{round}
use Rattle.aplsv_replay.proofs.AllTogether.{all_gone, of_some_still, stays_on, users_stay_on}
use Rattle.aplsv_replay.proofs.Behind.{both_then}
use Rattle.aplsv_replay.proofs.Bound.{no_rounds, one_more}
use Rattle.aplsv_replay.proofs.parties.Parties.take_rounds.Goals as goal

pub rounds-init : goal.rounds-init
rounds-init g c = record { some = c.requires.together; rounds = no_rounds g.X.Replier.forgets g.X.Replier.replies g.Y.Replier.forgets g.Y.Replier.replies g.K.Shelf.told g.K.Shelf.faults c.args.self.now; behind = record { ten = λ start came. came; twenty = λ start came. came } }

pub take_round-requires-clause-stay : goal.take_round-requires-clause-stay
take_round-requires-clause-stay g c =
    users_stay_on g.X.Replier.forgets g.X.Replier.replies g.Y.Replier.forgets g.Y.Replier.replies g.K.Shelf.told g.K.Shelf.faults c.rounds.self c.rounds.invariant.some
    ∙ stays_on g.X.Replier.forgets g.X.Replier.replies g.Y.Replier.forgets g.Y.Replier.replies g.K.Shelf.told g.K.Shelf.faults c.rounds.self c.all_have_left.result c.all_have_left.ensures c.rounds-test.true

pub rounds-preserved : goal.rounds-preserved
rounds-preserved g c =
    let here = c.rounds.self in
    let next = c.take_round.new.self in
    record {
      some = of_some_still g.X.Replier.forgets g.X.Replier.replies g.Y.Replier.forgets g.Y.Replier.replies g.K.Shelf.told g.K.Shelf.faults round here next c.rounds.invariant.some c.take_round.ensures.turns;
      rounds = one_more g.X.Replier.forgets g.X.Replier.replies g.Y.Replier.forgets g.Y.Replier.replies g.K.Shelf.told g.K.Shelf.faults c.args.self.now here next c.rounds.invariant.rounds
          (stays_on g.X.Replier.forgets g.X.Replier.replies g.Y.Replier.forgets g.Y.Replier.replies g.K.Shelf.told g.K.Shelf.faults here c.all_have_left.result c.all_have_left.ensures c.rounds-test.true) c.take_round.ensures.turns c.take_round.ensures.less;
      behind = both_then g.X.Replier.forgets g.X.Replier.replies g.X.Replier.wants g.Y.Replier.forgets g.Y.Replier.replies g.Y.Replier.wants c.args.self.now here next c.rounds.invariant.behind c.take_round.ensures.behind;
    }

pub returns-clause-over : goal.returns-clause-over
returns-clause-over g c =
    users_stay_on g.X.Replier.forgets g.X.Replier.replies g.Y.Replier.forgets g.Y.Replier.replies g.K.Shelf.told g.K.Shelf.faults c.rounds.self c.rounds.invariant.some
    ∙ all_gone g.X.Replier.forgets g.X.Replier.replies g.Y.Replier.forgets g.Y.Replier.replies g.K.Shelf.told g.K.Shelf.faults c.rounds.self c.all_have_left.result c.all_have_left.ensures c.rounds-test.false

pub returns-clause-behind : goal.returns-clause-behind
returns-clause-behind g c = c.rounds.invariant.behind
