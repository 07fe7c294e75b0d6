use Rattle.std.proofs.Common.{◌∙◌}
use Rattle.aplsv_replay.proofs.AllTogether.{all_gone, stays_on, users_stay_on}
use Rattle.aplsv_replay.proofs.Taking.{takes_no_more, takes_while}
use Rattle.replay_rules.specs.Turns.{party_turn}
use Rattle.aplsv_replay.proofs.parties.Parties.take_next_turn.Goals as goal

pub returns-then-all_have_left-clause-turns : goal.returns-then-all_have_left-clause-turns
returns-then-all_have_left-clause-turns g c =
    takes_no_more g.X.Replier.forgets g.X.Replier.replies g.Y.Replier.forgets g.Y.Replier.replies g.K.Shelf.told g.K.Shelf.faults (party_turn c.args.party) c.args.self.now (all_gone g.X.Replier.forgets g.X.Replier.replies g.Y.Replier.forgets g.Y.Replier.replies g.K.Shelf.told g.K.Shelf.faults c.args.self.now c.all_have_left.result c.all_have_left.ensures c.if-all_have_left.true)

pub take_turn-requires-clause-stay : goal.take_turn-requires-clause-stay
take_turn-requires-clause-stay g c =
    users_stay_on g.X.Replier.forgets g.X.Replier.replies g.Y.Replier.forgets g.Y.Replier.replies g.K.Shelf.told g.K.Shelf.faults c.args.self.now c.requires.together
    ∙ stays_on g.X.Replier.forgets g.X.Replier.replies g.Y.Replier.forgets g.Y.Replier.replies g.K.Shelf.told g.K.Shelf.faults c.args.self.now c.all_have_left.result c.all_have_left.ensures c.if-all_have_left.false

pub returns-clause-turns : goal.returns-clause-turns
returns-clause-turns g c =
    takes_while g.X.Replier.forgets g.X.Replier.replies g.Y.Replier.forgets g.Y.Replier.replies g.K.Shelf.told g.K.Shelf.faults (party_turn c.args.party) c.args.self.now c.take_turn.new.self
    (stays_on g.X.Replier.forgets g.X.Replier.replies g.Y.Replier.forgets g.Y.Replier.replies g.K.Shelf.told g.K.Shelf.faults c.args.self.now c.all_have_left.result c.all_have_left.ensures c.if-all_have_left.false) c.take_turn.ensures.turns

pub returns-then-all_have_left-clause-behind : goal.returns-then-all_have_left-clause-behind
returns-then-all_have_left-clause-behind g c = record { ten = λ start came. came; twenty = λ start came. came }

pub returns-clause-behind : goal.returns-clause-behind
returns-clause-behind g c = c.take_turn.ensures.behind
