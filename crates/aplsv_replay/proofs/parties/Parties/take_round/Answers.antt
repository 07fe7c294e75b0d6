use Rattle.std.proofs.Common.{[], ◌∷◌, true}
use Rattle.std.specs.Prelude.{None}
use Rattle.aux_parties.specs.Auxiliaries.{auxiliaries, party_of, auxiliary_row}
use Rattle.aux_parties.specs.declared.auxiliary.AuxiliaryKind.TheVariants.{Clock, TextFiles}
use Rattle.aplsv_replay.specs.SeatTurns.{has_turn}
use Rattle.aplsv_replay.proofs.AllTogether.{of_some_still, seats_are_users, users_take}
use Rattle.aplsv_replay.proofs.Behind.{both_stay, both_then}
use Rattle.aplsv_replay.proofs.RoundsEnd.{no_turns, one_turn_more, round_leaves_less}
use Rattle.aplsv_replay.proofs.Taking.{takes_both}
use Rattle.replay_rules.specs.Turns.{auxiliary_turn, auxiliary_turns, user_turns}
use Rattle.aplsv_replay.proofs.parties.Parties.take_round.Goals as goal

pub turn_of-requires-2-clause-together : goal.turn_of-requires-2-clause-together
turn_of-requires-2-clause-together g c =
    of_some_still g.X.Replier.forgets g.X.Replier.replies g.Y.Replier.forgets g.Y.Replier.replies g.K.Shelf.told g.K.Shelf.faults (auxiliary_turn (party_of Clock)) c.args.self.now c.turn_of.new.self c.requires.together c.turn_of.ensures.took.turn

pub turn_of-requires-2-clause-stay : goal.turn_of-requires-2-clause-stay
turn_of-requires-2-clause-stay g c = c.turn_of.ensures.took.stay

pub user_turns-requires : goal.user_turns-requires
user_turns-requires g c =
    let middle = of_some_still g.X.Replier.forgets g.X.Replier.replies g.Y.Replier.forgets g.Y.Replier.replies g.K.Shelf.told g.K.Shelf.faults (auxiliary_turn (party_of Clock)) c.args.self.now c.turn_of.new.self c.requires.together c.turn_of.ensures.took.turn in
    record { together = of_some_still g.X.Replier.forgets g.X.Replier.replies g.Y.Replier.forgets g.Y.Replier.replies g.K.Shelf.told g.K.Shelf.faults (auxiliary_turn (party_of TextFiles)) c.turn_of.new.self c.turn_of-2.new.self middle c.turn_of-2.ensures.took.turn }

pub returns-clause-turns : goal.returns-clause-turns
returns-clause-turns g c =
    takes_both g.X.Replier.forgets g.X.Replier.replies g.Y.Replier.forgets g.Y.Replier.replies g.K.Shelf.told g.K.Shelf.faults (auxiliary_turns auxiliaries) (user_turns (λ user. true)) c.args.self.now c.turn_of-2.new.self c.user_turns.new.self
    (takes_both g.X.Replier.forgets g.X.Replier.replies g.Y.Replier.forgets g.Y.Replier.replies g.K.Shelf.told g.K.Shelf.faults (auxiliary_turn (party_of Clock)) (auxiliary_turn (party_of TextFiles)) c.args.self.now c.turn_of.new.self c.turn_of-2.new.self c.turn_of.ensures.took.turn c.turn_of-2.ensures.took.turn)
    (λ bundle ten twenty shelves sittings h.
    users_take g.X.Replier.forgets g.X.Replier.replies g.Y.Replier.forgets g.Y.Replier.replies g.K.Shelf.told g.K.Shelf.faults bundle ten twenty shelves c.turn_of-2.new.self sittings h
    (has_turn None) c.user_turns.new.self c.user_turns.ensures.ten c.user_turns.ensures.twenty (c.user_turns.ensures.turns sittings h.here h.seated))

pub returns-clause-less : goal.returns-clause-less
returns-clause-less g c =
    let middle = of_some_still g.X.Replier.forgets g.X.Replier.replies g.Y.Replier.forgets g.Y.Replier.replies g.K.Shelf.told g.K.Shelf.faults (auxiliary_turn (party_of Clock)) c.args.self.now c.turn_of.new.self c.requires.together c.turn_of.ensures.took.turn in
    let some = of_some_still g.X.Replier.forgets g.X.Replier.replies g.Y.Replier.forgets g.Y.Replier.replies g.K.Shelf.told g.K.Shelf.faults (auxiliary_turn (party_of TextFiles)) c.turn_of.new.self c.turn_of-2.new.self middle c.turn_of-2.ensures.took.turn in
    let first = one_turn_more Clock [] c.args.self.now c.args.self.now c.turn_of.new.self (no_turns c.args.self.now) c.turn_of.ensures.took.less c.turn_of.ensures.took.lost in
    let both = one_turn_more TextFiles (auxiliary_row Clock ∷ []) c.args.self.now c.turn_of.new.self c.turn_of-2.new.self first c.turn_of-2.ensures.took.less c.turn_of-2.ensures.took.lost in
    round_leaves_less c.args.self.now c.turn_of-2.new.self c.user_turns.new.self both
    (seats_are_users g.X.Replier.forgets g.X.Replier.replies g.Y.Replier.forgets g.Y.Replier.replies g.K.Shelf.told g.K.Shelf.faults some.bundle some.ten some.twenty some.shelves c.turn_of-2.new.self some.sittings some.together)
    c.turn_of-2.ensures.took.stay g.K.Shelf.told g.K.Shelf.faults some.sittings some.together.here (c.user_turns.ensures.turns some.sittings some.together.here some.together.seated)

pub returns-clause-behind : goal.returns-clause-behind
returns-clause-behind g c =
    both_then g.X.Replier.forgets g.X.Replier.replies g.X.Replier.wants g.Y.Replier.forgets g.Y.Replier.replies g.Y.Replier.wants c.args.self.now c.turn_of-2.new.self c.user_turns.new.self
    (both_then g.X.Replier.forgets g.X.Replier.replies g.X.Replier.wants g.Y.Replier.forgets g.Y.Replier.replies g.Y.Replier.wants c.args.self.now c.turn_of.new.self c.turn_of-2.new.self c.turn_of.ensures.behind c.turn_of-2.ensures.behind)
    (both_stay g.X.Replier.forgets g.X.Replier.replies g.X.Replier.wants g.Y.Replier.forgets g.Y.Replier.replies g.Y.Replier.wants c.turn_of-2.new.self c.user_turns.new.self c.user_turns.ensures.ten c.user_turns.ensures.twenty)
