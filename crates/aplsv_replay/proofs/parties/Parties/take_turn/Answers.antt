use Rattle.std.proofs.Common.{◌≡◌, ◌∙◌, ℕ, Option, Some, ap, subst, sym}
use Rattle.std.specs.Prelude.{is_some}
use Rattle.aux_parties.specs.Auxiliaries.{auxiliary_at}
use Rattle.aux_parties.specs.declared.auxiliary.AuxiliaryRow.{AuxiliaryRow}
use Rattle.aux_parties.proofs.TableLemmas.{is_found, kind_found}
use Rattle.aplsv_replay.specs.SeatTurns.{has_turn}
use Rattle.aplsv_replay.specs.Together.{TakesTurns}
use Rattle.aplsv_replay.proofs.AllTogether.{users_take}
use Rattle.aplsv_replay.proofs.Behind.{both_stay}
use Rattle.aplsv_replay.proofs.Taking.{auxiliary_is_party, user_is_party}
use Rattle.replay_rules.specs.Turns.{auxiliary_turn}
use Rattle.aplsv_replay.proofs.parties.Parties.take_turn.Goals as goal

pub returns-in-None-clause-turns : goal.returns-in-None-clause-turns
returns-in-None-clause-turns g c =
    user_is_party g.X.Replier.forgets g.X.Replier.replies g.Y.Replier.forgets g.Y.Replier.replies g.K.Shelf.told g.K.Shelf.faults c.args.party c.args.self.now c.user_turns.new.self (sym (is_found c.args.party) ∙ ap (λ (o : Option AuxiliaryRow). is_some o) (sym c.auxiliary_at.ensures ∙ c.in-None.is))
    (λ bundle ten twenty shelves sittings h.
    users_take g.X.Replier.forgets g.X.Replier.replies g.Y.Replier.forgets g.Y.Replier.replies g.K.Shelf.told g.K.Shelf.faults bundle ten twenty shelves c.args.self.now sittings h
    (has_turn (Some c.args.party)) c.user_turns.new.self c.user_turns.ensures.ten c.user_turns.ensures.twenty (c.user_turns.ensures.turns sittings h.here h.seated))

pub returns-in-Some-clause-turns : goal.returns-in-Some-clause-turns
returns-in-Some-clause-turns g c =
    let found : auxiliary_at c.args.party ≡ Some c.in-Some.row = sym c.auxiliary_at.ensures ∙ c.in-Some.is in
    auxiliary_is_party g.X.Replier.forgets g.X.Replier.replies g.Y.Replier.forgets g.Y.Replier.replies g.K.Shelf.told g.K.Shelf.faults c.args.party c.args.self.now c.turn_of.new.self (sym (is_found c.args.party) ∙ ap (λ (o : Option AuxiliaryRow). is_some o) found)
    (subst (λ (party : ℕ). TakesTurns g.X.Replier.forgets g.X.Replier.replies g.Y.Replier.forgets g.Y.Replier.replies g.K.Shelf.told g.K.Shelf.faults (auxiliary_turn party) c.args.self.now c.turn_of.new.self) (kind_found c.args.party c.in-Some.row found) c.turn_of.ensures.took.turn)

pub returns-in-None-clause-behind : goal.returns-in-None-clause-behind
returns-in-None-clause-behind g c = both_stay g.X.Replier.forgets g.X.Replier.replies g.X.Replier.wants g.Y.Replier.forgets g.Y.Replier.replies g.Y.Replier.wants c.args.self.now c.user_turns.new.self c.user_turns.ensures.ten c.user_turns.ensures.twenty

pub returns-in-Some-clause-behind : goal.returns-in-Some-clause-behind
returns-in-Some-clause-behind g c = c.turn_of.ensures.behind
