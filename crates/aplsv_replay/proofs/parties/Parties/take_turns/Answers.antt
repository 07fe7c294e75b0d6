use Rattle.std.proofs.Common.{◌≡◌, ℕ, List, [], get_or, refl, subst, sym, take}
use Rattle.std.proofs.lemmas.List.{take_all, take_more}
use Rattle.aplsv_replay.specs.Together.{TakesTurns}
use Rattle.aplsv_replay.proofs.AllTogether.{of_some_still}
use Rattle.aplsv_replay.proofs.Behind.{both_then}
use Rattle.aplsv_replay.proofs.Taking.{takes_next, takes_none}
use Rattle.replay_rules.specs.Turns.{ordered}
use Rattle.aplsv_replay.proofs.parties.Parties.take_turns.Goals as goal

pub loop-party-init : goal.loop-party-init
loop-party-init g c = record { some = c.requires.together; turns = takes_none g.X.Replier.forgets g.X.Replier.replies g.Y.Replier.forgets g.Y.Replier.replies g.K.Shelf.told g.K.Shelf.faults (ordered []) c.args.self.now (λ r. refl); behind = record { ten = λ start came. came; twenty = λ start came. came } }

pub loop-party-preserved : goal.loop-party-preserved
loop-party-preserved g c =
    let start = c.args.self.now in
    let here = c.loop-party.self in
    let next = c.take_next_turn.new.self in
    let order = c.args.order.now in
    let index = c.loop-party.party-index in
    record {
      some = of_some_still g.X.Replier.forgets g.X.Replier.replies g.Y.Replier.forgets g.Y.Replier.replies g.K.Shelf.told g.K.Shelf.faults _ here next c.loop-party.invariant.some c.take_next_turn.ensures.turns;
      turns = subst (λ (taken : List ℕ). TakesTurns g.X.Replier.forgets g.X.Replier.replies g.Y.Replier.forgets g.Y.Replier.replies g.K.Shelf.told g.K.Shelf.faults (ordered taken) start next) (sym (take_more order index 0 c.loop-party-test.true))
          (takes_next g.X.Replier.forgets g.X.Replier.replies g.Y.Replier.forgets g.Y.Replier.replies g.K.Shelf.told g.K.Shelf.faults (take index order) (get_or order index 0) start here next c.loop-party.invariant.turns c.take_next_turn.ensures.turns);
      behind = both_then g.X.Replier.forgets g.X.Replier.replies g.X.Replier.wants g.Y.Replier.forgets g.Y.Replier.replies g.Y.Replier.wants start here next c.loop-party.invariant.behind c.take_next_turn.ensures.behind;
    }

pub returns-clause-turns : goal.returns-clause-turns
returns-clause-turns g c =
    let order = c.args.order.now in
    let whole : take c.loop-party.party-index order ≡ order = take_all c.loop-party.party-index order c.loop-party-test.false in
    subst (λ (taken : List ℕ). TakesTurns g.X.Replier.forgets g.X.Replier.replies g.Y.Replier.forgets g.Y.Replier.replies g.K.Shelf.told g.K.Shelf.faults (ordered taken) c.args.self.now c.loop-party.self) whole c.loop-party.invariant.turns

pub returns-clause-behind : goal.returns-clause-behind
returns-clause-behind g c = c.loop-party.invariant.behind
