use Rattle.std.proofs.Common.{take}
use Rattle.aplsv_replay.specs.Together.{AreOfSomeBundle, BothComeOn, TakesTurns}
use Rattle.replay_rules.specs.Turns.{ordered}
use Rattle.aplsv_replay.proofs.parties.Parties.take_turns.Given as goal

-- the turns so far were taken
abbrev pub invariant-loop-party : goal.invariant-loop-party
invariant-loop-party g l = record {
  some : AreOfSomeBundle g.X.Replier.forgets g.X.Replier.replies g.Y.Replier.forgets g.Y.Replier.replies g.K.Shelf.told g.K.Shelf.faults l.self;
  turns : TakesTurns g.X.Replier.forgets g.X.Replier.replies g.Y.Replier.forgets g.Y.Replier.replies g.K.Shelf.told g.K.Shelf.faults (ordered (take l.party-index l.order)) l.fn.self l.self;
  behind : BothComeOn g.X.Replier.forgets g.X.Replier.replies g.X.Replier.wants g.Y.Replier.forgets g.Y.Replier.replies g.Y.Replier.wants l.fn.self l.self;
}
