use Rattle.aplsv_replay.specs.Together.{AreOfSomeBundle, BothComeOn, TakesRounds, left_to_do}
use Rattle.aplsv_replay.proofs.parties.Parties.take_rounds.Given as goal

-- so many rounds were taken
abbrev pub invariant-rounds : goal.invariant-rounds
invariant-rounds g l = record {
  some : AreOfSomeBundle g.X.Replier.forgets g.X.Replier.replies g.Y.Replier.forgets g.Y.Replier.replies g.K.Shelf.told g.K.Shelf.faults l.self;
  rounds : TakesRounds g.X.Replier.forgets g.X.Replier.replies g.Y.Replier.forgets g.Y.Replier.replies g.K.Shelf.told g.K.Shelf.faults l.fn.self l.self;
  behind : BothComeOn g.X.Replier.forgets g.X.Replier.replies g.X.Replier.wants g.Y.Replier.forgets g.Y.Replier.replies g.Y.Replier.wants l.fn.self l.self;
}

abbrev pub decreases-rounds : goal.decreases-rounds
decreases-rounds g l = left_to_do l.self
