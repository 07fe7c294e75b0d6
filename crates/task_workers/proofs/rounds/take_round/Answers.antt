use Rattle.task_workers.proofs.Changing.{holds_after, named_after}
use Rattle.task_workers.proofs.rounds.take_round.Goals as goal

pub loop-index-preserved : goal.loop-index-preserved
loop-index-preserved g c =
    let loop = c.loop-index in
    let P = g.T.Task.stands c.args.hall.now in
    record {
      stand = holds_after P loop.tasks loop.index c.take_turn.new.self c.take_turn.ensures.stands loop.invariant.stand;
      names = named_after g.T.Task.name loop.tasks c.args.tasks.now loop.index c.index-tasks-index.result c.take_turn.new.self c.take_turn.ensures.name loop.invariant.names;
    }
