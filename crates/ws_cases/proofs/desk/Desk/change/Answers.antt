use Rattle.ws_commands.specs.Finish.{workspace_brought}
use Rattle.ws_commands.specs.Todo.{plain_change}
use Rattle.ws_cases.proofs.TakingLemmas.{still_comes}
use Rattle.ws_cases.proofs.desk.Desk.change.Goals as goal

pub finish-requires : goal.finish-requires
finish-requires c = record {
  retracted = c.take_back.ensures.retracted;
  comes = still_comes (workspace_brought (plain_change c.args.change)) c.args.self.now.ws c.take_back.new.ws c.take_back.ensures.printed c.requires.comes;
}
