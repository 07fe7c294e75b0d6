use Rattle.ws_commands.specs.Library.{loaded}
use Rattle.ws_commands.specs.Todo.{plain_todo}
use Rattle.ws_commands.proofs.Calls.{read_result}
use Rattle.ws_commands.proofs.preparing.load_named.Goals as goal

pub returns-clause-ok : goal.returns-clause-ok
returns-clause-ok g c =
    read_result g.K.Shelf.told g.K.Shelf.faults plain_todo c.args.user c.args.name.now (loaded c.args.name.now c.args.ws.now) c.args.shelf.now c.read.new.self c.read.result c.loaded.result c.read.ensures.reads c.read.ensures.counted c.read.ensures.cause c.loaded.ensures
