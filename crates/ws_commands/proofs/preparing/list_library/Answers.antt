use Rattle.ws_commands.specs.Todo.{counting, plain_todo}
use Rattle.ws_commands.proofs.Calls.{listing_result}
use Rattle.ws_commands.proofs.preparing.list_library.Goals as goal

pub returns-clause-ok : goal.returns-clause-ok
returns-clause-ok g c =
    listing_result g.K.Shelf.told g.K.Shelf.faults plain_todo c.args.user counting c.args.shelf.now c.names.new.self c.names.result c.library_listed.result c.names.ensures.lists c.names.ensures.ascending c.names.ensures.counted c.names.ensures.cause c.library_listed.ensures
