use Rattle.apl_io.proofs.Entries.{text_put}
use Rattle.apl_io.proofs.memory_text.put.Goals as goal

pub returns-clause-ok : goal.returns-clause-ok
returns-clause-ok c =
    text_put c.args.name.now c.in_ok-key.key c.args.written.now c.insert.new.self c.args.kept c.in_ok-key.ensures.ok c.in_ok-insert.ensures.updates
