use Rattle.std.proofs.Common.{Some}
use Rattle.std.proofs.lemmas.List.Elements.{All-pop}
use Rattle.sv_core.specs.Core.{IsSpare}
use Rattle.sv_core.proofs.leaves.take_spare.Goals as goal

pub returns-clause-spare : goal.returns-clause-spare
returns-clause-spare c = (All-pop IsSpare c.args.spares.now.items c.pop.new.self.items (Some c.in-Some.made) c.in-Some.ensures.items c.requires.room).1

pub returns-clause-rest : goal.returns-clause-rest
returns-clause-rest c = (All-pop IsSpare c.args.spares.now.items c.pop.new.self.items (Some c.in-Some.made) c.in-Some.ensures.items c.requires.room).0
