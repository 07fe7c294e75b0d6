use Rattle.std.proofs.Common.{◌∙◌, None, ap}
use Rattle.sv_core.specs.Due.{is_service}
use Rattle.party_turns.specs.Serving.{MakesWork, TookTurn}
use Rattle.party_turns.proofs.Serving.{made_one, plain_turn, then_so}
use Rattle.party_turns.proofs.auxiliary.Auxiliary.make.Goals as goal

pub returns-clause-ok : goal.returns-clause-ok
returns-clause-ok g c =
    let old = c.args.self.now in
    then_so (MakesWork old.party None c.args.core.now c.enter.new.core)
    (TookTurn {X = g.row.X.Denot} g.X.Replier.forgets g.X.Replier.replies old old c.args.core.now c.enter.new.core) c.enter.result
    (λ made. plain_turn {X = g.row.X.Denot} g.X.Replier.forgets g.X.Replier.replies old c.args.core.now c.enter.new.core made (ap is_service c.requires.due ∙ c.requires.plain))
    c.enter.ensures.ok

pub returns-clause-one : goal.returns-clause-one
returns-clause-one g c = made_one c.args.self.now.party None c.args.core.now c.enter.new.core c.enter.result c.enter.ensures.ok c.enter.ensures.made
