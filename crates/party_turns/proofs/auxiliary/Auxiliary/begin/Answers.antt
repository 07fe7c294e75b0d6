use Rattle.std.proofs.Common.{None}
use Rattle.party_turns.specs.Serving.{MakesWork, RunsOn, TookTurn}
use Rattle.party_turns.proofs.Serving.{begun_runs, control_turn, made_one, runs_end, so_anyhow, then_so}
use Rattle.party_turns.proofs.auxiliary.Auxiliary.begin.Goals as goal

pub returns-clause-ok : goal.returns-clause-ok
returns-clause-ok g c =
    let old = c.args.self.now in
    then_so (MakesWork old.party None c.args.core.now c.enter.new.core)
    (TookTurn {X = g.row.X.Denot} g.X.Replier.forgets g.X.Replier.replies old (record old { replier = c.forget.new.self }) c.args.core.now c.enter.new.core) c.enter.result
    (λ made. control_turn {X = g.row.X.Denot} g.X.Replier.forgets g.X.Replier.replies old c.args.core.now c.enter.new.core c.args.local c.customer.result c.forget.new.self made c.requires.due c.customer.ensures c.forget.ensures)
    c.enter.ensures.ok

pub returns-clause-one : goal.returns-clause-one
returns-clause-one g c = made_one c.args.self.now.party None c.args.core.now c.enter.new.core c.enter.result c.enter.ensures.ok c.enter.ensures.made

pub returns-clause-runs : goal.returns-clause-runs
returns-clause-runs g c =
    let forgets = g.X.Replier.forgets in
    so_anyhow (RunsOn {S = g.row.X.Denot} forgets g.X.Replier.replies c.args.self.now.replier c.forget.new.self) c.enter.result (begun_runs {S = g.row.X.Denot} forgets g.X.Replier.replies c.customer.result c.args.self.now.replier c.forget.new.self c.forget.ensures)

pub returns-clause-ends : goal.returns-clause-ends
returns-clause-ends g c =
    runs_end {S = g.row.X.Denot} g.X.Replier.forgets g.X.Replier.replies g.X.Replier.wants c.args.self.now.replier c.forget.new.self
    (begun_runs {S = g.row.X.Denot} g.X.Replier.forgets g.X.Replier.replies c.customer.result c.args.self.now.replier c.forget.new.self c.forget.ensures)
