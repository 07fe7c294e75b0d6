use Rattle.std.proofs.Common.{Some}
use Rattle.party_turns.specs.Serving.{MakesWork, RunsOn, TookTurn}
use Rattle.party_turns.proofs.Serving.{answered_runs, made_one, reply_turn, runs_end, so_anyhow, then_so, wanted_ends}
use Rattle.party_turns.proofs.auxiliary.Auxiliary.reply.Goals as goal

pub returns-clause-ok : goal.returns-clause-ok
returns-clause-ok g c =
    let old = c.args.self.now in
    let answer = c.in_ok-reply.reply in
    then_so (MakesWork old.party (Some answer) c.args.core.now c.enter.new.core)
    (TookTurn {X = g.row.X.Denot} g.X.Replier.forgets g.X.Replier.replies old (record old { replier = c.reply.new.self }) c.args.core.now c.enter.new.core) c.enter.result
    (λ made. reply_turn {X = g.row.X.Denot} g.X.Replier.forgets g.X.Replier.replies old c.args.core.now c.enter.new.core c.args.local c.customer.result c.request.result.now answer c.reply.new.self made c.requires.due c.customer.ensures c.request.ensures c.in_ok-reply.ensures.ok)
    c.enter.ensures.ok

pub returns-clause-one : goal.returns-clause-one
returns-clause-one g c = made_one c.args.self.now.party (Some c.in_ok-reply.reply) c.args.core.now c.enter.new.core c.enter.result c.enter.ensures.ok c.enter.ensures.made

pub returns-clause-runs : goal.returns-clause-runs
returns-clause-runs g c =
    let before = c.args.self.now.replier in
    so_anyhow (RunsOn {S = g.row.X.Denot} g.X.Replier.forgets g.X.Replier.replies before c.reply.new.self) c.enter.result
    (answered_runs {S = g.row.X.Denot} g.X.Replier.forgets g.X.Replier.replies c.customer.result c.request.result.now c.in_ok-reply.reply before c.reply.new.self c.in_ok-reply.ensures.ok)

pub returns-clause-ends : goal.returns-clause-ends
returns-clause-ends g c =
    let before = c.args.self.now.replier in
    runs_end {S = g.row.X.Denot} g.X.Replier.forgets g.X.Replier.replies g.X.Replier.wants before c.reply.new.self
    (answered_runs {S = g.row.X.Denot} g.X.Replier.forgets g.X.Replier.replies c.customer.result c.request.result.now c.in_ok-reply.reply before c.reply.new.self c.in_ok-reply.ensures.ok)

pub returns-in_err-reply-clause-ends : goal.returns-in_err-reply-clause-ends
returns-in_err-reply-clause-ends g c =
    wanted_ends {S = g.row.X.Denot} g.X.Replier.forgets g.X.Replier.replies g.X.Replier.wants c.customer.result c.request.result.now c.args.self.now.replier c.reply.new.self c.in_err-reply.ensures.want
