use Rattle.std.proofs.Common.{refl}
use Rattle.std.proofs.lemmas.Result.{IfOk-weaker}
use Rattle.apl_arrays.specs.Array.{PlainArray}
use Rattle.aux_relay.specs.Changes.{DoesRequest}
use Rattle.aux_relay.specs.Request.{request_of}
use Rattle.aux_relay.specs.Queues.{Relays}
use Rattle.aux_relay.proofs.HistoryLemmas.{by_history}
use Rattle.aux_relay.proofs.relay.Relay.reply.Goals as goal

pub returns-clause-ok : goal.returns-clause-ok
returns-clause-ok c =
    IfOk-weaker c.act.result
    (λ (answer : PlainArray). DoesRequest (request_of c.args.value.now) c.args.party c.args.self.now answer c.act.new.self)
    (λ (answer : PlainArray). Relays c.args.self.now c.args.party c.args.value.now answer c.act.new.self)
    (λ answer does. by_history (request_of c.args.value.now) c.args.party c.args.value.now answer c.args.self.now c.act.new.self refl does)
    c.act.ensures.ok
