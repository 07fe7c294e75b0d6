use Rattle.std.proofs.Common.{length, ap, arith}
use Rattle.aux_relay.proofs.SenderLemmas.{senders_fit}
use Rattle.aux_relay.proofs.relay.Relay.tell.Goals as goal

pub parties_answer-requires : goal.parties_answer-requires
parties_answer-requires c =
    omega (arith, ap length c.in_ok-parties.ensures.senders, senders_fit c.args.to c.self.inside.queues.entries, c.self.invariant.count, c.self.invariant.most)
