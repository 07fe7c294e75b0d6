use Rattle.std.proofs.Common.{◌≡◌, length, take, arith}
use Rattle.apl_arrays.specs.Limits.{most_elements}
use Rattle.aux_relay.specs.Queues.{queue_at}
use Rattle.aux_relay.proofs.QueueLemmas.{dropped_are_short, first_is_short, one_first}
use Rattle.aux_relay.proofs.relay.Relay.take.Goals as goal

pub text_answer-requires : goal.text_answer-requires
text_answer-requires c =
    first_is_short (queue_at c.self.inside.queues.entries (c.from.result, c.args.from)) c.in-Some.text.now.items most_elements (c.self.invariant.short (c.from.result, c.args.from)) c.in-Some.ensures

pub invariant_of-self : goal.invariant_of-self
invariant_of-self c =
    let queue = queue_at c.self.inside.queues.entries (c.from.result, c.args.from) in
    let one : length (take 1 (queue_at c.self.inside.queues.entries (c.from.result, c.args.from))) ≡ 1 = one_first queue c.in-Some.text.now.items c.in-Some.ensures in
    record {
      count = omega (arith, c.self.invariant.count, c.drop_text.ensures.count, one);
      most = omega (arith, c.self.invariant.most);
      short = dropped_are_short (c.from.result, c.args.from) c.self.inside.queues.entries c.drop_text.new.queues.entries c.drop_text.ensures.queues c.self.invariant.short;
    }
