use Rattle.std.proofs.Common.{◌≡◌, ◌∙◌, ◌+◌, List, ℕ, Some, length, take, ap, sym, subst, refl}
use Rattle.std.specs.BTreeMap.{is_at}
use Rattle.std.specs.Map.{lookup}
use Rattle.std.specs.Option.{IsSome}
use Rattle.apl_arrays.specs.List.{others_of}
use Rattle.aux_relay.specs.Changes.{queue_order}
use Rattle.aux_relay.specs.Queues.{queue_at, text_count}
use Rattle.aux_relay.proofs.QueueLemmas.{becomes, count_popped, queue_found}
use Rattle.aux_relay.proofs.queues.pop.Goals as goal

pub returns-in-Some : goal.returns-in-Some
returns-in-Some c =
    let old = c.args.queues.now.entries in
    let before = c.in-Some.queue.now in
    let after = c.pop.new.self in
    let new = (c.get_mut.follows.lender c.pop.new.self).entries in
    let there : lookup (is_at (queue_order c.args.key)) c.args.queues.now.entries ≡ Some c.in-Some.queue.now = sym c.in-Some.ensures.value in
    let some : IsSome (lookup (is_at (queue_order c.args.key)) c.args.queues.now.entries) = subst IsSome (sym there) refl in
    let holds = c.get_mut.follows.holds c.pop.new.self in
    let here : queue_at c.args.queues.now.entries c.args.key ≡ c.in-Some.queue.now = queue_found c.args.key old (Some before) there in
    record {
      queues = becomes others_of c.args.key old new before after here c.pop.ensures (holds.3 some).0;
      count = ap (λ (texts : List (List ℕ)). text_count new + length (take 1 texts)) here ∙ count_popped (is_at (queue_order c.args.key)) old new before after there c.pop.ensures holds.0;
    }
