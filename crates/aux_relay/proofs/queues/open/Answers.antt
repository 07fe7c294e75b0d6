use Rattle.std.proofs.Common.{◌≡◌, ◌∙◌, ◌+◌, ◌∷◌, [], ◌++◌, List, ℕ, None, length, ap, arith}
use Rattle.std.specs.BTreeMap.{insert_entry, is_at}
use Rattle.std.specs.Map.{lookup}
use Rattle.aux_relay.specs.Changes.{queue_order}
use Rattle.aux_relay.specs.Queues.{text_count}
use Rattle.aux_relay.proofs.QueueLemmas.{becomes, count_inserted, found_at, queue_found}
use Rattle.aux_relay.proofs.queues.open.Goals as goal

pub returns-clause-ok : goal.returns-clause-ok
returns-clause-ok c =
    let old = c.args.queues.now.entries in
    let none : lookup (is_at (queue_order c.args.key)) c.args.queues.now.entries ≡ None = found_at c.args.key old ∙ c.requires in
    let queue : c.push.new.self ≡ c.args.text.items ∷ [] = c.in_ok-push.ensures.ok ∙ ap (λ (texts : List (List ℕ)). texts ++ c.args.text.items ∷ []) c.new-queue.ensures in
    let one : length c.push.new.self ≡ 1 = ap length queue in
    let inserted = count_inserted c.args.key old c.push.new.self none in
    let more : text_count (insert_entry queue_order c.args.queues.now.entries c.args.key c.push.new.self) ≡ text_count c.args.queues.now.entries + 1 = omega (arith, inserted, one) in
    record {
      queues = becomes (λ (texts : List (List ℕ)). texts ++ c.args.text.items ∷ []) c.args.key old c.insert.new.self.entries [] c.push.new.self (queue_found c.args.key old None none) queue c.in_ok-insert.ensures.updates.0;
      count = ap text_count c.in_ok-insert.ensures.entries ∙ more;
    }
