use Rattle.std.proofs.Common.{◌≡◌, ◌∙◌, false, length, List, ltb, ℕ, Some, [], ap, sym}
use Rattle.std.specs.BTreeMap.{is_at}
use Rattle.std.specs.Map.{lookup}
use Rattle.aux_relay.specs.Changes.{queue_order}
use Rattle.aux_relay.proofs.QueueLemmas.{count_removed, empty_goes, no_texts, queue_found}
use Rattle.aux_relay.proofs.queues.close.Goals as goal

pub returns-in-Some : goal.returns-in-Some
returns-in-Some c =
    let old = c.args.queues.now.entries in
    let there : lookup (is_at (queue_order c.args.key)) c.args.queues.now.entries ≡ Some c.in-Some.queue.now = sym c.in-Some.ensures.value in
    let empty : c.in-Some.queue.now ≡ [] = no_texts c.in-Some.queue.now (sym c.has_text.ensures ∙ c.if-not-has_text.true) in
    record {
      queues = empty_goes c.args.key old c.remove.new.self.entries (queue_found c.args.key old (Some c.in-Some.queue.now) there ∙ empty) c.remove.ensures.updates.0;
      count = count_removed (is_at (queue_order c.args.key)) old c.remove.new.self.entries c.in-Some.queue.now there (ap length empty) c.remove.ensures.entries;
    }
