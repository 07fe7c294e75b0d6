use Rattle.std.proofs.Common.{◌≡◌, ◌∙◌, ◌∷◌, [], ◌++◌, List, ℕ, Some, ap, sym, subst, refl}
use Rattle.std.specs.BTreeMap.{is_at}
use Rattle.std.specs.Map.{lookup, set_value}
use Rattle.std.specs.Option.{IsSome}
use Rattle.std.proofs.lemmas.Map.Steps.{set_value_same}
use Rattle.std.proofs.lemmas.Result.{on_err_weaker, on_ok_weaker}
use Rattle.aux_relay.specs.Changes.{queue_order}
use Rattle.aux_relay.proofs.QueueLemmas.{becomes, count_pushed, queue_found}
use Rattle.aux_relay.proofs.queues.give.Goals as goal

pub returns-in-Some-clause-ok : goal.returns-in-Some-clause-ok
returns-in-Some-clause-ok c =
    let old = c.args.queues.now.entries in
    let before = c.in-Some.queue.now in
    let after = c.push.new.self in
    let new = (c.get_mut.follows.lender c.push.new.self).entries in
    let there : lookup (is_at (queue_order c.args.key)) c.args.queues.now.entries ≡ Some c.in-Some.queue.now = sym c.in-Some.ensures.value in
    let some : IsSome (lookup (is_at (queue_order c.args.key)) c.args.queues.now.entries) = subst IsSome (sym there) refl in
    let holds = c.get_mut.follows.holds c.push.new.self in
    on_ok_weaker c.push.result
    (λ more. record {
      queues = becomes (λ (texts : List (List ℕ)). texts ++ c.args.text.items ∷ []) c.args.key old new before after (queue_found c.args.key old (Some before) there) more (holds.3 some).0;
      count = count_pushed (is_at (queue_order c.args.key)) old new before after c.args.text.items there more holds.0;
    })
    c.push.ensures.ok

pub returns-in-Some-clause-err : goal.returns-in-Some-clause-err
returns-in-Some-clause-err c =
    let old = c.args.queues.now.entries in
    let there : lookup (is_at (queue_order c.args.key)) c.args.queues.now.entries ≡ Some c.in-Some.queue.now = sym c.in-Some.ensures.value in
    on_err_weaker c.push.result
    (λ same.
    (c.get_mut.follows.holds c.push.new.self).0
    ∙ ap (set_value (is_at (queue_order c.args.key)) old) same
    ∙ set_value_same (is_at (queue_order c.args.key)) old c.in-Some.queue.now there)
    c.push.ensures.err
