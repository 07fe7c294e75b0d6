use Rattle.std.proofs.Common.{◌≡◌, ◌∙◌, ◌++◌, [], List, ℕ, ap, sym, append-nil}
use Rattle.std.specs.Map.Iter.{deref_pair}
use Rattle.std.proofs.lemmas.Map.Iter.{rest_all}
use Rattle.aux_relay.specs.Changes.{senders_in}
use Rattle.aux_relay.specs.Queues.{Queues}
use Rattle.aux_relay.proofs.SenderLemmas.{holders, holders_in_range}
use Rattle.aux_relay.proofs.queues.senders.Goals as goal

pub returns-clause-senders : goal.returns-clause-senders
returns-clause-senders c =
    let told = c.loop-key.parties.items in
    let queues = c.args.queues.now.entries in
    let done : c.loop-key.key-iterator ≡ [] = rest_all deref_pair c.loop-key.key-iterator c.next.new.self c.next.result c.in-None.is c.next.ensures.steps in
    sym (append-nil told)
    ∙ ap (λ (rest : Queues). told ++ holders rest) (sym done)
    ∙ c.loop-key.invariant
    ∙ holders_in_range c.from-receiver.result queues
    ∙ ap (λ (to : ℕ). senders_in to queues) c.from-receiver.ensures
