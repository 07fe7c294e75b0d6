use Rattle.std.proofs.Common.{◌≡◌, ◌+◌, ◌++◌}
use Rattle.std.specs.BTreeMap.Range.{entries_between}
use Rattle.std.specs.declared.ops.Bound.TheVariants.{Excluded, Included}
use Rattle.aux_relay.specs.Changes.{queue_order}
use Rattle.aux_relay.proofs.SenderLemmas.{holders}
use Rattle.aux_relay.proofs.queues.senders.Given as goal

abbrev pub invariant-loop-key : goal.invariant-loop-key
invariant-loop-key l = l.parties.items ++ holders l.key-iterator ≡ holders (entries_between queue_order (Included (l.receiver, 0)) (Excluded (l.receiver + 1, 0)) l.queues.entries)
