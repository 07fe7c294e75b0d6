use Rattle.std.proofs.Common.{rules}
use Rattle.std.specs.Ordering.{is_lt}
use Rattle.std.proofs.lemmas.List.Sorted.{IsPartitionPoint-from_clause}
use Rattle.apl_search.proofs.IndexLemmas.{partitioned}
use Rattle.apl_search.proofs.index.first_not_less.Goals as goal

pub returns-clause-point : goal.returns-clause-point
returns-clause-point g c =
    IsPartitionPoint-from_clause (λ pair. is_lt (g.T.Ord.cmp pair.0 c.args.item.now)) c.args.pairs.now c.partition_point.result c.partition_point.ensures.partitioned
    (partitioned g.T.Ord.cmp g.met.T.Ord.total c.requires.0 c.args.pairs.now c.requires.1 c.args.item.now) (λ a r f q. search rules)
