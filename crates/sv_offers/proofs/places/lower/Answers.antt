use Rattle.std.proofs.Common.{ltb, rules}
use Rattle.std.proofs.lemmas.Bool.{ltb-false, ltb-true}
use Rattle.std.proofs.lemmas.List.Sorted.{IsPartitionPoint-from_clause, IsPartitionedBy-ltb}
use Rattle.sv_offers.proofs.PlaceLemmas.{places_rise}
use Rattle.sv_rules.specs.declared.standing.Standing.{Standing}
use Rattle.sv_offers.proofs.places.lower.Goals as goal

pub returns-clause-front : goal.returns-clause-front
returns-clause-front c =
    let place = c.args.place in
    let offers = c.args.offers.now in
    let point =
    IsPartitionPoint-from_clause (λ (offer : Standing). ltb offer.place place) offers c.partition_point.result c.partition_point.ensures.partitioned
    (IsPartitionedBy-ltb (λ (offer : Standing). offer.place) offers place (places_rise offers c.requires)) (λ a r f q. search rules) in
    λ k d from before. ltb-true _ _ (point.0 k d from before)

pub returns-clause-rest : goal.returns-clause-rest
returns-clause-rest c =
    let place = c.args.place in
    let offers = c.args.offers.now in
    let point =
    IsPartitionPoint-from_clause (λ (offer : Standing). ltb offer.place place) offers c.partition_point.result c.partition_point.ensures.partitioned
    (IsPartitionedBy-ltb (λ (offer : Standing). offer.place) offers place (places_rise offers c.requires)) (λ a r f q. search rules) in
    λ k d from before. ltb-false _ _ (point.1 k d from before)
