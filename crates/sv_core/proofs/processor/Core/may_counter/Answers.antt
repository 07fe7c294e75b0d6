use Rattle.std.proofs.Common.{◌∙◌, List, ap, ltb}
use Rattle.sv_rules.specs.Standing.{offer_count, standing}
use Rattle.sv_rules.specs.declared.standing.Standing.{Standing}
use Rattle.sv_core.specs.Core.{PlainCore}
use Rattle.sv_core.proofs.processor.Core.may_counter.Goals as goal

pub returns : goal.returns
returns c =
    let party = c.args.party in
    let count = c.count.ensures ∙ ap (λ (os : List Standing). offer_count os party) c.self.invariant.stand ∙ ap (λ (v : PlainCore). offer_count (standing v.journal) party) c.self.view_is in
    ap (λ n. ltb n c.most_counters.result) count ∙ ap (ltb (offer_count (standing c.args.self.now.journal) party)) c.most_counters.ensures
