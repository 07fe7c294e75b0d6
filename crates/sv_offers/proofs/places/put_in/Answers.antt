use Rattle.std.proofs.Common.{◌<◌, ◌≤◌, ◌∙◌, length, subst, List}
use Rattle.std.specs.List.{AllWithin}
use Rattle.sv_rules.specs.declared.standing.Standing.{Standing}
use Rattle.sv_offers.proofs.PlaceLemmas.{put_between}
use Rattle.sv_offers.proofs.places.put_in.Goals as goal

pub returns-clause-items : goal.returns-clause-items
returns-clause-items c =
    let new = c.args.new.now in
    let at = c.lower-at.result in
    let is = c.deref.ensures.value in
    c.in-Ok.ensures.items
    ∙ put_between c.args.offers.now.items new at (subst (λ (os : List Standing). at ≤ length os) is c.lower-at.ensures.within)
    (subst (λ (os : List Standing). AllWithin (λ offer. offer.place < new.place) os 0 at) is c.lower-at.ensures.front)
    (subst (λ (os : List Standing). AllWithin (λ offer. new.place ≤ offer.place) os at (length os)) is c.lower-at.ensures.rest)
