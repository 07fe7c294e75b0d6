use Rattle.std.proofs.Common.{◌≡◌, ap, ◌∙◌, eqb, map, List, subst}
use Rattle.std.specs.List.{filter}
use Rattle.std.specs.Result.{IfOk}
use Rattle.sv_offers.specs.Table.{PlainOffers, is_open_to}
use Rattle.sv_offers.proofs.TableLemmas.{own_open_to}
use Rattle.sv_rules.specs.declared.standing.Standing.{Standing}
use Rattle.sv_offers.proofs.table.Offers.names_to.Goals as goal

pub returns : goal.returns
returns c =
    let list =
    ap (λ (os : List Standing). filter (is_open_to c.self.inside.coupled.items c.args.to) os) c.of.ensures
    ∙ ap (λ (v : PlainOffers). filter (is_open_to v.coupled c.args.to) (filter (λ (offer : Standing). eqb offer.party c.args.from) v.offers)) c.self.view_is
    ∙ own_open_to c.args.self.now c.args.from c.args.to in
    subst (λ (xs : List Standing). IfOk c.names_to.result (λ got. got.items ≡ map (λ (offer : Standing). offer.surrogate) xs)) list c.names_to.ensures
