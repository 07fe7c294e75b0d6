use Rattle.std.proofs.Common.{◌∙◌, ap, sym, ℕ, Option, None}
use Rattle.std.specs.Option.{option_or}
use Rattle.sv_offers.specs.Table.{open_at, is_open_to}
use Rattle.sv_offers.proofs.TableLemmas.{open_is_made_to}
use Rattle.sv_rules.specs.declared.standing.Standing.{Standing}
use Rattle.sv_offers.proofs.LookLemmas.{first_at, first_made}
use Rattle.sv_offers.proofs.listing.first_to.Goals as goal

pub returns-in_err-places : goal.returns-in_err-places
returns-in_err-places c =
    let look : ℕ → Option Standing = open_at c.args.offers.now c.args.coupled.now.items c.args.party in
    c.from_residual.ensures ∙ ap (first_at look) c.in_err-places.ensures.places
    ∙ first_made c.args.offers.now c.args.party None (is_open_to c.args.coupled.now.items c.args.party) c.in_err-places.ensures.by_place (open_is_made_to c.args.coupled.now.items c.args.party)

pub returns-in-Some-open_at : goal.returns-in-Some-open_at
returns-in-Some-open_at c =
    let look : ℕ → Option Standing = open_at c.args.offers.now c.args.coupled.now.items c.args.party in
    ap (λ (found : Option Standing). option_or found (first_at look c.next.new.self)) c.in-Some-open_at.ensures
    ∙ ap (first_at look) (sym c.in-Some.ensures.steps) ∙ c.loop-place.invariant
    ∙ first_made c.args.offers.now c.args.party None (is_open_to c.args.coupled.now.items c.args.party) c.in_ok-places.ensures.by_place (open_is_made_to c.args.coupled.now.items c.args.party)

pub returns : goal.returns
returns c =
    let look : ℕ → Option Standing = open_at c.args.offers.now c.args.coupled.now.items c.args.party in
    ap (first_at look) (sym c.in-None.ensures.steps.0) ∙ c.loop-place.invariant
    ∙ first_made c.args.offers.now c.args.party None (is_open_to c.args.coupled.now.items c.args.party) c.in_ok-places.ensures.by_place (open_is_made_to c.args.coupled.now.items c.args.party)
