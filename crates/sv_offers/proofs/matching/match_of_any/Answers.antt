use Rattle.std.proofs.Common.{◌∙◌, ap, sym, ℕ, Option, Some}
use Rattle.std.specs.Option.{option_or}
use Rattle.sv_offers.specs.Table.{match_at}
use Rattle.sv_rules.specs.Coupling.{is_open_match}
use Rattle.sv_offers.proofs.MatchLemmas.{match_is_made_to}
use Rattle.sv_rules.specs.declared.standing.Standing.{Standing}
use Rattle.sv_offers.proofs.LookLemmas.{first_at, first_made}
use Rattle.sv_offers.proofs.matching.match_of_any.Goals as goal

pub returns-in_err-places : goal.returns-in_err-places
returns-in_err-places c =
    let look : ℕ → Option Standing = match_at c.args.offers.now c.args.coupled.now.items c.args.offer.now in
    c.from_residual.ensures ∙ ap (first_at look) c.in_err-places.ensures.places
    ∙ first_made c.args.offers.now c.args.offer.now.party (Some c.args.offer.now.surrogate) (is_open_match c.args.coupled.now.items c.args.offer.now) c.in_err-places.ensures.by_place (λ other. match_is_made_to c.args.coupled.now.items c.args.offer.now other c.requires)

pub returns-in-Some-match_at : goal.returns-in-Some-match_at
returns-in-Some-match_at c =
    let look : ℕ → Option Standing = match_at c.args.offers.now c.args.coupled.now.items c.args.offer.now in
    ap (λ (found : Option Standing). option_or found (first_at look c.next.new.self)) c.in-Some-match_at.ensures
    ∙ ap (first_at look) (sym c.in-Some.ensures.steps) ∙ c.loop-place.invariant
    ∙ first_made c.args.offers.now c.args.offer.now.party (Some c.args.offer.now.surrogate) (is_open_match c.args.coupled.now.items c.args.offer.now) c.in_ok-places.ensures.by_place (λ other. match_is_made_to c.args.coupled.now.items c.args.offer.now other c.requires)

pub returns : goal.returns
returns c =
    let look : ℕ → Option Standing = match_at c.args.offers.now c.args.coupled.now.items c.args.offer.now in
    ap (first_at look) (sym c.in-None.ensures.steps.0) ∙ c.loop-place.invariant
    ∙ first_made c.args.offers.now c.args.offer.now.party (Some c.args.offer.now.surrogate) (is_open_match c.args.coupled.now.items c.args.offer.now) c.in_ok-places.ensures.by_place (λ other. match_is_made_to c.args.coupled.now.items c.args.offer.now other c.requires)
