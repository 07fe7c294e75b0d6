use Rattle.std.proofs.Common.{◌≡◌, ◌<◌, ◌^◌, ◌&&◌, ap, sym, ◌∙◌, ℕ, Option, cond, eqb, filter, List, subst, not}
use Rattle.std.specs.List.{list_any}
use Rattle.std.specs.Prelude.{All, Contains, is_some}
use Rattle.std.proofs.lemmas.List.Elements.{All-filter}
use Rattle.std.proofs.lemmas.List.Kept.{AllPairs-filter}
use Rattle.sv_offers.proofs.AddressedLemmas.{taken_place}
use Rattle.sv_offers.proofs.FindingLemmas.{name_replaced, one_by_name, own_among}
use Rattle.sv_offers.proofs.SenderLemmas.{left_sent}
use Rattle.sv_offers.proofs.PartyListLemmas.{of_party, taken}
use Rattle.sv_offers.specs.Addressed.{is_made_to, places_to, other_places}
use Rattle.sv_offers.specs.Places.{ByPlace, without_place}
use Rattle.sv_offers.specs.Senders.{is_sent}
use Rattle.sv_rules.specs.Standing.{is_own, own_offer}
use Rattle.sv_rules.specs.declared.standing.Standing.{Standing}
use Rattle.sv_offers.proofs.standings.Standings.remove.Goals as goal

pub remove-requires : goal.remove-requires
remove-requires c =
    let party = c.args.offer.now.party in
    subst ByPlace (sym (c.self.invariant.own party))
    (AllPairs-filter (λ (one other : Standing). one.place < other.place) (of_party party) c.self.inside.placed c.self.invariant.by_place)

pub replace_name-requires : goal.replace_name-requires
replace_name-requires c =
    let offer = c.args.offer.now in
    let there = subst (λ (os : List Standing). Contains os offer) (sym c.self.view_is) c.requires in
    ap is_some (c.self.invariant.named offer.party offer.local) ∙ one_by_name c.self.inside.placed offer there

pub invariant_of-self : goal.invariant_of-self
invariant_of-self c =
    let offers = c.self.inside.placed in
    let offer = c.args.offer.now in
    let by_place = c.self.invariant.by_place in
    let there = subst (λ (os : List Standing). Contains os offer) (sym c.self.view_is) c.requires in
    let left = without_place offers offer.place in
    let is : c.remove-4.new.self ≡ left = c.remove-4.ensures in
    let own = λ (party : ℕ).
    c.remove.ensures party ∙ ap (λ (os : List Standing). cond (eqb offer.party party) (without_place os offer.place) os) (c.self.invariant.own party)
    ∙ taken (of_party party) offers offer by_place there in
    let next : c.own_offer-next.result ≡ own_offer left offer.party offer.local =
    c.own_offer-next.ensures ∙ ap (λ (os : List Standing). own_offer os offer.party offer.local) (c.of.ensures ∙ own offer.party)
    ∙ own_among left offer.party offer.local in
    record {
      fits = subst (All (λ (o : Standing). o.place < 2 ^ 64)) (sym is) (All-filter (λ o. not (eqb o.place offer.place)) (λ o. o.place < 2 ^ 64) offers c.self.invariant.fits);
      by_place = subst ByPlace (sym is) (AllPairs-filter (λ (one other : Standing). one.place < other.place) (λ o. not (eqb o.place offer.place)) offers by_place);
      own = λ party. own party ∙ ap (filter (of_party party)) (sym is);
      made_to = λ party surrogate.
          c.remove-2.ensures party surrogate ∙ ap (λ (ps : List ℕ). cond (is_made_to party surrogate offer) (other_places ps offer.place) ps) (c.self.invariant.made_to party surrogate)
          ∙ taken_place party surrogate offers offer by_place there ∙ ap (λ (os : List Standing). places_to os party surrogate) (sym is);
      sent = λ to from place.
          c.remove-3.ensures to from place ∙ ap (λ b. not (is_sent to from place offer) && b) (c.self.invariant.sent to from place)
          ∙ left_sent offers offer to from place by_place there ∙ ap (list_any (is_sent to from place)) (sym is);
      named = λ party local.
          c.replace_name.ensures party local ∙ ap (λ (o : Option Standing). cond (is_own party local offer) c.own_offer-next.result o) (c.self.invariant.named party local)
          ∙ name_replaced offers offer c.own_offer-next.result by_place there next party local
          ∙ ap (λ (os : List Standing). own_offer os party local) (sym is);
    }
