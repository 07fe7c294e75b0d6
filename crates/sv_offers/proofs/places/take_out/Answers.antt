use Rattle.std.proofs.Common.{◌≡◌, ◌<◌, ◌≤◌, ◌∙◌, ap, eqb, length, subst, sym, List, arith, rules, tests}
use Rattle.std.specs.List.{AllWithin}
use Rattle.std.proofs.lemmas.Bool.{eq-eqb}
use Rattle.std.proofs.lemmas.List.{get_or_default}
use Rattle.sv_rules.specs.declared.standing.Standing.{Standing}
use Rattle.sv_offers.proofs.OnlyLemmas.{only_out}
use Rattle.sv_offers.proofs.PlaceLemmas.{none_there, one_at_place}
use Rattle.sv_offers.proofs.places.take_out.Goals.{else-at-len-via-then-at-len+else-index-place, else-at-len-via-else-at-len}
use Rattle.sv_offers.proofs.places.take_out.Goals as goal

pub returns-then-index-place : goal.returns-then-index-place
returns-then-index-place c =
    let place = c.args.place in
    let offers = c.args.offers.now.items in
    let at = c.lower-at.result in
    let it = c.index.result.now in
    let here : it.place ≡ place = first_of (omega arith, search (rules, tests)) in
    record {
      items = c.remove.ensures.items
          ∙ only_out (λ (offer : Standing). eqb offer.place place) offers at it (omega (arith, c.if-at-len.true, c.len.ensures, c.args.offers.now.ok.0))
          (eq-eqb _ _ (ap (λ (offer : Standing). offer.place) (sym c.index.ensures) ∙ here)) (one_at_place offers place c.requires);
    }

pub returns-else-at-len : goal.returns-else-at-len
returns-else-at-len c =
    let place = c.args.place in
    let offers = c.args.offers.now.items in
    let at = c.lower-at.result in
    let is = c.deref.ensures.value in
    let front = subst (λ (os : List Standing). AllWithin (λ offer. offer.place < place) os 0 at) is c.lower-at.ensures.front in
    let rest = subst (λ (os : List Standing). AllWithin (λ offer. place ≤ offer.place) os at (length os)) is c.lower-at.ensures.rest in
    elim c.else-at-len.branch [
      | else-at-len-via-then-at-len+else-index-place w ↦ record {
        items = none_there offers place at c.requires front rest (λ d within here. w.if-index-place.false
            (ap (λ (offer : Standing). offer.place) (w.index.ensures ∙ get_or_default offers at w.index.result.now d within) ∙ here));
      }
      | else-at-len-via-else-at-len w ↦ record {
        items = none_there offers place at c.requires front rest (λ d within here. omega (arith, within, w.if-at-len.false, c.len.ensures, c.args.offers.now.ok.0));
      }
    ]
