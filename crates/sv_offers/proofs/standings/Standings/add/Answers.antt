use Rattle.std.proofs.Common.{◌≡◌, refl, ap, sym, ◌∙◌, ◌<◌, ◌^◌, ◌||◌, Bool, Option, Some, None, cond, eqb, find, List, [], ◌∷◌, ◌++◌, subst, ℕ}
use Rattle.std.specs.Prelude.{All}
use Rattle.std.proofs.lemmas.List.Elements.{All-filter, All-map, All-push}
use Rattle.std.specs.List.{filter, list_any}
use Rattle.std.specs.Option.{option_or}
use Rattle.std.proofs.lemmas.List.Folds.{find-append}
use Rattle.std.proofs.lemmas.List.Quantifiers.{all_pairs_push}
use Rattle.sv_offers.proofs.AddressedLemmas.{added_and_gone, pushed_place}
use Rattle.sv_offers.proofs.FindingLemmas.{found_as_before}
use Rattle.sv_offers.proofs.OrderLemmas.{last_gone}
use Rattle.sv_offers.proofs.SenderLemmas.{more_sent}
use Rattle.sv_offers.proofs.PartyListLemmas.{of_party, pushed}
use Rattle.sv_offers.specs.Addressed.{is_made_to, places_to, other_places}
use Rattle.sv_offers.specs.Places.{ByPlace, without_place}
use Rattle.sv_offers.specs.Senders.{is_sent}
use Rattle.sv_rules.specs.Standing.{is_own}
use Rattle.sv_rules.specs.declared.standing.Standing.{Standing}
use Rattle.sv_offers.proofs.standings.Standings.add.Goals as goal

pub add-requires-2 : goal.add-requires-2
add-requires-2 c =
    let new = c.args.new.now in
    let lower : ℕ → Type 0 = λ p. p < new.place in
    let above = subst (All (λ (o : Standing). o.place < new.place)) (sym c.self.view_is) c.requires in
    λ surrogate.
    subst (All lower) (sym (c.self.invariant.made_to new.to surrogate))
    (All-map lower (λ (o : Standing). o.place) (filter (is_made_to new.to surrogate) c.self.inside.placed)
    (All-filter (is_made_to new.to surrogate) (λ o. o.place < new.place) c.self.inside.placed above))

pub invariant_of-self-in_err-reserve-2 : goal.invariant_of-self-in_err-reserve-2
invariant_of-self-in_err-reserve-2 c =
    found_as_before c.self.inside _ c.self.invariant refl c.reserve-2.ensures.same (λ party surrogate. refl) (λ to from place. refl) (c.reserve.ensures.entries).2

pub invariant_of-self-in_err-add : goal.invariant_of-self-in_err-add
invariant_of-self-in_err-add c =
    found_as_before c.self.inside _ c.self.invariant c.in_err-add.ensures.err c.reserve-2.ensures.same (λ party surrogate. refl) (λ to from place. refl) (c.reserve.ensures.entries).2

pub invariant_of-self-2 : goal.invariant_of-self-2
invariant_of-self-2 c =
    let new = c.args.new.now in
    let old = c.self.inside.placed in
    let offers : old ++ new ∷ [] ≡ c.add.new.self = sym c.in_ok-add.ensures.ok in
    let above = subst (All (λ (o : Standing). o.place < new.place)) (sym c.self.view_is) c.requires in
    record {
      fits = subst (All (λ (o : Standing). o.place < 2 ^ 64)) offers (All-push (λ (o : Standing). o.place < 2 ^ 64) old new c.self.invariant.fits c.add-3.ensures.fits);
      by_place = subst ByPlace offers (all_pairs_push (λ (one other : Standing). one.place < other.place) old new c.self.invariant.by_place above);
      own = λ party.
          c.push.ensures party
          ∙ ap (λ (xs : List Standing). cond (eqb new.party party) (xs ++ new ∷ []) xs) (c.in_ok-reserve-2.ensures.same party ∙ c.self.invariant.own party)
          ∙ pushed (of_party party) old new ∙ ap (filter (of_party party)) offers;
      made_to = λ party surrogate.
          c.in_default.ensures.ok party surrogate
          ∙ ap (λ (ps : List ℕ). cond (is_made_to party surrogate new) (ps ++ new.place ∷ []) ps) (c.self.invariant.made_to party surrogate)
          ∙ pushed_place party surrogate old new ∙ ap (λ (os : List Standing). places_to os party surrogate) offers;
      sent = λ to from place.
          c.in_default-add.ensures.ok to from place
          ∙ ap (λ b. is_sent to from place new || b) (c.self.invariant.sent to from place)
          ∙ more_sent old new to from place ∙ ap (list_any (is_sent to from place)) offers;
      named = λ party local.
          let own : Standing → Bool = is_own party local in
          c.note_name.ensures party local
          ∙ ap (λ (o : Option Standing). option_or o (cond (own new) (Some new) None)) ((c.in_ok-reserve.ensures.entries).2 (party, local) ∙ c.self.invariant.named party local)
          ∙ sym (find-append own old (new ∷ [])) ∙ ap (find own) offers;
    }

-- after the offer went last and went again those are left that were
pub invariant_of-self-in-Err : goal.invariant_of-self-in-Err
invariant_of-self-in-Err c =
    let new = c.args.new.now in
    let above = subst (All (λ (o : Standing). o.place < new.place)) (sym c.self.view_is) c.requires in
    let left = c.remove.ensures ∙ ap (λ (os : List Standing). without_place os new.place) c.in_ok-add.ensures.ok ∙ last_gone c.self.inside.placed new above in
    found_as_before c.self.inside _ c.self.invariant left c.reserve-2.ensures.same c.in-Err.ensures.err (λ to from place. refl) (c.reserve.ensures.entries).2

pub returns-in-Err-clause-err : goal.returns-in-Err-clause-err
returns-in-Err-clause-err c =
    let new = c.args.new.now in
    let above = subst (All (λ (o : Standing). o.place < new.place)) (sym c.self.view_is) c.requires in
    c.remove.ensures ∙ ap (λ (os : List Standing). without_place os new.place) c.in_ok-add.ensures.ok ∙ last_gone c.self.inside.placed new above
    ∙ c.self.view_is

-- and so where it went last in its lists too
pub invariant_of-self-in-Err-add : goal.invariant_of-self-in-Err-add
invariant_of-self-in-Err-add c =
    let new = c.args.new.now in
    let above = subst (All (λ (o : Standing). o.place < new.place)) (sym c.self.view_is) c.requires in
    let left = c.remove-in-Err-add-2.ensures ∙ ap (λ (os : List Standing). without_place os new.place) c.in_ok-add.ensures.ok ∙ last_gone c.self.inside.placed new above in
    found_as_before c.self.inside _ c.self.invariant left c.reserve-2.ensures.same
    (λ party surrogate.
    c.remove-in-Err-add.ensures party surrogate
    ∙ ap (λ (ps : List ℕ). cond (is_made_to party surrogate new) (other_places ps new.place) ps) (c.in_default.ensures.ok party surrogate)
    ∙ ap (λ (ps : List ℕ). let added : List ℕ = cond (is_made_to party surrogate new) (ps ++ new.place ∷ []) ps in cond (is_made_to party surrogate new) (other_places added new.place) added) (c.self.invariant.made_to party surrogate)
    ∙ added_and_gone (is_made_to party surrogate new) (places_to c.self.inside.placed party surrogate) new.place
    (λ here. All-map (λ p. p < new.place) (λ (o : Standing). o.place) (filter (is_made_to party surrogate) c.self.inside.placed)
    (All-filter (is_made_to party surrogate) (λ o. o.place < new.place) c.self.inside.placed above))
    ∙ sym (c.self.invariant.made_to party surrogate))
    c.in-Err-add.ensures.err (c.reserve.ensures.entries).2

pub returns-in-Err-add-clause-err : goal.returns-in-Err-add-clause-err
returns-in-Err-add-clause-err c =
    let new = c.args.new.now in
    let above = subst (All (λ (o : Standing). o.place < new.place)) (sym c.self.view_is) c.requires in
    c.remove-in-Err-add-2.ensures ∙ ap (λ (os : List Standing). without_place os new.place) c.in_ok-add.ensures.ok ∙ last_gone c.self.inside.placed new above
    ∙ c.self.view_is
