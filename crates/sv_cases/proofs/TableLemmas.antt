-- What becomes of a table of offers whose offers have places below the next.
use Rattle.std.proofs.Common.{ℕ, ◌+◌, ◌<◌, ◌≤◌, ◌≡◌, ◌∙◌, Bool, false, not, ◌&&◌, cond, eqb, List, [], ◌∷◌, Some, None, ap, find, filter, length, refl, subst, sym, zero, suc, arith}
use Rattle.std.specs.Prelude.{All}
use Rattle.std.specs.Option.{option_or}
use Rattle.std.proofs.lemmas.Bool.{eq-eqb, ne_eqb}
use Rattle.std.proofs.lemmas.List.Elements.{All-append, All-filter, All-weaker}
use Rattle.std.proofs.lemmas.List.Filters.{length-filter_both}
use Rattle.std.proofs.lemmas.List.Folds.{find-append}
use Rattle.sv_events.specs.declared.row.Ending.{Ending}
use Rattle.sv_offer_laws.proofs.Members.{Contains-from_filter}
use Rattle.sv_offer_laws.proofs.RecoupledLemmas.{IsMadeOf, recoupled_made}
use Rattle.sv_offers.specs.Places.{IsNext}
use Rattle.sv_offers.specs.Table.{PlainOffers, after_ending, after_offer}
use Rattle.sv_rules.specs.Coupling.{both_stand, is_coupled, kept_by_ending, made_by_ending, offer_at, reopened_by_ending}
use Rattle.sv_rules.specs.Standing.{is_ended, without_ended}
use Rattle.sv_rules.specs.declared.coupling.Made.{Made}
use Rattle.sv_rules.specs.declared.standing.Standing.{Standing}

-- above all places none is at it
none_above : (offers : List Standing) (place : ℕ) → All (λ (o : Standing). o.place < place) offers → offer_at offers place ≡ None
none_above [] place above = refl
none_above (o ∷ offers) place above =
    let here : o.place < place = above zero o (omega arith) in
    let other : eqb o.place place ≡ false = ne_eqb o.place place (λ same. omega arith) in
    rw other (none_above offers place (λ k d within. above (suc k) d (omega (arith, within))))

-- a new offer is the one at its place
pub stands_last : (table : PlainOffers) (new : Standing) (after : PlainOffers) → after ≡ after_offer table new → IsNext table new.place → offer_at after.offers new.place ≡ Some new
stands_last table new after is next =
    let at : Standing → Bool = λ o. eqb o.place new.place in
    ap (λ (t : PlainOffers). offer_at t.offers new.place) is
    ∙ find-append at table.offers (new ∷ [])
    ∙ ap (λ o. option_or o (find at (new ∷ []))) (none_above table.offers new.place next.above)
    ∙ ap (λ b. cond b (Some new) None) (eq-eqb new.place new.place refl)

no_more : {X : Type 0} (p : X → Bool) (xs : List X) → length (filter p xs) ≤ length xs
no_more p xs = omega (arith, length-filter_both p (λ x. not (p x)) (λ x. refl) xs)

-- an ending reopens no more offers than there is room for, where no more stand
few_reopened : (offers : List Standing) (coupled : List Made) (party : ℕ) (ending : Ending) → length (reopened_by_ending offers coupled party ending) ≤ length offers
few_reopened offers coupled party ending =
    let left = without_ended offers party ending in
    let opened : Standing → Bool = λ o. is_coupled coupled o.place && not (is_coupled (kept_by_ending offers coupled party ending) o.place) in
    omega (arith, no_more opened left, no_more (λ o. not (is_ended party ending o)) offers)

pub room_suffices : (offers : List Standing) (coupled : List Made) (party : ℕ) (ending : Ending) (room : ℕ) → length offers ≤ 28 → 28 ≤ room → length (reopened_by_ending offers coupled party ending) ≤ room
room_suffices offers coupled party ending room few has = omega (arith, few_reopened offers coupled party ending, few, has)

-- an ending leaves no more offers than stood
pub few_left : (at : ℕ) (table : PlainOffers) (party : ℕ) (ending : Ending) (after : PlainOffers) → after ≡ after_ending at table party ending → length after.offers ≤ length table.offers
few_left at table party ending after is =
    omega (arith, ap (λ (t : PlainOffers). length t.offers) is, no_more (λ o. not (is_ended party ending o)) table.offers)

-- a place that is above all stays so, and so is the next
next_place : (at : ℕ) (table : PlainOffers) (party : ℕ) (ending : Ending) → IsNext table at → IsNext (after_ending at table party ending) (at + 1)
next_place at table party ending next =
    let left = without_ended table.offers party ending in
    let kept = kept_by_ending table.offers table.coupled party ending in
    let reopened = reopened_by_ending table.offers table.coupled party ending in
    let below : Made → Type 0 = λ m. m.at < at + 1 in
    record {
      above = All-weaker (λ (o : Standing). o.place < at) (λ o. o.place < at + 1) (λ o h. omega arith) left
          (All-filter (λ o. not (is_ended party ending o)) (λ (o : Standing). o.place < at) table.offers next.above);
      later = All-append below kept (made_by_ending at table.offers table.coupled party ending)
          (All-filter (λ (m : Made). both_stand left m.pair) below table.coupled (All-weaker (λ (m : Made). m.at < at) below (λ m h. omega arith) table.coupled next.later))
          (All-weaker (IsMadeOf left at) below (λ m h. omega (arith, h.same_at)) _ (recoupled_made left kept at reopened (λ o has. Contains-from_filter _ left o has)));
    }

pub next_after : (at : ℕ) (table : PlainOffers) (party : ℕ) (ending : Ending) (after : PlainOffers) → after ≡ after_ending at table party ending → IsNext table at → IsNext after (at + 1)
next_after at table party ending after is next =
    subst (λ (t : PlainOffers). IsNext t (at + 1)) (sym is) (next_place at table party ending next)
