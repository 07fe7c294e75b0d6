-- The places of the standing offers.
use Rattle.std.proofs.Common.{◌≡◌, refl, ℕ, ◌<◌, ◌≤◌, not, List, [], ◌∷◌, ◌++◌, length, get_or, sym, ap, ◌∙◌, Option, Some, None, inl, inr, arith}
use Rattle.std.specs.Prelude.{Contains, All, AllPairs, is_none, option_map}
use Rattle.std.proofs.lemmas.Bool.{cond_both, cases_order}
use Rattle.std.proofs.lemmas.List.{get_or_default}
use Rattle.std.proofs.lemmas.List.Elements.{All-nil, All-push, All-filter, All-weaker}
use Rattle.std.proofs.lemmas.List.Quantifiers.{all_pairs_push}
use Rattle.std.proofs.lemmas.List.Kept.{AllPairs-filter}
use Rattle.sv_events.specs.Answer.{PlainAnswer}
use Rattle.sv_events.specs.declared.event.Act.{Act}
use Rattle.sv_events.specs.Row.{act_row}
use Rattle.sv_events.specs.declared.row.AnswerKind.{AnswerKind}
use Rattle.sv_events.specs.declared.row.Ending.{Ending}
use Rattle.sv_events.specs.declared.row.Opening.{Opening}
use Rattle.sv_rules.specs.declared.standing.Standing.{Standing}
use Rattle.sv_events.specs.Fits.{is_degree}
use Rattle.sv_rules.specs.Entries.{Entries, next_place, kind_of}
use Rattle.sv_rules.specs.Standing.{standing, standing_after, with_opened, with_ended, own_offer, with_offer, offer_made, is_ended}
use Rattle.sv_offer_laws.specs.StandingLaws.{offer_of}

-- what holds of the offers before an opening, and of the one that it makes, holds of those after it
All-with_opened : (P : Standing → Type 0) (offers : List Standing) (place party : ℕ) (given : AnswerKind) (opens : Option Opening) →
    ((offer : Standing) → option_map (offer_made place party) opens ≡ Some offer → P offer) → All P offers → All P (with_opened offers place party given opens)
All-with_opened P offers place party given None new old = old
All-with_opened P offers place party given (Some opening) new old =
    let offer : Standing = offer_made place party opening in
    cond_both (is_degree given) (with_offer offers offer) offers (All P)
    (λ _. cond_both (is_none (own_offer offers offer.party offer.local)) (offers ++ offer ∷ []) offers (All P) (λ _. All-push P offers offer old (new offer refl)) (λ _. old))
    (λ _. old)

-- and of those that an ending leaves
All-with_ended : (P : Standing → Type 0) (offers : List Standing) (party : ℕ) (ends : Option Ending) → All P offers → All P (with_ended offers party ends)
All-with_ended P offers party None old = old
All-with_ended P offers party (Some ending) old = All-filter (λ o. not (is_ended party ending o)) P offers old

-- what holds of the offers before an act, and of the one that it makes, holds of those after it
pub All-standing_after : (P : Standing → Type 0) (offers : List Standing) (place party : ℕ) (answer : PlainAnswer) (act : Act) →
    ((offer : Standing) → offer_of place party act ≡ Some offer → P offer) → All P offers →
    All P (standing_after offers place party (kind_of answer) (act_row act).row)
All-standing_after P offers place party answer act new old =
    All-with_ended P (with_opened offers place party (kind_of answer) (act_row act).row.opens) party (act_row act).row.ends
    (All-with_opened P offers place party (kind_of answer) (act_row act).row.opens new old)

made_place : (place party : ℕ) (opens : Option Opening) (offer : Standing) → option_map (offer_made place party) opens ≡ Some offer → offer.place ≡ place
made_place place party None offer h = cc
made_place place party (Some opening) offer h = cc

pub offered_place : (place party : ℕ) (act : Act) (offer : Standing) → offer_of place party act ≡ Some offer → offer.place ≡ place
offered_place place party act offer h = made_place place party (act_row act).row.opens offer h

abbrev pub IsPlaceIn : ℕ → Standing → Type 0
IsPlaceIn n offer = (1 ≤ offer.place) × (offer.place ≤ n)

pub places_within : (journal : Entries) → All (IsPlaceIn (length journal)) (standing journal)
places_within [] = All-nil (IsPlaceIn 0)
places_within (e ∷ journal) =
    All-standing_after (IsPlaceIn (length (e ∷ journal))) (standing journal) (next_place journal) e.party e.answer e.act
    (λ offer offered. let at = offered_place (next_place journal) e.party e.act offer offered in (omega arith, omega arith))
    (All-weaker (IsPlaceIn (length journal)) (IsPlaceIn (length (e ∷ journal))) (λ offer h. (h.0, omega (arith, h.1))) (standing journal) (places_within journal))

abbrev pub ComesBefore : Standing → Standing → Type 0
ComesBefore one other = one.place < other.place

-- offers by place, all before a place, are still by place after an opening at this place
AllPairs-with_opened : (offers : List Standing) (place party : ℕ) (given : AnswerKind) (opens : Option Opening) →
    All (λ offer. offer.place < place) offers → AllPairs ComesBefore offers → AllPairs ComesBefore (with_opened offers place party given opens)
AllPairs-with_opened offers place party given None early old = old
AllPairs-with_opened offers place party given (Some opening) early old =
    let offer : Standing = offer_made place party opening in
    cond_both (is_degree given) (with_offer offers offer) offers (AllPairs ComesBefore)
    (λ _. cond_both (is_none (own_offer offers offer.party offer.local)) (offers ++ offer ∷ []) offers (AllPairs ComesBefore)
    (λ _. all_pairs_push ComesBefore offers offer old early) (λ _. old))
    (λ _. old)

-- and after an ending
AllPairs-with_ended : (offers : List Standing) (party : ℕ) (ends : Option Ending) → AllPairs ComesBefore offers → AllPairs ComesBefore (with_ended offers party ends)
AllPairs-with_ended offers party None old = old
AllPairs-with_ended offers party (Some ending) old = AllPairs-filter ComesBefore (λ o. not (is_ended party ending o)) offers old

AllPairs-standing_after : (offers : List Standing) (place party : ℕ) (answer : PlainAnswer) (act : Act) →
    All (λ offer. offer.place < place) offers → AllPairs ComesBefore offers → AllPairs ComesBefore (standing_after offers place party (kind_of answer) (act_row act).row)
AllPairs-standing_after offers place party answer act early old =
    AllPairs-with_ended (with_opened offers place party (kind_of answer) (act_row act).row.opens) party (act_row act).row.ends
    (AllPairs-with_opened offers place party (kind_of answer) (act_row act).row.opens early old)

pub places_ascend : (journal : Entries) → AllPairs ComesBefore (standing journal)
places_ascend [] = λ i j d before within. absurd (omega arith)
places_ascend (e ∷ journal) =
    AllPairs-standing_after (standing journal) (next_place journal) e.party e.answer e.act
    (All-weaker (IsPlaceIn (length journal)) (λ offer. offer.place < next_place journal) (λ offer h. omega (arith, h.1)) (standing journal) (places_within journal))
    (places_ascend journal)

-- no two offers that come by place have one place
pub same_by_place : (offers : List Standing) (one other : Standing) → AllPairs ComesBefore offers → Contains offers one → Contains offers other → one.place ≡ other.place → one ≡ other
same_by_place offers one other ascend h k same =
    let at_other : get_or offers k.0 one ≡ other = get_or_default offers k.0 one other k.1 ∙ k.2 in
    elim (cases_order h.0 k.0) [
      | inl i ↦ sym h.2 ∙ ap (λ n. get_or offers n one) i ∙ at_other
      | inr apart ↦ absurd (elim apart [
        | inl before ↦ let less = rw (h.2, at_other) at (ascend h.0 k.0 one before k.1) in omega arith
        | inr after ↦ let less = rw (h.2, at_other) at (ascend k.0 h.0 one after h.1) in omega arith
      ])
    ]
