-- The laws over the stretches of a legal journal.
use Rattle.std.proofs.Common.{◌≡◌, refl, sym, ap, ◌∙◌, subst, ℕ, ◌+◌, ◌≤◌, true, false, ◌&&◌, cond, List, [], ◌∷◌, ◌++◌, length, ◌⊎◌, inl, inr, arith}
use Rattle.std.proofs.lemmas.Bool.{and_parts, and_from, or_left, or_right, not-true}
use Rattle.std.proofs.lemmas.List.{append_assoc, length-append}
use Rattle.std.proofs.lemmas.List.Elements.{All-contains}
use Rattle.apl_arrays.specs.Array.{PlainArray}
use Rattle.sv_access.specs.declared.access.Side.{Side}
use Rattle.sv_access.specs.declared.access.Side.TheVariants.{A, B}
use Rattle.sv_access.specs.declared.access.Kind.{Kind}
use Rattle.sv_access.specs.declared.access.Kind.TheVariants.{Set, Use}
use Rattle.sv_access.specs.declared.control.Control.{Control}
use Rattle.sv_access.specs.declared.state.AccessState.TheVariants.{Quiet}
use Rattle.sv_access.specs.Access.{other_side}
use Rattle.sv_access.specs.Control.{combined, has_element, in_view, no_control}
use Rattle.sv_access.specs.Story.{Story, is_early, is_unseen, last_value, state_of_story}
use Rattle.sv_access.specs.Table.{element_of}
use Rattle.sv_access.proofs.StoryLemmas.{state_by_unseen}
use Rattle.sv_rules.specs.declared.coupling.Coupling.{Coupling}
use Rattle.sv_rules.specs.Control.{vector_of}
use Rattle.sv_rules.specs.Entries.{Entries}
use Rattle.sv_rules.specs.Legal.{IsLegal}
use Rattle.sv_rules.specs.Standing.{standing}
use Rattle.sv_offer_laws.specs.CouplingLaws.{IsCouplingOf}
use Rattle.sv_offer_laws.proofs.LegalLemmas.{IsLegal-before}
use Rattle.sv_offer_laws.proofs.LookupLemmas.{found_as_made}
use Rattle.sv_offer_laws.proofs.NowLemmas.{coupling_places, none_now}
use Rattle.sv_offer_laws.proofs.PlaceLemmas.{IsPlaceIn, places_within}
use Rattle.sv_story_laws.specs.StoryLaws.{offer_on}
use Rattle.sv_delivery_laws.specs.DeliveryLaws.{StretchesAddToTheStory, StandsOrIsOpenThroughout, StretchesStandOrAreOpen, IsHeldFor, LosesNothing, LosesNothingUnderControl, IsUsedInOrder, FeedsLoseNothing, IsExchange, EachIsUsed, RequestsHaveOneReply, WhatControlGives, FullVectorsHoldForBoth}
use Rattle.sv_delivery_laws.specs.Sent.{set_by, used_by, unseen_value, values_remaining}
use Rattle.sv_delivery_laws.specs.Stretch.{Stretch, IsStretch, IsStretchIn, added_by, added_in, control_then, has_throughout, is_controlled, is_full_throughout, is_full_vector, story_after, story_before, story_in, story_then, last_opening}
use Rattle.sv_delivery_laws.proofs.AddedLemmas.{AddsLate, adds_late, joint_then, adds_nothing, adds_one, story_grows, vector_then}
use Rattle.sv_delivery_laws.proofs.DeliveryLemmas.{IsInOrder, NeverEarly, UsesGetLast, all_sent, feeds_in_order, in_order, one_more}
use Rattle.sv_delivery_laws.proofs.ExchangeLemmas.{each_is_used, exchange_is_at, same_by_number}
use Rattle.sv_delivery_laws.proofs.MomentLemmas.{Moment, Point, alone, has_offer_on, opened_by_the_start, opened_since_its_entry, point_before, points, stands, stands_or_is_open}

-- the journal to which a stretch belongs, from the entries by which its coupling stands back to its start
record IsWhole (users : List ℕ) (later : Entries) (stretch : Stretch) : Type 0 where
  pub legal : IsLegal users (later ++ (stretch.entries ++ stretch.before))
  pub place : (offer_on stretch.coupling stretch.giver).place ≤ length stretch.before
  pub point : Point stretch.giver stretch.coupling (length stretch.before) (later ++ (stretch.entries ++ stretch.before))

is_whole : (users : List ℕ) (journal : Entries) → IsLegal users journal → (after later : Entries) (stretch : Stretch) →
    journal ≡ after ++ (later ++ (stretch.entries ++ stretch.before)) → IsStretch later stretch → IsWhole users later stretch
is_whole users journal legal after later stretch same is = record {
  legal = legal_whole;
  place = place;
  point = record {
    moment = stands (coupling_places users whole legal_whole stretch.coupling.a.place stretch.coupling is_coupling).1 is.stands;
    opened = is.opened;
    gives = λ made. is.giver;
  };
}
  where
    whole : Entries
    whole = later ++ (stretch.entries ++ stretch.before)

    legal_whole : IsLegal users whole
    legal_whole = IsLegal-before users after whole (subst (IsLegal users) same legal)

    is_coupling : IsCouplingOf whole stretch.coupling.a.place stretch.coupling
    is_coupling = found_as_made users whole legal_whole stretch.coupling.a.place stretch.coupling is.stands

    place : (offer_on stretch.coupling stretch.giver).place ≤ length stretch.before
    place =
        let offer = offer_on stretch.coupling stretch.giver in
        let at = All-contains (IsPlaceIn (length whole)) (standing whole) offer (places_within whole) (has_offer_on whole stretch.coupling.a.place stretch.coupling stretch.giver is_coupling) in
        omega (arith, opened_since_its_entry whole offer at.0 at.1, is.opened)

-- a stretch of a legal journal, at its end
record IsPart (users : List ℕ) (stretch : Stretch) : Type 0 where
  pub legal : IsLegal users (stretch.entries ++ stretch.before)
  pub place : (offer_on stretch.coupling stretch.giver).place ≤ length stretch.before
  pub point : Point stretch.giver stretch.coupling (length stretch.before) (stretch.entries ++ stretch.before)

is_part : (users : List ℕ) (journal : Entries) → IsLegal users journal → (stretch : Stretch) → IsStretchIn journal stretch → IsPart users stretch
is_part users journal legal stretch within =
    let whole = is_whole users journal legal within.0 within.1 stretch within.2 within.3 in
    let here : Entries = stretch.entries ++ stretch.before in
    record {
      legal = IsLegal-before users within.1 here whole.legal;
      place = whole.place;
      point = points users within.1 here stretch.giver stretch.coupling (length stretch.before) whole.legal whole.place (omega (arith, length-append stretch.entries stretch.before)) whole.point;
    }

-- what the entries of a stretch add to the story: control holds it back while it would come early
record AddsInOrder (giver : Side) (coupling : Coupling) (entries before : Entries) : Type 0 where
  pub whole : story_then giver (entries ++ before) coupling ≡ added_in giver entries before coupling ++ story_then giver before coupling
  pub late : (side : Side) (kind : Kind) → has_throughout (element_of side kind) giver entries before coupling ≡ true →
      NeverEarly side kind (added_in giver entries before coupling) (story_then giver before coupling)
  pub gets : UsesGetLast (added_in giver entries before coupling) (story_then giver before coupling)

-- one entry more, by what it adds
late_more : (control : Control) (told added stretch before : Story PlainArray) → AddsLate control told added → told ≡ stretch ++ before → (side : Side) (kind : Kind) →
    has_element control (element_of side kind) ≡ true → NeverEarly side kind stretch before → NeverEarly side kind (added ++ stretch) before
late_more control told added stretch before (adds_nothing none) same side kind has so_far = subst (λ (new : Story PlainArray). NeverEarly side kind (new ++ stretch) before) (sym none) so_far
late_more control told added stretch before (adds_one access is at) same side kind has so_far =
    subst (λ (new : Story PlainArray). NeverEarly side kind (new ++ stretch) before) (sym is) (early, so_far)
  where
    Late : Side → Kind → Type 0
    Late s k = has_element control (element_of s k) ≡ true → is_early told s k ≡ false

    early : access.side ≡ side → access.kind ≡ kind → is_early (stretch ++ before) side kind ≡ false
    early by_side of_kind =
        ap (λ (s : Story PlainArray). is_early s side kind) (sym same)
        ∙ at_both has
      where
        at_both : has_element control (element_of side kind) ≡ true → is_early told side kind ≡ false
        at_both = subst (λ (s : Side). has_element control (element_of s kind) ≡ true → is_early told s kind ≡ false) by_side
            (subst (λ (k : Kind). has_element control (element_of access.side k) ≡ true → is_early told access.side k ≡ false) of_kind at.late)

gets_more : (control : Control) (told added stretch before : Story PlainArray) → AddsLate control told added → told ≡ stretch ++ before →
    UsesGetLast stretch before → UsesGetLast (added ++ stretch) before
gets_more control told added stretch before (adds_nothing none) same so_far = subst (λ (new : Story PlainArray). UsesGetLast (new ++ stretch) before) (sym none) so_far
gets_more control told added stretch before (adds_one access is at) same so_far =
    subst (λ (new : Story PlainArray). UsesGetLast (new ++ stretch) before) (sym is) ((λ of_use. ap last_value (sym same) ∙ at.gets of_use), so_far)

adds_in_order : (users : List ℕ) (giver : Side) (coupling : Coupling) (entries before : Entries) → IsLegal users (entries ++ before) →
    (offer_on coupling giver).place ≤ length before → Point giver coupling (length before) (entries ++ before) → AddsInOrder giver coupling entries before
adds_in_order users giver coupling [] before legal place point = record { whole = refl; late = λ side kind has. tt; gets = tt }
adds_in_order users giver coupling (e ∷ entries) before legal place point =
    let here : Entries = entries ++ before in
    let below = point_before users e here giver coupling (length before) legal place (omega (arith, length-append entries before)) point in
    let rest = adds_in_order users giver coupling entries before legal.1 place below.1 in
    let adds = adds_late users e here giver coupling legal below.1.moment in
    let added = added_by giver e here coupling in
    let so_far = added_in giver entries before coupling in
    let start = story_then giver before coupling in
    record {
      whole = story_grows giver e here coupling below.0 point.gives ∙ ap (λ (s : Story PlainArray). added ++ s) rest.whole ∙ sym (append_assoc added so_far start);
      late = λ side kind has.
          let parts = and_parts (has_element (control_then giver here coupling) (element_of side kind)) (has_throughout (element_of side kind) giver entries before coupling) has in
          late_more (control_then giver here coupling) (story_then giver here coupling) added so_far start adds rest.whole side kind parts.0 (rest.late side kind parts.1);
      gets = gets_more (control_then giver here coupling) (story_then giver here coupling) added so_far start adds rest.whole rest.gets;
    }

of_part : (users : List ℕ) (stretch : Stretch) → IsPart users stretch → AddsInOrder stretch.giver stretch.coupling stretch.entries stretch.before
of_part users stretch part = adds_in_order users stretch.giver stretch.coupling stretch.entries stretch.before part.legal part.place part.point

-- the story at the end of a stretch
pub stretches_add_to_the_story : (users : List ℕ) (journal : Entries) → IsLegal users journal → StretchesAddToTheStory journal
stretches_add_to_the_story users journal legal stretch within = (of_part users stretch (is_part users journal legal stretch within)).whole

-- stretches are where the coupling stands, or the giver's offer is open
pub stretches_stand_or_are_open : (users : List ℕ) (journal : Entries) → IsLegal users journal → StretchesStandOrAreOpen journal
stretches_stand_or_are_open users journal legal after later stretch same = (there, back)
  where
    before : Entries
    before = stretch.before

    whole : Entries
    whole = later ++ (stretch.entries ++ before)

    there : IsStretch later stretch → StandsOrIsOpenThroughout later stretch
    there is =
        let part = is_whole users journal legal after later stretch same is in
        record {
          stands = is.stands;
          giver = is.giver;
          throughout = λ newer older parts.
              let split : whole ≡ newer ++ (older ++ before) =
              sym (append_assoc later stretch.entries before) ∙ ap (λ (es : Entries). es ++ before) parts ∙ append_assoc newer older before in
              let point = points users newer (older ++ before) stretch.giver stretch.coupling (length before) (subst (IsLegal users) split part.legal) part.place
              (omega (arith, length-append older before)) (subst (Point stretch.giver stretch.coupling (length before)) split part.point) in
              stands_or_is_open stretch.giver stretch.coupling (older ++ before) point.moment;
        }

    back : StandsOrIsOpenThroughout later stretch → IsStretch later stretch
    back is =
        let split : (later ++ stretch.entries) ++ before ≡ whole = append_assoc later stretch.entries before in
        let legal_whole : IsLegal users whole = IsLegal-before users after whole (subst (IsLegal users) same legal) in
        record {
          stands = is.stands;
          giver = is.giver;
          opened = subst (λ (es : Entries). last_opening es (offer_on stretch.coupling stretch.giver) ≤ length before) split
              (opened_by_the_start users (later ++ stretch.entries) before stretch.giver stretch.coupling (subst (IsLegal users) (sym split) legal_whole) is.throughout);
        }

-- where control holds for a side, what remains of what it sends is in order
ordered : (users : List ℕ) (stretch : Stretch) → IsPart users stretch → (side : Side) → IsHeldFor side stretch → IsInOrder side (story_in stretch) (story_before stretch)
ordered users stretch part A held = let adds = of_part users stretch part in in_order A (story_in stretch) (story_before stretch) (adds.late A Set held.0) (adds.late B Use held.1) adds.gets
ordered users stretch part B held = let adds = of_part users stretch part in in_order B (story_in stretch) (story_before stretch) (adds.late B Set held.0) (adds.late A Use held.1) adds.gets

loses_nothing : (side : Side) (stretch : Stretch) → story_after stretch ≡ story_in stretch ++ story_before stretch → IsInOrder side (story_in stretch) (story_before stretch) → LosesNothing side stretch
loses_nothing side stretch whole h =
    let added = story_in stretch in
    let before = story_before stretch in
    let used : List PlainArray = used_by (other_side side) added in
    record {
      in_order = h ∙ ap (λ (s : Story PlainArray). unseen_value side s ++ used) (sym whole);
      by_number = λ k within. same_by_number (unseen_value side (added ++ before)) used (values_remaining side added before) k h within;
      one_more = one_more side added before h ∙ ap (λ (s : Story PlainArray). length used + cond (is_unseen side s) 1 0) (sym whole);
      all_sent = λ none. all_sent side added before h none ∙ ap (λ (s : Story PlainArray). unseen_value side s ++ used) (sym whole);
    }

-- what control gives
pub control_loses_nothing : (users : List ℕ) (journal : Entries) → IsLegal users journal → LosesNothingUnderControl journal
control_loses_nothing users journal legal stretch within side held =
    let part = is_part users journal legal stretch within in
    loses_nothing side stretch (of_part users stretch part).whole (ordered users stretch part side held)

pub feeds_lose_nothing : (users : List ℕ) (journal : Entries) → IsLegal users journal → FeedsLoseNothing journal
feeds_lose_nothing users journal legal stretch within side held feed =
    let part = is_part users journal legal stretch within in
    subst (IsUsedInOrder side) (sym (of_part users stretch part).whole)
    (feeds_in_order side (story_in stretch) (story_before stretch) feed.begun feed.one_way (ordered users stretch part side held))

-- nothing is unseen in a quiet story
quiet : (told : Story PlainArray) (side : Side) → state_of_story told ≡ Quiet → is_unseen side told ≡ false
quiet told A h = not-true (is_unseen A told) ((state_by_unseen told).of_neither.0 h).0
quiet told B h = not-true (is_unseen B told) ((state_by_unseen told).of_neither.0 h).1

pub requests_have_one_reply : (users : List ℕ) (journal : Entries) → IsLegal users journal → RequestsHaveOneReply journal
requests_have_one_reply users journal legal stretch within' held side exchange = both side exchange
  where
    added : Story PlainArray
    added = story_in stretch

    before : Story PlainArray
    before = story_before stretch

    adds : AddsInOrder stretch.giver stretch.coupling stretch.entries stretch.before
    adds = of_part users stretch (is_part users journal legal stretch within')

    at_end : (s : Side) → set_by s added ≡ unseen_value s (added ++ before) ++ used_by (other_side s) added → EachIsUsed s stretch
    at_end s h = record {
      in_order = h ∙ ap (λ (told : Story PlainArray). unseen_value s told ++ used_by (other_side s) added) (sym adds.whole);
      by_number = λ k within. same_by_number (unseen_value s (added ++ before)) (used_by (other_side s) added) (set_by s added) k h within;
    }

    both : (s : Side) → IsExchange s stretch → EachIsUsed s stretch × EachIsUsed (other_side s) stretch
    both A is =
        let used = each_is_used A added before (exchange_is_at A added before (quiet before A is.quiet) (quiet before B is.quiet) is.asks is.replies (adds.late A Use held.0) (adds.late B Use held.1) adds.gets) in
        (at_end A used.0, at_end B used.1)
    both B is =
        let used = each_is_used B added before (exchange_is_at B added before (quiet before B is.quiet) (quiet before A is.quiet) is.asks is.replies (adds.late A Use held.0) (adds.late B Use held.1) adds.gets) in
        (at_end B used.0, at_end A used.1)

-- a full vector has each element
record HasAll (vector : Control) : Type 0 where
  pub first : has_element vector 1 ≡ true
  pub second : has_element vector 2 ≡ true
  pub third : has_element vector 3 ≡ true
  pub fourth : has_element vector 4 ≡ true

has_all : (vector : Control) → is_full_vector vector ≡ true → HasAll vector
has_all vector h =
    let fourth = and_parts ((has_element vector 1 && has_element vector 2) && has_element vector 3) (has_element vector 4) h in
    let third = and_parts (has_element vector 1 && has_element vector 2) (has_element vector 3) fourth.0 in
    let second = and_parts (has_element vector 1) (has_element vector 2) third.0 in
    record { first = second.0; second = second.1; third = third.1; fourth = fourth.1 }

-- so has what it is combined with, on either side
combined_first : (a b : Control) → HasAll a → HasAll (combined a b)
combined_first a b all = record { first = or_left _ _ all.first; second = or_left _ _ all.second; third = or_left _ _ all.third; fourth = or_left _ _ all.fourth }

combined_second : (a b : Control) → HasAll b → HasAll (combined a b)
combined_second a b all = record { first = or_right _ _ all.second; second = or_right _ _ all.first; third = or_right _ _ all.fourth; fourth = or_right _ _ all.third }

-- and what is seen of it by either side
seen_all : (viewer : Side) (control : Control) → HasAll control → HasAll (in_view viewer control)
seen_all A control all = all
seen_all B control all = record { first = all.second; second = all.first; third = all.fourth; fourth = all.third }

-- a full vector makes the control in force full, if it is the giver's or the coupling is made
full_then : (users : List ℕ) (journal : Entries) (giver : Side) (coupling : Coupling) (full : Side) → IsLegal users journal → Moment giver coupling journal →
    (full ≡ giver) ⊎ (coupling.at ≤ length journal) → HasAll (vector_of journal (offer_on coupling full)) → HasAll (control_then giver journal coupling)
full_then users journal giver coupling full legal (stands made now) which all =
    subst HasAll (sym (joint_then users journal coupling giver legal now)) (seen_all giver (in_view giver joint) (seen_all giver joint (by full all)))
  where
    joint : Control
    joint = combined (vector_of journal coupling.a) (vector_of journal coupling.b)

    by : (side : Side) → HasAll (vector_of journal (offer_on coupling side)) → HasAll joint
    by A of_a = combined_first (vector_of journal coupling.a) (vector_of journal coupling.b) of_a
    by B of_b = combined_second (vector_of journal coupling.a) (vector_of journal coupling.b) of_b
full_then users journal giver coupling full legal (alone early has free) (inl same) all =
    let own = vector_of journal (offer_on coupling giver) in
    subst HasAll (sym (vector_then journal coupling giver (none_now journal (offer_on coupling giver).place free)))
    (seen_all giver (combined own no_control) (combined_first own no_control (subst (λ (s : Side). HasAll (vector_of journal (offer_on coupling s))) same all)))
full_then users journal giver coupling full legal (alone early has free) (inr made) all = absurd (omega (arith, early, made))

full_throughout : (users : List ℕ) (giver : Side) (coupling : Coupling) (full : Side) (entries before : Entries) → IsLegal users (entries ++ before) →
    (offer_on coupling giver).place ≤ length before → Point giver coupling (length before) (entries ++ before) → (full ≡ giver) ⊎ (coupling.at ≤ length before) →
    is_full_throughout (offer_on coupling full) entries before ≡ true → (element : ℕ) → ((control : Control) → HasAll control → has_element control element ≡ true) →
    has_throughout element giver entries before coupling ≡ true
full_throughout users giver coupling full [] before legal place point which is element has = refl
full_throughout users giver coupling full (e ∷ entries) before legal place point which is element has =
    let here : Entries = entries ++ before in
    let vector = vector_of here (offer_on coupling full) in
    let parts = and_parts (is_full_vector vector) (is_full_throughout (offer_on coupling full) entries before) is in
    let below = point_before users e here giver coupling (length before) legal place (omega (arith, length-append entries before)) point in
    and_from (has_element (control_then giver here coupling) element) (has_throughout element giver entries before coupling)
    (has (control_then giver here coupling) (full_then users here giver coupling full legal.1 below.1.moment (then' which) (has_all vector parts.0)))
    (full_throughout users giver coupling full entries before legal.1 place below.1 which parts.1 element has)
  where
    then' : (full ≡ giver) ⊎ (coupling.at ≤ length before) → (full ≡ giver) ⊎ (coupling.at ≤ length (entries ++ before))
    then' (inl same) = inl same
    then' (inr made) = inr (omega (arith, made, length-append entries before))

pub full_vectors_hold_for_both : (users : List ℕ) (journal : Entries) → IsLegal users journal → FullVectorsHoldForBoth journal
full_vectors_hold_for_both users journal legal stretch within full is which side = by side
  where
    part : IsPart users stretch
    part = is_part users journal legal stretch within

    throughout : (element : ℕ) → ((control : Control) → HasAll control → has_element control element ≡ true) → is_controlled element stretch ≡ true
    throughout = full_throughout users stretch.giver stretch.coupling full stretch.entries stretch.before part.legal part.place part.point which is

    by : (s : Side) → IsHeldFor s stretch
    by A = (throughout 1 (λ control all. all.first), throughout 4 (λ control all. all.fourth))
    by B = (throughout 2 (λ control all. all.second), throughout 3 (λ control all. all.third))

-- all that control gives
pub what_control_gives : (users : List ℕ) (journal : Entries) → IsLegal users journal → WhatControlGives journal
what_control_gives users journal legal = record {
  loses_nothing = control_loses_nothing users journal legal;
  feeds = feeds_lose_nothing users journal legal;
  requests = requests_have_one_reply users journal legal;
}
