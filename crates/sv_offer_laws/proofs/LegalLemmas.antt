-- What holds of every legal journal.
use Rattle.std.proofs.Common.{◌≡◌, refl, sym, ap, ◌∙◌, subst, ℕ, ◌+◌, ◌<◌, ◌≤◌, Bool, true, false, ◌&&◌, not, cond, eqb, List, [], ◌∷◌, ◌++◌, length, get_or, take, drop, map, inl, inr, arith}
use Rattle.std.specs.Prelude.{Contains, All, filter}
use Rattle.std.proofs.lemmas.Bool.{cases_Bool, and_parts, and_from, and_right, or_from, eq-eqb, eqb-true, ne_eqb}
use Rattle.std.proofs.lemmas.List.{append-nil}
use Rattle.std.proofs.lemmas.List.Elements.{All-nil, All-cons, All-append, All-filter, All-weaker, All-same, All-head, All-tail, All-contains, Contains-get_or, filter-append, Contains-push, Contains-append_left}
use Rattle.std.proofs.lemmas.List.Folds.{list_any_none, Any-from_list_any}
use Rattle.sv_events.specs.Entry.{PlainEntry, plain_entry}
use Rattle.sv_events.specs.declared.entry.Entry.{Entry}
use Rattle.sv_events.specs.declared.entry.Pair.{Pair}
use Rattle.sv_events.specs.declared.row.Ending.{Ending}
use Rattle.sv_rules.specs.declared.standing.Standing.{Standing}
use Rattle.sv_rules.specs.declared.coupling.Made.{Made}
use Rattle.sv_rules.specs.Entries.{Entries, next_place}
use Rattle.sv_rules.specs.Standing.{standing, offer_count, is_ended, without_ended}
use Rattle.sv_rules.specs.Coupling.{made_in, stands_at, both_stand, couplings, couplings_among, reopened_among, has_place, is_coupled, pair_of, made_by_ending}
use Rattle.sv_rules.specs.Journal.{journal_of}
use Rattle.sv_rules.specs.Legal.{IsLegal, MayFollow}
use Rattle.sv_offer_laws.specs.LegalLaws.{IsInOrder, made_at, HasMatchingOffers, EachEntryMayFollow}
use Rattle.sv_rules.proofs.JournalLemmas.{journal_of-take_more, journal_of-take}
use Rattle.sv_offer_laws.proofs.Members.{Contains-from_filter, count_by-filter, count_by-push, filter-filter, filter_same, filter_whole, list_any_member, list_any-filter, All-both}
use Rattle.sv_offer_laws.proofs.PlaceLemmas.{IsPlaceIn, places_within, places_ascend, same_by_place, All-standing_after, offered_place}
use Rattle.sv_offer_laws.proofs.MatchLemmas.{is_match_comm, match_places, pair_of_cases, open_match_is}
use Rattle.sv_offer_laws.proofs.ChangeLemmas.{Change, unchanged, alone, joined, ended, Change-by_entry}
use Rattle.sv_offer_laws.proofs.RecoupledLemmas.{IsMadeOf, uses_of, uses_of-push, recoupled_made, recoupled_once}

-- an offer of an earlier place that stands after an entry stood before it
pub stood_before : (e : PlainEntry) (journal : Entries) (offer : Standing) → offer.place ≤ length journal → Contains (standing (e ∷ journal)) offer → Contains (standing journal) offer
stood_before e journal offer early h =
    let P : Standing → Type 0 = λ (o : Standing). o.place ≤ length journal → Contains (standing journal) o in
    All-contains P (standing (e ∷ journal)) offer
    (All-standing_after P (standing journal) (next_place journal) e.party e.answer e.act
    (λ new offered early_new. absurd (let at = offered_place (next_place journal) e.party e.act new offered in omega arith))
    (λ k d within _. Contains-get_or (standing journal) k d within))
    h early

-- a pair of two offers that stand stands
made_stands : (offers : List Standing) (place : ℕ) (made : Made) → IsMadeOf offers place made → both_stand offers made.pair ≡ true
made_stands offers place made h =
    let at_one : stands_at offers h.one.place ≡ true = has offers h.one h.has_one in
    let at_other : stands_at offers h.other.place ≡ true = has offers h.other h.has_other in
    subst (λ (p : Pair). both_stand offers p ≡ true) (sym h.same_pair) (elim (pair_of_cases h.one h.other) [
      | inl c ↦ rw (c.1, c.2) (and_from _ _ at_one at_other)
      | inr c ↦ rw (c.1, c.2) (and_from _ _ at_other at_one)
    ])
  where
    has : (offers : List Standing) (offer : Standing) → Contains offers offer → stands_at offers offer.place ≡ true
    has offers offer h = list_any_member (λ o. eqb o.place offer.place) offers offer (eq-eqb offer.place offer.place refl) h

-- pairs that were made at a place, made at it again
made_again : (place : ℕ) (coupled : List Made) → All (λ made. made.at ≡ place) coupled → made_at place (map (λ one. one.pair) coupled) ≡ coupled
made_again place [] h = refl
made_again place (made ∷ coupled) h =
    let P : Made → Type 0 = λ (m : Made). m.at ≡ place in
    let same : record { pair = made.pair; at = place } ≡ made = ap (λ p. let m : Made = record { pair = made.pair; at = p } in m) (sym (All-head P made coupled h)) in
    rw (same, made_again place coupled (All-tail P made coupled h)) refl

ending_made : (offers : List Standing) (coupled : List Made) (place party : ℕ) (ending : Ending) → All (IsMadeOf (without_ended offers party ending) place) (made_by_ending place offers coupled party ending)
ending_made offers coupled place party ending =
    let remaining = without_ended offers party ending in
    let kept = couplings_among remaining coupled in
    recoupled_made remaining kept place (reopened_among remaining coupled kept) (λ o h. Contains-from_filter _ remaining o h)

pub ending_again : (offers : List Standing) (coupled : List Made) (place party : ℕ) (ending : Ending) →
    made_at place (map (λ one. one.pair) (made_by_ending place offers coupled party ending)) ≡ made_by_ending place offers coupled party ending
ending_again offers coupled place party ending =
    made_again place (made_by_ending place offers coupled party ending)
    (All-weaker (IsMadeOf (without_ended offers party ending) place) (λ m. m.at ≡ place) (λ m h. h.same_at) _ (ending_made offers coupled place party ending))

-- an entry makes pairs of matching offers that stand after it
made_by_change : (offers : List Standing) (coupled : List Made) (place : ℕ) (after : List Standing) (pairs : List Pair) → Change offers coupled place after pairs →
    All (IsMadeOf after place) (made_at place pairs)
made_by_change offers coupled place after pairs (unchanged same none) =
    subst (λ ps. All (IsMadeOf after place) (made_at place ps)) (sym none) (All-nil (IsMadeOf after place))
made_by_change offers coupled place after pairs (alone new at few same found none) =
    subst (λ ps. All (IsMadeOf after place) (made_at place ps)) (sym none) (All-nil (IsMadeOf after place))
made_by_change offers coupled place after pairs (joined new match at few same found pair) =
    let m = open_match_is offers coupled new match found in
    subst (λ ps. All (IsMadeOf after place) (made_at place ps)) (sym pair)
    (subst (λ os. All (IsMadeOf os place) (made_at place (pair_of match new ∷ []))) (sym same)
    (All-cons (IsMadeOf (offers ++ new ∷ []) place) _ [] (record {
      one = match;
      other = new;
      has_one = Contains-append_left offers (new ∷ []) match m.2;
      has_other = Contains-push offers new;
      matching = is_match_comm match new ∙ m.1;
      same_pair = refl;
      same_at = refl;
    }) (All-nil (IsMadeOf (offers ++ new ∷ []) place))))
made_by_change offers coupled place after pairs (ended party ending same made) =
    let remaining = without_ended offers party ending in
    subst (λ ps. All (IsMadeOf after place) (made_at place ps)) (sym made)
    (subst (λ os. All (IsMadeOf os place) (made_at place (map (λ one. one.pair) (made_by_ending place offers coupled party ending)))) (sym same)
    (All-same (IsMadeOf remaining place) _ (made_by_ending place offers coupled party ending)
    (ending_again offers coupled place party ending) (ending_made offers coupled place party ending)))

couplings_among_once : (offers : List Standing) (coupled : List Made) → ((p : ℕ) → uses_of p coupled ≤ 1) → (p : ℕ) → uses_of p (couplings_among offers coupled) ≤ 1
couplings_among_once offers coupled once p = omega (arith, count_by-filter (has_place p) (λ (made : Made). both_stand offers made.pair) coupled, once p)

none_added : (offers : List Standing) (coupled : List Made) (after : List Standing) → ((p : ℕ) → uses_of p coupled ≤ 1) → (p : ℕ) → uses_of p (couplings_among after coupled ++ []) ≤ 1
none_added offers coupled after once p = rw (append-nil (couplings_among after coupled)) (couplings_among_once after coupled once p)

-- and none of an offer that is coupled already
once_by_change : (offers : List Standing) (coupled : List Made) (place : ℕ) (after : List Standing) (pairs : List Pair) → Change offers coupled place after pairs →
    is_coupled coupled place ≡ false → ((p : ℕ) → uses_of p coupled ≤ 1) → (p : ℕ) → uses_of p (couplings_among after coupled ++ made_at place pairs) ≤ 1
once_by_change offers coupled place after pairs (unchanged same none) fresh once p =
    subst (λ ps. uses_of p (couplings_among after coupled ++ made_at place ps) ≤ 1) (sym none) (none_added offers coupled after once p)
once_by_change offers coupled place after pairs (alone new at few same found none) fresh once p =
    subst (λ ps. uses_of p (couplings_among after coupled ++ made_at place ps) ≤ 1) (sym none) (none_added offers coupled after once p)
once_by_change offers coupled place after pairs (joined new match at few same found pair) fresh once p =
    let m = open_match_is offers coupled new match found in
    let stands : Made → Bool = λ (made : Made). both_stand after made.pair in
    subst (λ ps. uses_of p (couplings_among after coupled ++ made_at place ps) ≤ 1) (sym pair)
    (uses_of-push (couplings_among after coupled) place match new (list_any-filter (has_place match.place) stands coupled m.0)
    (list_any-filter (has_place new.place) stands coupled (subst (λ n. is_coupled coupled n ≡ false) (sym at) fresh))
    (couplings_among_once after coupled once) p)
once_by_change offers coupled place after pairs (ended party ending same made) fresh once p =
    let remaining = without_ended offers party ending in
    let kept = couplings_among remaining coupled in
    subst (λ ps. uses_of p (couplings_among after coupled ++ made_at place ps) ≤ 1) (sym made)
    (subst (λ os. uses_of p (couplings_among os coupled ++ made_at place (map (λ one. one.pair) (made_by_ending place offers coupled party ending))) ≤ 1) (sym same)
    (rw (ending_again offers coupled place party ending)
    (recoupled_once remaining kept place (reopened_among remaining coupled kept) (couplings_among_once remaining coupled once) p)))

one_more : (offers : List Standing) (new : Standing) → ((party : ℕ) → offer_count offers party ≤ 64) → offer_count offers new.party < 64 → (party : ℕ) → offer_count (offers ++ new ∷ []) party ≤ 64
one_more offers new limit few party =
    let count = count_by-push (λ (o : Standing). eqb o.party party) offers new in
    elim (cases_Bool (eqb new.party party)) [
      | inl own ↦
          let few_own : offer_count offers party < 64 = subst (λ p. offer_count offers p < 64) (eqb-true _ _ own) few in
          let added : offer_count (offers ++ new ∷ []) party ≡ offer_count offers party + 1 = count ∙ ap (λ b. offer_count offers party + cond b 1 0) own in omega arith
      | inr others ↦
          let kept : offer_count (offers ++ new ∷ []) party ≡ offer_count offers party + 0 = count ∙ ap (λ b. offer_count offers party + cond b 1 0) others in
          omega (arith, limit party)
    ]

-- a party has no more than 64 offers after an entry, where it had no more before
limit_by_change : (offers : List Standing) (coupled : List Made) (place : ℕ) (after : List Standing) (pairs : List Pair) → Change offers coupled place after pairs →
    ((party : ℕ) → offer_count offers party ≤ 64) → (party : ℕ) → offer_count after party ≤ 64
limit_by_change offers coupled place after pairs (unchanged same none) limit party = subst (λ os. offer_count os party ≤ 64) (sym same) (limit party)
limit_by_change offers coupled place after pairs (alone new at few same found none) limit party = subst (λ os. offer_count os party ≤ 64) (sym same) (one_more offers new limit few party)
limit_by_change offers coupled place after pairs (joined new match at few same found pair) limit party = subst (λ os. offer_count os party ≤ 64) (sym same) (one_more offers new limit few party)
limit_by_change offers coupled place after pairs (ended other ending same made) limit party =
    subst (λ os. offer_count os party ≤ 64) (sym same)
    (omega (arith, count_by-filter (λ (o : Standing). eqb o.party party) (λ (o : Standing). not (is_ended other ending o)) offers, limit party))

-- the pairs made so far, and one entry's more
in_order_by : (e : PlainEntry) (journal : Entries) (made : Made) → IsMadeOf (standing (e ∷ journal)) (next_place journal) made → IsInOrder (length (e ∷ journal)) made
in_order_by e journal made h =
    let offers = standing (e ∷ journal) in
    let P : Standing → Type 0 = IsPlaceIn (length (e ∷ journal)) in
    let one_in = All-contains P offers h.one (places_within (e ∷ journal)) h.has_one in
    let other_in = All-contains P offers h.other (places_within (e ∷ journal)) h.has_other in
    let at = h.same_at in
    let apart : h.one.place ≡ h.other.place → ⊥ = match_places offers h.one h.other (places_ascend (e ∷ journal)) h.has_one h.has_other h.matching in
    let a : made.pair.a ≡ (pair_of h.one h.other).a = ap (λ (p : Pair). p.a) h.same_pair in
    let b : made.pair.b ≡ (pair_of h.one h.other).b = ap (λ (p : Pair). p.b) h.same_pair in
    elim (pair_of_cases h.one h.other) [
      | inl c ↦ record { some = omega arith; lower = omega arith; made_then = omega arith; within = omega arith }
      | inr c ↦ record { some = omega arith; lower = omega arith; made_then = omega arith; within = omega arith }
    ]

matching_by : (e : PlainEntry) (journal : Entries) (made : Made) → IsMadeOf (standing (e ∷ journal)) (next_place journal) made → HasMatchingOffers (standing (e ∷ journal)) made
matching_by e journal made h = λ x y has_x has_y at_x at_y.
    let same = same_by_place (standing (e ∷ journal)) in
    let ascend = places_ascend (e ∷ journal) in
    let a : made.pair.a ≡ (pair_of h.one h.other).a = ap (λ (p : Pair). p.a) h.same_pair in
    let b : made.pair.b ≡ (pair_of h.one h.other).b = ap (λ (p : Pair). p.b) h.same_pair in
    elim (pair_of_cases h.one h.other) [
      | inl c ↦
          let is_x : x ≡ h.one = same x h.one ascend has_x h.has_one (at_x ∙ a ∙ c.1) in
          let is_y : y ≡ h.other = same y h.other ascend has_y h.has_other (at_y ∙ b ∙ c.2) in
          rw (is_x, is_y) h.matching
      | inr c ↦
          let is_x : x ≡ h.other = same x h.other ascend has_x h.has_other (at_x ∙ a ∙ c.1) in
          let is_y : y ≡ h.one = same y h.one ascend has_y h.has_one (at_y ∙ b ∙ c.2) in
          rw (is_x, is_y) (is_match_comm h.other h.one ∙ h.matching)
    ]

-- an earlier place at which an offer stands after an entry had one before it
place_stood_before : (e : PlainEntry) (journal : Entries) (place : ℕ) → place ≤ length journal → stands_at (standing (e ∷ journal)) place ≡ true → stands_at (standing journal) place ≡ true
place_stood_before e journal place early h =
    let here : Standing → Bool = λ (o : Standing). eqb o.place place in
    let found = Any-from_list_any here (standing (e ∷ journal)) h in
    let at : found.1.place ≡ place = eqb-true found.1.place place found.4 in
    list_any_member here (standing journal) found.1 found.4 (stood_before e journal found.1 (omega arith) (found.0, found.2, found.3))

stood_before_both : (e : PlainEntry) (journal : Entries) (made : Made) → IsInOrder (length journal) made →
    both_stand (standing (e ∷ journal)) made.pair ≡ (both_stand (standing journal) made.pair && both_stand (standing (e ∷ journal)) made.pair)
stood_before_both e journal made order = elim (cases_Bool (both_stand (standing (e ∷ journal)) made.pair)) [
  | inl stands ↦
      let parts = and_parts (stands_at (standing (e ∷ journal)) made.pair.a) (stands_at (standing (e ∷ journal)) made.pair.b) stands in
      let early_b : made.pair.b ≤ length journal = omega (arith, order.made_then, order.within) in
      let early_a : made.pair.a ≤ length journal = omega (arith, order.lower, early_b) in
      stands ∙ sym (and_from _ _ (and_from _ _ (place_stood_before e journal made.pair.a early_a parts.0) (place_stood_before e journal made.pair.b early_b parts.1)) stands)
  | inr ceases ↦ ceases ∙ sym (and_right _ _ ceases)
]

-- the couplings after an entry, where the earlier pairs are in order
couplings_more : (e : PlainEntry) (journal : Entries) → All (IsInOrder (length journal)) (made_in journal) → All (IsMadeOf (standing (e ∷ journal)) (next_place journal)) (made_at (next_place journal) e.made) →
    couplings (e ∷ journal) ≡ couplings_among (standing (e ∷ journal)) (couplings journal) ++ made_at (next_place journal) e.made
couplings_more e journal order made =
    let after = standing (e ∷ journal) in
    let added = made_at (next_place journal) e.made in
    let stands : Made → Bool = λ (m : Made). both_stand after m.pair in
    let stood : Made → Bool = λ (m : Made). both_stand (standing journal) m.pair in
    let both : filter stands (made_in journal ++ added) ≡ filter stands (made_in journal) ++ filter stands added = filter-append stands (made_in journal) added in
    let whole : filter stands added ≡ added = filter_whole stands added (All-weaker (IsMadeOf after (next_place journal)) (λ m. stands m ≡ true) (made_stands after (next_place journal)) added made) in
    let old : filter stands (made_in journal) ≡ filter (λ m. stood m && stands m) (made_in journal) =
    filter_same stands (λ m. stood m && stands m) (made_in journal)
    (All-weaker (IsInOrder (length journal)) (λ m. stands m ≡ (stood m && stands m)) (stood_before_both e journal) (made_in journal) order) in
    both ∙ ap (λ ms. filter stands (made_in journal) ++ ms) whole ∙ ap (λ ms. ms ++ added) (old ∙ sym (filter-filter stands stood (made_in journal)))

-- what a legal journal keeps
pub record IsSound (journal : Entries) : Type 0 where
  pub few : (party : ℕ) → offer_count (standing journal) party ≤ 64
  pub order : All (IsInOrder (length journal)) (made_in journal)
  pub once : (place : ℕ) → uses_of place (couplings journal) ≤ 1
  pub matching : All (HasMatchingOffers (standing journal)) (couplings journal)

order_later : (e : PlainEntry) (journal : Entries) (coupled : List Made) → All (IsInOrder (length journal)) coupled → All (IsInOrder (length (e ∷ journal))) coupled
order_later e journal coupled h =
    All-weaker (IsInOrder (length journal)) (IsInOrder (length (e ∷ journal)))
    (λ m order. record { some = order.some; lower = order.lower; made_then = order.made_then; within = omega (arith, order.within) }) coupled h

pub order_of_couplings : (journal : Entries) → All (IsInOrder (length journal)) (made_in journal) → All (IsInOrder (length journal)) (couplings journal)
order_of_couplings journal h = All-filter (λ (m : Made). both_stand (standing journal) m.pair) (IsInOrder (length journal)) (made_in journal) h

-- no coupling has the next place
next_is_open : (journal : Entries) → All (IsInOrder (length journal)) (made_in journal) → is_coupled (couplings journal) (next_place journal) ≡ false
next_is_open journal order =
    list_any_none (has_place (next_place journal)) (couplings journal)
    (All-weaker (IsInOrder (length journal)) (λ m. has_place (next_place journal) m ≡ false)
    (λ m order. or_from _ _
    (ne_eqb m.pair.a (next_place journal) (λ same. omega (arith, order.lower, order.made_then, order.within, same)))
    (ne_eqb m.pair.b (next_place journal) (λ same. omega (arith, order.made_then, order.within, same))))
    (couplings journal) (order_of_couplings journal order))

matching_later : (e : PlainEntry) (journal : Entries) → IsSound journal → All (HasMatchingOffers (standing (e ∷ journal))) (couplings_among (standing (e ∷ journal)) (couplings journal))
matching_later e journal sound =
    let after = standing (e ∷ journal) in
    All-filter (λ (m : Made). both_stand after m.pair) (HasMatchingOffers after) (couplings journal)
    (All-weaker (λ m. HasMatchingOffers (standing journal) m × IsInOrder (length journal) m) (HasMatchingOffers after)
    (λ m h a b has_a has_b at_a at_b.
    h.0 a b (stood_before e journal a (omega (arith, h.1.lower, h.1.made_then, h.1.within, at_a)) has_a)
    (stood_before e journal b (omega (arith, h.1.made_then, h.1.within, at_b)) has_b) at_a at_b)
    (couplings journal)
    (All-both (HasMatchingOffers (standing journal)) (IsInOrder (length journal)) (couplings journal) sound.matching (order_of_couplings journal sound.order)))

sound_more : (users : List ℕ) (e : PlainEntry) (journal : Entries) → MayFollow users journal e → IsSound journal → IsSound (e ∷ journal)
sound_more users e journal may sound =
    let after = standing (e ∷ journal) in
    let added = made_at (next_place journal) e.made in
    let kept = couplings_among after (couplings journal) in
    let change = Change-by_entry users journal e may in
    let made = made_by_change (standing journal) (couplings journal) (next_place journal) after e.made change in
    let go_on = couplings_more e journal sound.order made in
    record {
      few = limit_by_change (standing journal) (couplings journal) (next_place journal) after e.made change sound.few;
      order = All-append (IsInOrder (length (e ∷ journal))) (made_in journal) added (order_later e journal (made_in journal) sound.order)
          (All-weaker (IsMadeOf after (next_place journal)) (IsInOrder (length (e ∷ journal))) (in_order_by e journal) added made);
      once = λ place. subst (λ ms. uses_of place ms ≤ 1) (sym go_on)
          (once_by_change (standing journal) (couplings journal) (next_place journal) after e.made change (next_is_open journal sound.order) sound.once place);
      matching = All-same (HasMatchingOffers after) (couplings (e ∷ journal)) (kept ++ added) go_on
          (All-append (HasMatchingOffers after) kept added (matching_later e journal sound)
          (All-weaker (IsMadeOf after (next_place journal)) (HasMatchingOffers after) (matching_by e journal) added made));
    }

pub IsSound-from_legal : (users : List ℕ) (journal : Entries) → IsLegal users journal → IsSound journal
IsSound-from_legal users [] h = record {
  few = λ party. omega arith;
  order = All-nil (IsInOrder 0);
  once = λ place. omega arith;
  matching = All-nil (HasMatchingOffers []);
}
IsSound-from_legal users (e ∷ journal) h = sound_more users e journal h.0 (IsSound-from_legal users journal h.1)

pub couplings_go_on : (users : List ℕ) (journal : Entries) (e : PlainEntry) → IsLegal users (e ∷ journal) →
    couplings (e ∷ journal) ≡ couplings_among (standing (e ∷ journal)) (couplings journal) ++ made_at (next_place journal) e.made
couplings_go_on users journal e h =
    couplings_more e journal (IsSound-from_legal users journal h.1).order
    (made_by_change (standing journal) (couplings journal) (next_place journal) (standing (e ∷ journal)) e.made (Change-by_entry users journal e h.0))

-- each entry of a legal journal may follow those before it
pub MayFollow-from_legal : (users : List ℕ) (later : Entries) (e : PlainEntry) (before : Entries) → IsLegal users (later ++ e ∷ before) → MayFollow users before e
MayFollow-from_legal users [] e before h = h.0
MayFollow-from_legal users (l ∷ later) e before h = MayFollow-from_legal users later e before h.1

pub IsLegal-from_entries : (users : List ℕ) (journal : Entries) → EachEntryMayFollow users journal → IsLegal users journal
IsLegal-from_entries users [] h = tt
IsLegal-from_entries users (e ∷ journal) h =
    (h journal e [] refl, IsLegal-from_entries users journal (λ before f later same. h before f (e ∷ later) (ap (λ rest. e ∷ rest) same)))

-- what comes before in a legal journal is legal
pub IsLegal-before : (users : List ℕ) (later before : Entries) → IsLegal users (later ++ before) → IsLegal users before
IsLegal-before users [] before h = h
IsLegal-before users (e ∷ later) before h = IsLegal-before users later before h.1

-- each of the entries of a legal journal may follow those before it
pub MayFollow-from_take : (users : List ℕ) (entries : List Entry) (i : ℕ) (e : Entry) → i < length entries → e ≡ get_or entries i e → IsLegal users (journal_of entries) →
    MayFollow users (journal_of (take i entries)) (plain_entry e)
MayFollow-from_take users entries i e within here h =
    subst (λ f. MayFollow users (journal_of (take i entries)) (plain_entry f)) (sym here)
    (subst (IsLegal users) (journal_of-take_more entries i e within)
    (IsLegal-before users (journal_of (drop (i + 1) entries)) (journal_of (take (i + 1) entries))
    (subst (IsLegal users) (journal_of-take entries (i + 1)) h))).0
