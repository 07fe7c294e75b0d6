-- In a legal journal no two open offers match, and what its leaves and retractions make.
use Rattle.std.proofs.Common.{◌≡◌, refl, sym, ap, ◌∙◌, subst, ℕ, ◌+◌, ◌≤◌, Bool, true, false, ◌&&◌, not, eqb, List, [], ◌∷◌, ◌++◌, length, map, Option, Some, None, inl, inr, arith}
use Rattle.std.specs.Prelude.{Contains, All, AllPairs, filter, count_by}
use Rattle.std.proofs.lemmas.Bool.{cases_Bool, and_parts, and_from, not-true, not_from_false, both_ways, or_left}
use Rattle.std.proofs.lemmas.List.{append-nil}
use Rattle.std.proofs.lemmas.List.Elements.{Contains-push_cases, All-weaker, filter_passes}
use Rattle.std.proofs.lemmas.List.Kept.{AllPairs-filter}
use Rattle.sv_events.specs.Entry.{PlainEntry}
use Rattle.sv_events.specs.declared.entry.Pair.{Pair}
use Rattle.sv_events.specs.Row.{act_row}
use Rattle.sv_events.specs.declared.row.Ending.{Ending}
use Rattle.sv_events.specs.declared.row.Ending.TheVariants.{One, All as AllOffers}
use Rattle.sv_rules.specs.declared.standing.Standing.{Standing}
use Rattle.sv_rules.specs.declared.coupling.Made.{Made}
use Rattle.sv_rules.specs.Entries.{Entries, next_place, kind_of}
use Rattle.sv_rules.specs.Standing.{standing, own_offer, is_own, is_ended, without_ended, is_match}
use Rattle.sv_rules.specs.Coupling.{made_in, stands_at, both_stand, couplings, couplings_among, has_place, is_coupled, is_open_match, open_match, pair_of, recoupled, reopened_by_leave, kept_by_ending, reopened_by_ending, made_by_ending}
use Rattle.sv_rules.specs.Outcome.{ActOutcome, ending_outcome, retraction_outcome, pairs_by_ending}
use Rattle.sv_rules.specs.Legal.{IsLegal, MayFollow}
use Rattle.sv_offer_laws.specs.LegalLaws.{made_at}
use Rattle.sv_offer_laws.specs.EndingLaws.{IsOpen, CouldCouple, NoneMatch, IsNextPair, couplings_then}
use Rattle.sv_offer_laws.proofs.Members.{Contains-filter, Contains-from_filter, filter_whole}
use Rattle.sv_offer_laws.proofs.PlaceLemmas.{ComesBefore, places_ascend}
use Rattle.sv_offer_laws.proofs.MatchLemmas.{is_match_comm, match_apart}
use Rattle.sv_offer_laws.proofs.CouplingLemmas.{none_is_taken_of_none}
use Rattle.sv_offer_laws.proofs.ChangeLemmas.{Change, unchanged, alone, joined, ended, Change-by_entry, none_ends}
use Rattle.sv_offer_laws.proofs.LegalLemmas.{IsSound-from_legal, ending_again, couplings_go_on}
use Rattle.sv_offer_laws.proofs.FewLemmas.{reopened_few, reopened_no_more, one_passes}
use Rattle.sv_offer_laws.proofs.OwnLemmas.{own_is_one}
use Rattle.sv_offer_laws.proofs.RowLemmas.{outcome_of_ending, standing_ended}
use Rattle.sv_offer_laws.proofs.OpenLemmas.{any-append_left, any-append_right, open_among, has_place-other, recoupled_closes, next_pairs}

-- the couplings among more offers are the same
pub couplings_whole : (offers more : List Standing) (coupled : List Made) → All (λ m. both_stand offers m.pair ≡ true) coupled → couplings_among (offers ++ more) coupled ≡ coupled
couplings_whole offers more coupled all =
    filter_whole (λ m. both_stand (offers ++ more) m.pair) coupled
    (All-weaker (λ m. both_stand offers m.pair ≡ true) (λ m. both_stand (offers ++ more) m.pair ≡ true)
    (λ m h.
    let parts = and_parts (stands_at offers m.pair.a) (stands_at offers m.pair.b) h in
    and_from _ _ (any-append_left (λ o. eqb o.place m.pair.a) offers more parts.0) (any-append_left (λ o. eqb o.place m.pair.b) offers more parts.1))
    coupled all)

same_couplings : (offers : List Standing) (coupled : List Made) → All (λ m. both_stand offers m.pair ≡ true) coupled → couplings_among offers coupled ≡ coupled
same_couplings offers coupled all = filter_whole (λ m. both_stand offers m.pair) coupled all

-- where a new offer has no open match, none match after it
none_match_alone : (offers : List Standing) (coupled : List Made) (new : Standing) → open_match offers coupled new ≡ None → NoneMatch offers coupled → NoneMatch (offers ++ new ∷ []) coupled
none_match_alone offers coupled new found before one other has_one has_other open_one open_other matching =
    elim (Contains-push_cases offers new one has_one) [
      | inl old_one ↦ elim (Contains-push_cases offers new other has_other) [
        | inl old_other ↦ before one other old_one old_other open_one open_other matching
        | inr new_other ↦
            none_is_taken_of_none (is_open_match coupled new) offers one found old_one
            (and_from _ _ open_one (is_match_comm new one ∙ subst (λ o. is_match one o ≡ true) (sym new_other) matching))
      ]
      | inr new_one ↦ elim (Contains-push_cases offers new other has_other) [
        | inl old_other ↦
            none_is_taken_of_none (is_open_match coupled new) offers other found old_other
            (and_from _ _ open_other (subst (λ o. is_match o other ≡ true) (sym new_one) matching))
        | inr new_other ↦ match_apart one other matching (ap (λ (o : Standing). o.party) (sym new_one ∙ new_other))
      ]
    ]

-- where it is coupled, none match after it
none_match_joined : (offers : List Standing) (coupled : List Made) (new match : Standing) (at : ℕ) → NoneMatch offers coupled → NoneMatch (offers ++ new ∷ []) (coupled ++ (record { pair = pair_of match new; at = at }) ∷ [])
none_match_joined offers coupled new match at before one other has_one has_other open_one open_other matching =
    elim (Contains-push_cases offers new one has_one) [
      | inr new_one ↦ taken one new_one open_one
      | inl old_one ↦ elim (Contains-push_cases offers new other has_other) [
        | inr new_other ↦ taken other new_other open_other
        | inl old_other ↦ before one other old_one old_other (still one open_one) (still other open_other) matching
      ]
    ]
  where
    made : Made
    made = record { pair = pair_of match new; at = at }

    taken : (o : Standing) → new ≡ o → IsOpen (coupled ++ made ∷ []) o → ⊥
    taken o same free =
        both_ways (is_coupled (coupled ++ made ∷ []) o.place) (not-true _ free)
        (subst (λ (x : Standing). is_coupled (coupled ++ made ∷ []) x.place ≡ true) same
        (any-append_right (has_place new.place) coupled (made ∷ []) (or_left (has_place new.place made) false (has_place-other match new at))))

    still : (o : Standing) → IsOpen (coupled ++ made ∷ []) o → IsOpen coupled o
    still o free = not_from_false _ (open_among coupled (made ∷ []) o.place (not-true _ free))

-- after an ending none match, where none matched before
none_match_ended : (at : ℕ) (offers : List Standing) (coupled : List Made) (party : ℕ) (ending : Ending) → NoneMatch offers coupled →
    NoneMatch (without_ended offers party ending) (kept_by_ending offers coupled party ending ++ made_by_ending at offers coupled party ending)
none_match_ended at offers coupled party ending before one other has_one has_other open_one open_other matching =
    elim (cases_Bool (is_coupled coupled one.place)) [
      | inl was_one ↦
          recoupled_closes at remaining kept (reopened_by_ending offers coupled party ending) one other (reopens one has_one was_one open_one) has_other (not-true _ open_one) (not-true _ open_other) matching
      | inr was_open ↦ elim (cases_Bool (is_coupled coupled other.place)) [
        | inl was_other ↦
            recoupled_closes at remaining kept (reopened_by_ending offers coupled party ending) other one (reopens other has_other was_other open_other) has_one (not-true _ open_other) (not-true _ open_one) (is_match_comm other one ∙ matching)
        | inr also_open ↦
            before one other (Contains-from_filter _ offers one has_one) (Contains-from_filter _ offers other has_other) (not_from_false _ was_open) (not_from_false _ also_open) matching
      ]
    ]
  where
    remaining : List Standing
    remaining = without_ended offers party ending

    kept : List Made
    kept = kept_by_ending offers coupled party ending

    reopens : (o : Standing) → Contains remaining o → is_coupled coupled o.place ≡ true → IsOpen (kept ++ made_by_ending at offers coupled party ending) o → Contains (reopened_by_ending offers coupled party ending) o
    reopens o has was free =
        Contains-filter (λ (x : Standing). is_coupled coupled x.place && not (is_coupled kept x.place)) remaining o
        (and_from _ _ was (not_from_false _ (open_among kept (made_by_ending at offers coupled party ending) o.place (not-true _ free)))) has

none_match_by : (offers : List Standing) (coupled : List Made) (place : ℕ) (after : List Standing) (pairs : List Pair) → Change offers coupled place after pairs → All (λ m. both_stand offers m.pair ≡ true) coupled →
    NoneMatch offers coupled → NoneMatch after (couplings_among after coupled ++ made_at place pairs)
none_match_by offers coupled place after pairs (unchanged same none) all before =
    subst (λ os. NoneMatch os (couplings_among os coupled ++ made_at place pairs)) (sym same)
    (subst (λ ps. NoneMatch offers (couplings_among offers coupled ++ made_at place ps)) (sym none)
    (subst (NoneMatch offers) (sym (append-nil (couplings_among offers coupled) ∙ same_couplings offers coupled all)) before))
none_match_by offers coupled place after pairs (alone new at few same found none) all before =
    subst (λ os. NoneMatch os (couplings_among os coupled ++ made_at place pairs)) (sym same)
    (subst (λ ps. NoneMatch (offers ++ new ∷ []) (couplings_among (offers ++ new ∷ []) coupled ++ made_at place ps)) (sym none)
    (subst (NoneMatch (offers ++ new ∷ [])) (sym (append-nil (couplings_among (offers ++ new ∷ []) coupled) ∙ couplings_whole offers (new ∷ []) coupled all))
    (none_match_alone offers coupled new found before)))
none_match_by offers coupled place after pairs (joined new match at few same found pair) all before =
    subst (λ os. NoneMatch os (couplings_among os coupled ++ made_at place pairs)) (sym same)
    (subst (λ ps. NoneMatch (offers ++ new ∷ []) (couplings_among (offers ++ new ∷ []) coupled ++ made_at place ps)) (sym pair)
    (subst (λ ms. NoneMatch (offers ++ new ∷ []) (ms ++ made_at place (pair_of match new ∷ []))) (sym (couplings_whole offers (new ∷ []) coupled all))
    (none_match_joined offers coupled new match place before)))
none_match_by offers coupled place after pairs (ended party ending same made) all before =
    subst (λ os. NoneMatch os (couplings_among os coupled ++ made_at place pairs)) (sym same)
    (subst (λ ps. NoneMatch (without_ended offers party ending) (kept_by_ending offers coupled party ending ++ made_at place ps)) (sym made)
    (subst (λ ms. NoneMatch (without_ended offers party ending) (kept_by_ending offers coupled party ending ++ ms)) (sym (ending_again offers coupled place party ending))
    (none_match_ended place offers coupled party ending before)))

pub none_match : (users : List ℕ) (journal : Entries) → IsLegal users journal → NoneMatch (standing journal) (couplings journal)
none_match users [] legal = λ one other has. absurd (omega (arith, has.1))
none_match users (e ∷ journal) legal =
    subst (NoneMatch (standing (e ∷ journal))) (sym (couplings_go_on users journal e legal))
    (none_match_by (standing journal) (couplings journal) (next_place journal) (standing (e ∷ journal)) e.made (Change-by_entry users journal e legal.0)
    (filter_passes (λ (m : Made). both_stand (standing journal) m.pair) (made_in journal)) (none_match users journal legal.1))

pub couplings_stand : (journal : Entries) → All (λ m. both_stand (standing journal) m.pair ≡ true) (couplings journal)
couplings_stand journal = filter_passes (λ (m : Made). both_stand (standing journal) m.pair) (made_in journal)

-- a retraction of a name that is not offered makes nothing
none_made : (journal : Entries) (party : ℕ) (local : List ℕ) → own_offer (standing journal) party local ≡ None → pairs_by_ending journal party (One local) ≡ []
none_made journal party local none =
    let offers = standing journal in
    let coupled = couplings journal in
    let all = couplings_stand journal in
    let left : without_ended offers party (One local) ≡ offers = none_ends offers party local none in
    let kept : kept_by_ending offers coupled party (One local) ≡ coupled = ap (λ os. couplings_among os coupled) left ∙ same_couplings offers coupled all in
    let reopened : reopened_by_ending offers coupled party (One local) ≡ [] =
    filter_none (λ o. is_coupled coupled o.place && not (is_coupled (kept_by_ending offers coupled party (One local)) o.place)) (without_ended offers party (One local))
    (λ o. ap (λ ms. is_coupled coupled o.place && not (is_coupled ms o.place)) kept ∙ and_not (is_coupled coupled o.place)) in
    ap (λ os. map (λ (m : Made). m.pair) (recoupled (next_place journal) (without_ended offers party (One local)) (kept_by_ending offers coupled party (One local)) os)) reopened
  where
    and_not : (b : Bool) → (b && not b) ≡ false
    and_not true = refl
    and_not false = refl

    filter_none : (p : Standing → Bool) (offers : List Standing) → ((o : Standing) → p o ≡ false) → filter p offers ≡ []
    filter_none p [] fails = refl
    filter_none p (o ∷ offers) fails = rw (fails o) (filter_none p offers fails)

-- what becomes of an ending is what its offers make
pub pairs_of_ending : (journal : Entries) (party : ℕ) (ending : Ending) → (ending_outcome journal party ending).made ≡ pairs_by_ending journal party ending
pairs_of_ending journal party AllOffers = refl
pairs_of_ending journal party (One local) = by (own_offer (standing journal) party local) refl
  where
    by : (own : Option Standing) → own_offer (standing journal) party local ≡ own → (retraction_outcome journal party local own).made ≡ pairs_by_ending journal party (One local)
    by None is = sym (none_made journal party local is)
    by (Some offer) is = refl

-- what may follow by an ending makes what the ending makes
pub made_of_ending : (users : List ℕ) (journal : Entries) (e : PlainEntry) (ending : Ending) → MayFollow users journal e → (act_row e.act).row.ends ≡ Some ending →
    e.made ≡ map (λ one. one.pair) (made_by_ending (next_place journal) (standing journal) (couplings journal) e.party ending)
made_of_ending users journal e ending may ends =
    may.made ∙ ap (λ (o : ActOutcome). o.made) (outcome_of_ending journal e.party e.act ending ends) ∙ pairs_of_ending journal e.party ending

pub standing_left : (journal : Entries) (e : PlainEntry) (ending : Ending) → (act_row e.act).row.ends ≡ Some ending → standing (e ∷ journal) ≡ without_ended (standing journal) e.party ending
standing_left journal e ending ends = standing_ended (standing journal) (next_place journal) e.party (kind_of e.answer) e.act ending ends

left_ascends : (journal : Entries) (party : ℕ) (ending : Ending) → AllPairs ComesBefore (without_ended (standing journal) party ending)
left_ascends journal party ending = AllPairs-filter ComesBefore (λ (o : Standing). not (is_ended party ending o)) (standing journal) (places_ascend journal)

reopened_ascend : (journal : Entries) (party : ℕ) (ending : Ending) → AllPairs ComesBefore (reopened_by_ending (standing journal) (couplings journal) party ending)
reopened_ascend journal party ending =
    AllPairs-filter ComesBefore (λ (o : Standing). is_coupled (couplings journal) o.place && not (is_coupled (kept_by_ending (standing journal) (couplings journal) party ending) o.place))
    (without_ended (standing journal) party ending) (left_ascends journal party ending)

pub endings_make_next_pairs : (users : List ℕ) (journal : Entries) (e : PlainEntry) (ending : Ending) → IsLegal users (e ∷ journal) → (act_row e.act).row.ends ≡ Some ending →
    (so_far : List Pair) (pair : Pair) (later : List Pair) → e.made ≡ so_far ++ pair ∷ later →
    IsNextPair (without_ended (standing journal) e.party ending) (reopened_by_ending (standing journal) (couplings journal) e.party ending) (couplings_then journal e.party ending so_far) pair
endings_make_next_pairs users journal e ending legal ends so_far pair later h =
    let left = without_ended (standing journal) e.party ending in
    let reopened = reopened_by_ending (standing journal) (couplings journal) e.party ending in
    next_pairs (next_place journal) left reopened (kept_by_ending (standing journal) (couplings journal) e.party ending) reopened
    (left_ascends journal e.party ending) (reopened_ascend journal e.party ending) (λ o has. has) (λ o has. inr has) so_far pair later
    (sym (made_of_ending users journal e ending legal.0 ends) ∙ h)

pub endings_leave_none_open : (users : List ℕ) (journal : Entries) (e : PlainEntry) (ending : Ending) → IsLegal users (e ∷ journal) → (act_row e.act).row.ends ≡ Some ending →
    (offer : Standing) → Contains (reopened_by_ending (standing journal) (couplings journal) e.party ending) offer →
    CouldCouple (standing (e ∷ journal)) (couplings (e ∷ journal)) offer → ⊥
endings_leave_none_open users journal e ending legal ends offer has could =
    let after = couplings (e ∷ journal) in
    let parts = and_parts (not (is_coupled after could.1.place)) (is_match offer could.1) could.3 in
    let stands : Contains (standing (e ∷ journal)) offer =
    subst (λ os. Contains os offer) (sym (standing_left journal e ending ends)) (Contains-from_filter _ (without_ended (standing journal) e.party ending) offer has) in
    none_match users (e ∷ journal) legal offer could.1 stands could.2 could.0 parts.0 parts.1

reopened_no_more_than_end : (users : List ℕ) (journal : Entries) → IsLegal users journal → (party : ℕ) (ending : Ending) →
    length (reopened_by_ending (standing journal) (couplings journal) party ending) ≤ count_by (is_ended party ending) (standing journal)
reopened_no_more_than_end users journal legal party ending =
    reopened_few (standing journal) (couplings journal) party ending (left_ascends journal party ending) (couplings_stand journal) (IsSound-from_legal users journal legal).once

pub leaves_reopen_few : (users : List ℕ) (journal : Entries) → IsLegal users journal → (party : ℕ) → length (reopened_by_leave (standing journal) (couplings journal) party) ≤ 64
leaves_reopen_few users journal legal party =
    omega (arith, reopened_no_more_than_end users journal legal party AllOffers, (IsSound-from_legal users journal legal).few party)

pub retractions_reopen_one : (users : List ℕ) (journal : Entries) → IsLegal users journal → (party : ℕ) (local : List ℕ) →
    length (reopened_by_ending (standing journal) (couplings journal) party (One local)) ≤ 1
retractions_reopen_one users journal legal party local =
    omega (arith, reopened_no_more_than_end users journal legal party (One local), one_passes (is_own party local) (standing journal) (places_ascend journal) (own_is_one journal party local))

pub endings_reopen_one_of_a_pair : (journal : Entries) (party : ℕ) (ending : Ending) →
    length (kept_by_ending (standing journal) (couplings journal) party ending) + length (reopened_by_ending (standing journal) (couplings journal) party ending) ≤ length (couplings journal)
endings_reopen_one_of_a_pair journal party ending = reopened_no_more (standing journal) (couplings journal) party ending (left_ascends journal party ending)
