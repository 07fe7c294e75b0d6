-- Which offer comes first of those on which something is due.
use Rattle.std.proofs.Common.{◌≡◌, refl, sym, ap, ◌∙◌, ℕ, zero, suc, ◌+◌, ◌<◌, Bool, true, false, eqb, cond, find, List, [], ◌∷◌, ◌++◌, length, take, get_or, Option, Some, None, is_some, ◌&&◌, arith}
use Rattle.std.proofs.lemmas.Bool.{eqb-true}
use Rattle.std.proofs.lemmas.List.{take_more}
use Rattle.std.proofs.lemmas.Option.{none-some}
use Rattle.std.specs.Prelude.{Contains, if◌then◌else◌}
use Rattle.std.specs.Option.{option_map_or}
use Rattle.apl_arrays.specs.Array.{PlainArray}
use Rattle.sv_access.specs.Access.{other_side}
use Rattle.sv_access.specs.Story.{Story, is_unseen, state_of_story}
use Rattle.sv_access.specs.declared.access.Side.{Side}
use Rattle.sv_access.specs.declared.access.Side.TheVariants.{A, B}
use Rattle.sv_access.specs.declared.state.AccessState.{AccessState}
use Rattle.sv_access.specs.declared.state.AccessState.TheVariants.{Quiet, UnseenA, UnseenB}
use Rattle.sv_access.proofs.StoryLemmas.{is_unseen_by_state, says_unseen}
use Rattle.sv_offer_laws.proofs.Members.{Contains-from_filter, filter_passed, find_passed}
use Rattle.sv_rules.specs.Coupling.{coupling_now}
use Rattle.sv_rules.specs.Entries.{Entries}
use Rattle.sv_rules.specs.Standing.{standing}
use Rattle.aux_parties.specs.Auxiliaries.{is_auxiliary}
use Rattle.sv_rules.specs.Work.{first_coupled, own_offers}
use Rattle.sv_rules.specs.declared.coupling.Coupling.{Coupling}
use Rattle.sv_rules.specs.declared.standing.Standing.{Standing}
use Rattle.sv_core.specs.Due.{is_partners_unseen}

-- a test that never passes finds none
found_nowhere : {X : Type 0} (xs : List X) → find (λ _. false) xs ≡ None
found_nowhere [] = refl
found_nowhere (x ∷ xs) = found_nowhere xs

-- a test that asks nothing of an element finds the first, or none
pub find_where : {X : Type 0} (b : Bool) (xs : List X) → find (λ _. b) xs ≡ (if b then find (λ _. true) xs else None)
find_where true xs = refl
find_where false xs = found_nowhere xs

-- none passes of those before an element, and of those up to it
find_none-push : {X : Type 0} (p : X → Bool) (xs : List X) (x : X) → find p xs ≡ None → p x ≡ false → find p (xs ++ x ∷ []) ≡ None
find_none-push p [] x none fails = ap (λ (b : Bool). cond b (Some x) None) fails
find_none-push p (y ∷ ys) x none fails = by (find_none-push p ys x) (p y) refl
  where
    by : (find p ys ≡ None → p x ≡ false → find p (ys ++ x ∷ []) ≡ None) → (b : Bool) → p y ≡ b → find p (y ∷ (ys ++ x ∷ [])) ≡ None
    by rest true h = absurd (none-some y (sym none ∙ ap (λ (b : Bool). cond b (Some y) (find p ys)) h))
    by rest false h =
        ap (λ (b : Bool). cond b (Some y) (find p (ys ++ x ∷ []))) h ∙ rest (ap (λ (b : Bool). cond b (Some y) (find p ys)) (sym h) ∙ none) fails

pub find_more : {X : Type 0} (p : X → Bool) (xs : List X) (i : ℕ) (x : X) → i < length xs → x ≡ get_or xs i x → p x ≡ false → find p (take i xs) ≡ None → find p (take (i + 1) xs) ≡ None
find_more p xs i x within is fails none =
    ap (find p) (take_more xs i x within ∙ ap (λ y. take i xs ++ y ∷ []) (sym is)) ∙ find_none-push p (take i xs) x none fails

-- an element is the first that passes
pub find_here : {X : Type 0} (p : X → Bool) (xs : List X) (i : ℕ) (x : X) → i < length xs → x ≡ get_or xs i x → p x ≡ true → find p (take i xs) ≡ None → find p xs ≡ Some x
find_here p [] i x within is passes none = absurd (omega arith)
find_here p (y ∷ ys) zero x within is passes none = ap (λ z. find p (z ∷ ys)) (sym is) ∙ ap (λ (b : Bool). cond b (Some x) (find p ys)) passes
find_here p (y ∷ ys) (suc i) x within is passes none = by (find_here p ys i x (omega arith) is passes) (p y) refl
  where
    by : (find p (take i ys) ≡ None → find p ys ≡ Some x) → (b : Bool) → p y ≡ b → find p (y ∷ ys) ≡ Some x
    by rest true h = absurd (none-some y (sym none ∙ ap (λ (b : Bool). cond b (Some y) (find p (take i ys))) h))
    by rest false h =
        ap (λ (b : Bool). cond b (Some y) (find p ys)) h ∙ rest (ap (λ (b : Bool). cond b (Some y) (find p (take i ys))) (sym h) ∙ none)

-- the first coupled offer of a party stands
pub first_stands : (journal : Entries) (holds : Standing → Coupling → Bool) (party : ℕ) (offer : Standing) → first_coupled journal holds party ≡ Some offer → Contains (standing journal) offer
first_stands journal holds party offer h =
    let found = find_passed (λ (o : Standing). option_map_or (holds o) (coupling_now journal o.place) false) (own_offers journal party) offer h in
    Contains-from_filter (λ (o : Standing). eqb o.party party) (standing journal) offer found.1

-- the offers of an auxiliary are those of an auxiliary
pub own_is_auxiliary : (journal : Entries) (party : ℕ) (offer : Standing) → is_auxiliary party ≡ true → Contains (own_offers journal party) offer → is_auxiliary offer.party ≡ true
own_is_auxiliary journal party offer auxiliary has =
    ap is_auxiliary (eqb-true offer.party party (filter_passed (λ (o : Standing). eqb o.party party) (standing journal) offer has)) ∙ auxiliary

-- whether a set of the other side is unseen is told by the state
pub partners_unseen : (told : Story PlainArray) (side : Side) → is_unseen (other_side side) told ≡ is_partners_unseen (state_of_story told) side
partners_unseen told side = is_unseen_by_state told (other_side side) ∙ by (state_of_story told) side
  where
    by : (s : AccessState) (own : Side) → says_unseen s (other_side own) ≡ is_partners_unseen s own
    by Quiet A = refl
    by Quiet B = refl
    by UnseenA A = refl
    by UnseenA B = refl
    by UnseenB A = refl
    by UnseenB B = refl

-- what is told of a coupling, where it is known whether there is one
pub told_where : (found : Option Coupling) (p : Coupling → Bool) (flag coupled : Bool) → is_some found ≡ coupled → ((c : Coupling) → found ≡ Some c → flag ≡ p c) → (flag && coupled) ≡ option_map_or p found false
told_where None p flag coupled is told = ap (λ (b : Bool). flag && b) (sym is) ∙ by flag
  where
    by : (b : Bool) → (b && false) ≡ false
    by true = refl
    by false = refl
told_where (Some c) p flag coupled is told = ap (λ (b : Bool). flag && b) (sym is) ∙ by flag ∙ told c refl
  where
    by : (b : Bool) → (b && true) ≡ b
    by true = refl
    by false = refl
