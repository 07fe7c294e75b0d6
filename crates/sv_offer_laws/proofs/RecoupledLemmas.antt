-- The pairs that reopened offers make.
use Rattle.std.proofs.Common.{◌≡◌, refl, sym, ap, ◌∙◌, subst, ℕ, ◌+◌, ◌≤◌, true, false, cond, List, [], ◌∷◌, ◌++◌, Option, Some, None, inl, inr, arith}
use Rattle.std.specs.Prelude.{Contains, All, count_by, option_to_list}
use Rattle.std.proofs.lemmas.Bool.{cases_Bool}
use Rattle.std.proofs.lemmas.List.{append_assoc, append-nil}
use Rattle.std.proofs.lemmas.List.Elements.{All-nil, All-cons, All-append}
use Rattle.sv_rules.specs.declared.standing.Standing.{Standing}
use Rattle.sv_rules.specs.declared.coupling.Made.{Made}
use Rattle.sv_rules.specs.Standing.{is_match}
use Rattle.sv_rules.specs.Coupling.{has_place, is_coupled, open_match, pair_of, rejoined, recoupled}
use Rattle.sv_offer_laws.proofs.Members.{Contains-head, Contains-behind, count_by-none, count_by-push}
use Rattle.sv_offer_laws.proofs.MatchLemmas.{open_match_is, has_place-pair_of}

-- the pair is that of two matching offers among these, and was made at a place
pub record IsMadeOf (offers : List Standing) (place : ℕ) (made : Made) : Type 0 where
  pub one : Standing
  pub other : Standing
  pub has_one : Contains offers one
  pub has_other : Contains offers other
  pub matching : is_match one other ≡ true
  pub same_pair : made.pair ≡ pair_of one other
  pub same_at : made.at ≡ place

-- how many couplings have a place
abbrev pub uses_of : ℕ → List Made → ℕ
uses_of place coupled = count_by (has_place place) coupled

-- a pair of two open offers couples no place twice
pub uses_of-push : (coupled : List Made) (at : ℕ) (one other : Standing) → is_coupled coupled one.place ≡ false → is_coupled coupled other.place ≡ false →
    ((place : ℕ) → uses_of place coupled ≤ 1) → (place : ℕ) → uses_of place (coupled ++ (record { pair = pair_of one other; at = at }) ∷ []) ≤ 1
uses_of-push coupled at one other open_one open_other once place =
    let made : Made = record { pair = pair_of one other; at = at } in
    let count = count_by-push (has_place place) coupled made in
    elim (cases_Bool (has_place place made)) [
      | inl here ↦
          let added : uses_of place (coupled ++ made ∷ []) ≡ uses_of place coupled + 1 = count ∙ ap (λ b. uses_of place coupled + cond b 1 0) here in
          let unused : uses_of place coupled ≡ 0 = elim (has_place-pair_of place at one other here) [
            | inl same ↦ count_by-none (has_place place) coupled (subst (λ p. is_coupled coupled p ≡ false) same open_one)
            | inr same ↦ count_by-none (has_place place) coupled (subst (λ p. is_coupled coupled p ≡ false) same open_other)
          ] in omega arith
      | inr elsewhere ↦
          let kept : uses_of place (coupled ++ made ∷ []) ≡ uses_of place coupled + 0 = count ∙ ap (λ b. uses_of place coupled + cond b 1 0) elsewhere in
          omega (arith, once place)
    ]

-- what a reopened offer makes: nothing, or the pair with an open match
pub data Rejoining (offers : List Standing) (coupled : List Made) (place : ℕ) (offer : Standing) (made : Option Made) : Type 0 where
  nothing : made ≡ None → Rejoining offers coupled place offer made
  pairing : (match : Standing) → is_coupled coupled offer.place ≡ false → is_coupled coupled match.place ≡ false → is_match offer match ≡ true → Contains offers match →
      made ≡ Some (record { pair = pair_of offer match; at = place }) → Rejoining offers coupled place offer made

rejoined_is : (offers : List Standing) (coupled : List Made) (place : ℕ) (offer : Standing) → Rejoining offers coupled place offer (rejoined place offers coupled offer)
rejoined_is offers coupled place offer = elim (cases_Bool (is_coupled coupled offer.place)) [
  | inl taken ↦ nothing (rw taken refl)
  | inr open' ↦ with_match open' (open_match offers coupled offer) refl
]
  where
    with_match : is_coupled coupled offer.place ≡ false → (match : Option Standing) → open_match offers coupled offer ≡ match → Rejoining offers coupled place offer (rejoined place offers coupled offer)
    with_match open' None found = nothing (rw (open', found) refl)
    with_match open' (Some match) found = let m = open_match_is offers coupled offer match found in pairing match open' m.0 m.1 m.2 (rw (open', found) refl)

pairing_made : (offers : List Standing) (coupled : List Made) (place : ℕ) (offer : Standing) (made : Option Made) → Rejoining offers coupled place offer made →
    Contains offers offer → All (IsMadeOf offers place) (option_to_list made)
pairing_made offers coupled place offer made (nothing none) has =
    subst (λ m. All (IsMadeOf offers place) (option_to_list m)) (sym none) (All-nil (IsMadeOf offers place))
pairing_made offers coupled place offer made (pairing match open_one open_other matching other some) has =
    subst (λ m. All (IsMadeOf offers place) (option_to_list m)) (sym some)
    (All-cons (IsMadeOf offers place) _ [] (record {
      one = offer;
      other = match;
      has_one = has;
      has_other = other;
      matching = matching;
      same_pair = refl;
      same_at = refl;
    }) (All-nil (IsMadeOf offers place)))

pairing_once : (offers : List Standing) (coupled : List Made) (place : ℕ) (offer : Standing) (made : Option Made) → Rejoining offers coupled place offer made →
    ((p : ℕ) → uses_of p coupled ≤ 1) → (p : ℕ) → uses_of p (coupled ++ option_to_list made) ≤ 1
pairing_once offers coupled place offer made (nothing none) once p =
    subst (λ m. uses_of p (coupled ++ option_to_list m) ≤ 1) (sym none) (rw (append-nil coupled) (once p))
pairing_once offers coupled place offer made (pairing match open_one open_other matching other some) once p =
    subst (λ m. uses_of p (coupled ++ option_to_list m) ≤ 1) (sym some) (uses_of-push coupled place offer match open_one open_other once p)

-- each of these pairs is that of two matching offers
pub recoupled_made : (offers : List Standing) (coupled : List Made) (place : ℕ) (reopened : List Standing) → ((offer : Standing) → Contains reopened offer → Contains offers offer) →
    All (IsMadeOf offers place) (recoupled place offers coupled reopened)
recoupled_made offers coupled place [] among = All-nil (IsMadeOf offers place)
recoupled_made offers coupled place (offer ∷ reopened) among =
    let made = option_to_list (rejoined place offers coupled offer) in
    All-append (IsMadeOf offers place) made (recoupled place offers (coupled ++ made) reopened)
    (pairing_made offers coupled place offer _ (rejoined_is offers coupled place offer) (among offer (Contains-head offer reopened)))
    (recoupled_made offers (coupled ++ made) place reopened (λ o h. among o (Contains-behind offer reopened o h)))

-- and they couple no place twice
pub recoupled_once : (offers : List Standing) (coupled : List Made) (place : ℕ) (reopened : List Standing) → ((p : ℕ) → uses_of p coupled ≤ 1) →
    (p : ℕ) → uses_of p (coupled ++ recoupled place offers coupled reopened) ≤ 1
recoupled_once offers coupled place [] once p = rw (append-nil coupled) (once p)
recoupled_once offers coupled place (offer ∷ reopened) once p =
    let made = option_to_list (rejoined place offers coupled offer) in
    rw (← append_assoc coupled made (recoupled place offers (coupled ++ made) reopened))
    (recoupled_once offers (coupled ++ made) place reopened
    (pairing_once offers coupled place offer _ (rejoined_is offers coupled place offer) once) p)
