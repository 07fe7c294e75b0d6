-- The places of a party are those of its entries, ascending.
use Rattle.std.proofs.Common.{◌≡◌, ◌≢◌, ℕ, ◌+◌, ◌<◌, ◌≤◌, cond, List, [], ◌∷◌, length, get_or, All, AllPairs, Contains, Some, option_map, refl, sym, ap, ◌∙◌, subst, arith, eq-eqb, ne_eqb}
use Rattle.std.proofs.lemmas.List.Elements.{All-nil, All-push, All-weaker, Contains-append_left, Contains-append_right}
use Rattle.std.proofs.lemmas.List.Quantifiers.{all_pairs_push}
use mathlib.Core.Logic.{dite}
use native.Mathlib.Decide.{ℕ_discrete}
use Rattle.sv_turn.specs.Journals.{places_of, entry_at}
use Rattle.sv_turn.proofs.Places.{own_places, other_places}

module _ {E : Type 0} (party_of : E → ℕ) where
  at_head : (e : E) (journal : List E) (place : ℕ) → place ≡ length journal + 1 → entry_at (e ∷ journal) place ≡ Some e
  at_head e journal place is = ap (λ b. cond b (Some e) (entry_at journal place)) (eq-eqb place (length journal + 1) is)

  at_older : (e : E) (journal : List E) (place : ℕ) → place ≢ length journal + 1 → entry_at (e ∷ journal) place ≡ entry_at journal place
  at_older e journal place ne = ap (λ b. cond b (Some e) (entry_at journal place)) (ne_eqb place (length journal + 1) ne)

  -- the place is the party's, and the journal has it
  IsOwn : ℕ → List E → ℕ → Type 0
  IsOwn party journal place = (place ≤ length journal) × (option_map party_of (entry_at journal place) ≡ Some party)

  own_later : (party : ℕ) (e : E) (journal : List E) (place : ℕ) → IsOwn party journal place → IsOwn party (e ∷ journal) place
  unfolding IsOwn
  own_later party e journal place h = (let l = h.0 in omega arith, ap (option_map party_of) (at_older e journal place (λ is. let l = h.0 in omega arith)) ∙ h.1)

  own_head : (party : ℕ) (e : E) (journal : List E) → party_of e ≡ party → IsOwn party (e ∷ journal) (length journal + 1)
  unfolding IsOwn
  own_head party e journal is = (omega arith, ap (option_map party_of) (at_head e journal (length journal + 1) refl) ∙ ap Some is)

  all_own : (party : ℕ) (journal : List E) → All (IsOwn party journal) (places_of party_of party journal)
  all_own party [] = All-nil (IsOwn party [])
  all_own party (e ∷ journal) =
      let older = All-weaker (IsOwn party journal) (IsOwn party (e ∷ journal)) (λ place h. own_later party e journal place h) (places_of party_of party journal) (all_own party journal) in
      dite (ℕ_discrete (party_of e) party)
      (λ is. subst (All (IsOwn party (e ∷ journal))) (sym (own_places party_of party e journal is)) (All-push (IsOwn party (e ∷ journal)) (places_of party_of party journal) (length journal + 1) older (own_head party e journal is)))
      (λ ne. subst (All (IsOwn party (e ∷ journal))) (sym (other_places party_of party e journal ne)) older)

  pub places_are_own : (party : ℕ) (journal : List E) → All (λ place. option_map party_of (entry_at journal place) ≡ Some party) (places_of party_of party journal)
  unfolding IsOwn
  places_are_own party journal = All-weaker (IsOwn party journal) (λ place. option_map party_of (entry_at journal place) ≡ Some party) (λ place h. h.1) (places_of party_of party journal) (all_own party journal)

  -- a place of the shorter journal stays among the places
  still : (party place : ℕ) (e : E) (journal : List E) → Contains (places_of party_of party journal) place → Contains (places_of party_of party (e ∷ journal)) place
  still party place e journal h = dite (ℕ_discrete (party_of e) party)
      (λ is. subst (λ xs. Contains xs place) (sym (own_places party_of party e journal is)) (Contains-append_left (places_of party_of party journal) ((length journal + 1) ∷ []) place h))
      (λ ne. subst (λ xs. Contains xs place) (sym (other_places party_of party e journal ne)) h)

  pub own_places_stand : (party place : ℕ) (journal : List E) → option_map party_of (entry_at journal place) ≡ Some party → Contains (places_of party_of party journal) place
  own_places_stand party place [] h = absurd cc
  own_places_stand party place (e ∷ journal) h = dite (ℕ_discrete place (length journal + 1))
      (λ is.
      let mine : party_of e ≡ party = cc (sym (ap (option_map party_of) (at_head e journal place is)) ∙ h) in
      subst (λ xs. Contains xs place) (sym (own_places party_of party e journal mine)) (Contains-append_right (places_of party_of party journal) ((length journal + 1) ∷ []) place (0, omega arith, sym is)))
      (λ ne. still party place e journal (own_places_stand party place journal (sym (ap (option_map party_of) (at_older e journal place ne)) ∙ h)))

  low_places : (party : ℕ) (journal : List E) → All (λ place. place ≤ length journal) (places_of party_of party journal)
  unfolding IsOwn
  low_places party journal = All-weaker (IsOwn party journal) (λ place. place ≤ length journal) (λ place h. h.0) (places_of party_of party journal) (all_own party journal)

  pub places_ascend : (party : ℕ) (journal : List E) → AllPairs (λ place next. place < next) (places_of party_of party journal)
  places_ascend party [] = λ i j d a b. absurd (omega arith)
  places_ascend party (e ∷ journal) = let older = places_ascend party journal in dite (ℕ_discrete (party_of e) party)
      (λ is. subst (AllPairs (λ place next. place < next)) (sym (own_places party_of party e journal is))
      (all_pairs_push (λ place next. place < next) (places_of party_of party journal) (length journal + 1) older (λ k d lt. let low : get_or (places_of party_of party journal) k d ≤ length journal = low_places party journal k d lt in omega arith)))
      (λ ne. subst (AllPairs (λ place next. place < next)) (sym (other_places party_of party e journal ne)) older)
