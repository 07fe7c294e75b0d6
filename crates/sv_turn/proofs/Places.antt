-- Places of parties in journals, and journals that begin with others.
use Rattle.std.proofs.Common.{◌≡◌, ◌≢◌, ℕ, ◌+◌, ◌<◌, ◌≤◌, cond, List, [], ◌∷◌, ◌++◌, length, All, refl, sym, ap, ◌∙◌, arith, append_assoc, eq-eqb, ne_eqb}
use Rattle.std.proofs.lemmas.List.{append-nil}
use Rattle.std.proofs.lemmas.List.Elements.{All-head, All-tail}
use Rattle.sv_turn.specs.Journals.{places_of, Begins}

module _ {E : Type 0} where
  pub begins_self : (journal : List E) → Begins journal journal
  begins_self journal = ([], refl)

  pub begins_none : (journal : List E) → Begins [] journal
  begins_none journal = (journal, sym (append-nil journal))

  pub begins_then : (a b c : List E) → Begins a b → Begins b c → Begins a c
  begins_then a b c p q = (q.0 ++ p.0, q.1 ∙ (ap (λ (z : List E). q.0 ++ z) p.1 ∙ sym (append_assoc q.0 p.0 a)))

module _ {E : Type 0} (party_of : E → ℕ) where
  pub other_places : (p : ℕ) (e : E) (journal : List E) → party_of e ≢ p → places_of party_of p (e ∷ journal) ≡ places_of party_of p journal
  other_places p e journal ne = ap (λ b. cond b (places_of party_of p journal ++ (length journal + 1) ∷ []) (places_of party_of p journal)) (ne_eqb (party_of e) p ne)

  pub own_places : (p : ℕ) (e : E) (journal : List E) → party_of e ≡ p → places_of party_of p (e ∷ journal) ≡ places_of party_of p journal ++ (length journal + 1) ∷ []
  own_places p e journal is = ap (λ b. cond b (places_of party_of p journal ++ (length journal + 1) ∷ []) (places_of party_of p journal)) (eq-eqb (party_of e) p is)

  pub no_places : (p top : ℕ) (journal : List E) → top < p → All (λ e. party_of e ≤ top) journal → places_of party_of p journal ≡ []
  no_places p top [] lt low = refl
  no_places p top (e ∷ journal) lt low =
      let here : party_of e ≤ top = All-head (λ x. party_of x ≤ top) e journal low in
      other_places p e journal (λ is. omega arith) ∙ no_places p top journal lt (All-tail (λ x. party_of x ≤ top) e journal low)
