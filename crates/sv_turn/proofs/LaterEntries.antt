-- Entries behind those that are known.
use Rattle.std.proofs.Common.{◌≡◌, ◌≢◌, ℕ, ◌+◌, ◌≤◌, List, [], ◌∷◌, ◌++◌, length, All, sym, ap, ◌∙◌, arith}
use Rattle.std.proofs.lemmas.List.{length_push}
use Rattle.std.proofs.lemmas.List.Elements.{All-nil, All-cons}
use mathlib.Core.Logic.{dite}
use native.Mathlib.Decide.{ℕ_discrete}
use Rattle.sv_turn.specs.Journals.{places_of}
use Rattle.sv_turn.proofs.Places.{own_places, other_places}

module _ {E : Type 0} (party_of : E → ℕ) where
  one_more : (party : ℕ) (e : E) (journal : List E) → party_of e ≡ party → length (places_of party_of party (e ∷ journal)) ≡ length (places_of party_of party journal) + 1
  one_more party e journal is = ap length (own_places party_of party e journal is) ∙ length_push (places_of party_of party journal) (length journal + 1)

  no_fewer : (party : ℕ) (later known : List E) → length (places_of party_of party known) ≤ length (places_of party_of party (later ++ known))
  no_fewer party [] known = omega arith
  no_fewer party (e ∷ later) known = let older = no_fewer party later known in dite (ℕ_discrete (party_of e) party)
      (λ is. let more = one_more party e (later ++ known) is in omega arith)
      (λ ne. let same = ap length (other_places party_of party e (later ++ known) ne) in omega arith)

  pub no_later_own : (party : ℕ) (known later : List E) → places_of party_of party (later ++ known) ≡ places_of party_of party known → All (λ e. party_of e ≢ party) later
  no_later_own party known [] same = All-nil (λ e. party_of e ≢ party)
  no_later_own party known (e ∷ later) same = dite (ℕ_discrete (party_of e) party)
      (λ is.
      let more = one_more party e (later ++ known) is in let few = no_fewer party later known in let long = ap length same in
      absurd (omega arith))
      (λ ne. All-cons (λ x. party_of x ≢ party) e later ne (no_later_own party known later (sym (other_places party_of party e (later ++ known) ne) ∙ same)))
