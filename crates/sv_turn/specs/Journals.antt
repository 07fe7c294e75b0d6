-- Journals as lists, the newest entry first.
use Rattle.std.specs.Prelude.{◌≡◌, ℕ, ◌+◌, ◌==◌, cond, List, [], ◌∷◌, ◌++◌, length, Option, Some, None}

-- the places of the party's entries, ascending; the first entry that was made has the place 1
abbrev pub places_of : {E : Type 0} → (E → ℕ) → ℕ → List E → List ℕ
places_of party_of party [] = []
places_of party_of party (e ∷ journal) = cond (party_of e == party) (places_of party_of party journal ++ (length journal + 1) ∷ []) (places_of party_of party journal)

-- the entry at this place
abbrev pub entry_at : {E : Type 0} → List E → ℕ → Option E
entry_at [] place = None
entry_at (e ∷ journal) place = cond (place == length journal + 1) (Some e) (entry_at journal place)

-- the journal begins with the entries that are known
abbrev pub Begins : {E : Type 0} → List E → List E → Type 0
Begins {E} known journal = (later : List E) × (journal ≡ later ++ known)

-- the journal afterwards is the one before with one entry of the party more
abbrev pub AddsOne : {E : Type 0} → (E → ℕ) → ℕ → List E → List E → Type 0
AddsOne {E} party_of party before after = (e : E) × (after ≡ e ∷ before) × (party_of e ≡ party)
