-- The first entry that may not follow those before it.
use Rattle.std.specs.Prelude.{◌≡◌, ℕ, List, ◌∷◌, ◌++◌, Option, Some, None}
use Rattle.sv_events.specs.Entry.{PlainEntry}
use Rattle.sv_rules.specs.Entries.{Entries, next_place}
use Rattle.sv_rules.specs.Legal.{IsLegal, MayFollow}

-- the entries before the place are legal, and the one there may not follow them
pub record IsIllegalAt (users : List ℕ) (journal : Entries) (at : ℕ) : Type 0 where
  pub later : Entries
  pub e : PlainEntry
  pub before : Entries
  pub whole : journal ≡ later ++ e ∷ before
  pub there : at ≡ next_place before
  pub legal : IsLegal users before
  pub illegal : MayFollow users before e → ⊥

-- the place of the first entry that may not follow; there is none where the journal is legal
abbrev pub IsFirstIllegal : List ℕ → Entries → Option ℕ → Type 0
IsFirstIllegal users journal None = IsLegal users journal
IsFirstIllegal users journal (Some at) = IsIllegalAt users journal at
