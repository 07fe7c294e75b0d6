-- A run of a bundle: one legal journal, and each party's part of it.
use Rattle.std.specs.Prelude.{◌≡◌, ℕ, List, [], ◌∷◌, Option, map}
use Rattle.apl_arrays.specs.Array.{PlainArray}
use Rattle.apl_io.specs.Content.{Told}
use Rattle.aux_parties.specs.Auxiliaries.{party_of}
use Rattle.sv_rules.specs.Entries.{Entries}
use Rattle.sv_rules.specs.Legal.{IsLegal}
use Rattle.aux_parties.specs.declared.auxiliary.AuxiliaryKind.{AuxiliaryKind}
use Rattle.bundle_text.specs.Rules.{PlainBundle}
use Rattle.bundle_text.specs.User.{PlainUser}
use Rattle.sv_journal.specs.Output.{PlainTranscript}
use Rattle.session_rules.specs.Auxiliaries.{IsAuxiliaryPart}
use Rattle.session_rules.specs.Behind.{forgets_of, of_each, replies_of}
use Rattle.session_rules.specs.Shelf.{Exchange, IsShelfRun}
use Rattle.session_rules.specs.UserPart.{IsUserPart}

-- what each user's shelf was asked and answered in a run, by the user's number, the newest first
abbrev pub Dealings : Type 0
Dealings = ℕ → List Exchange

-- each user has its part, and its transcript stands at its place
abbrev pub AreUserParts : Dealings → Entries → List PlainUser → List PlainTranscript → Type 0
AreUserParts dealings journal [] [] = Unit {0}
AreUserParts dealings journal [] (transcript ∷ transcripts) = ⊥
AreUserParts dealings journal (user ∷ users) [] = ⊥
AreUserParts dealings journal (user ∷ users) (transcript ∷ transcripts) =
    (transcript.user ≡ user.number) × IsUserPart journal user (dealings user.number) transcript.lines × AreUserParts dealings journal users transcripts

-- the numbers of a bundle's users
abbrev pub user_numbers : PlainBundle → List ℕ
user_numbers bundle = map (λ user. user.number) bundle.users

module _ {K : Type 0} (told : K → Option (Told (ℕ × List ℕ))) (faults : K → ℕ) where
  -- the k-th shelf served the k-th user, from where it was to where it is; shelves behind these were not called
  abbrev pub ServeUsers : Dealings → List PlainUser → List K → List K → Type 0
  ServeUsers dealings [] shelves shelves_then = shelves_then ≡ shelves
  ServeUsers dealings (user ∷ users) [] shelves_then = ⊥
  ServeUsers dealings (user ∷ users) (shelf ∷ shelves) [] = ⊥
  ServeUsers dealings (user ∷ users) (shelf ∷ shelves) (shelf_then ∷ shelves_then) =
      IsShelfRun told faults user.number shelf (dealings user.number) shelf_then × ServeUsers dealings users shelves shelves_then

module _ {X Y K : Type 0} (forgets_ten : X → ℕ → X → Type 0) (replies_ten : X → ℕ → PlainArray → PlainArray → X → Type 0)
    (forgets_twenty : Y → ℕ → Y → Type 0) (replies_twenty : Y → ℕ → PlainArray → PlainArray → Y → Type 0)
    (told : K → Option (Told (ℕ × List ℕ))) (faults : K → ℕ) where
  -- a run of a bundle with these dealings: its journal is legal; each user has its part, and its shelf served it; and each auxiliary has its own, which leads what answers behind it from one state to another
  pub record IsRun (bundle : PlainBundle) (dealings : Dealings) (journal : Entries) (transcripts : List PlainTranscript) (ten ten_then : X) (twenty twenty_then : Y) (shelves shelves_then : List K) : Type 0 where
    pub legal : IsLegal (user_numbers bundle) journal
    pub users : AreUserParts dealings journal bundle.users transcripts
    pub shelves_served : ServeUsers told faults dealings bundle.users shelves shelves_then
    pub parts : (kind : AuxiliaryKind) →
        IsAuxiliaryPart (forgets_of forgets_ten forgets_twenty kind) (replies_of replies_ten replies_twenty kind) (user_numbers bundle) (party_of kind) journal (of_each ten twenty kind) (of_each ten_then twenty_then kind)
