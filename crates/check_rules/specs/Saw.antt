-- What users saw, beside what is printed of them.
use Rattle.std.specs.Prelude.{◌≡◌, ◌≢◌, ◌⊎◌, ◌++◌, ◌+◌, ℕ, List, [], ◌∷◌, Option, find, length, not}
use Rattle.apl_arrays.specs.List.{first_of}
use Rattle.bundle_text.specs.Rules.{PlainBundle}
use Rattle.bundle_text.specs.User.{PlainUser}
use Rattle.sv_journal.specs.Output.{PlainTranscript}
use Rattle.sv_rules.specs.Entries.{Entries, has_left}
use Rattle.session_rules.specs.Run.{user_numbers}
use Rattle.session_rules.specs.Shelf.{Exchange}
use Rattle.session_rules.specs.UserPart.{IsUserPart}
use Rattle.check_rules.specs.Alone.{AreServed}

-- the lowest user that has not left, if one has not
abbrev pub first_there : PlainBundle → Entries → Option ℕ
first_there bundle journal = find (λ user. not (has_left journal user)) (user_numbers bundle)

-- a user that has left saw these lines: they are those of its part of a run, over a shelf that was empty
pub record Saw (journal : Entries) (user : PlainUser) (lines : List (List ℕ)) : Type 0 where
  pub exchanges : List Exchange
  pub served : AreServed user.number exchanges
  pub part : IsUserPart journal user exchanges lines

-- lines and others differ first in the line of this number, from 1: those before it they have in common, and where the ones end there the others go on
pub record DifferAt (lines others : List (List ℕ)) (number : ℕ) : Type 0 where
  pub common : List (List ℕ)
  pub rest : List (List ℕ)
  pub left : List (List ℕ)
  pub one : lines ≡ common ++ rest
  pub other : others ≡ common ++ left
  pub counted : number ≡ length common + 1
  pub differ : first_of rest ≢ first_of left

-- this user is the first of whom other lines are printed than it saw, and they differ first in the line of this number
abbrev pub IsFirstDifference : Entries → List PlainUser → List PlainTranscript → ℕ → ℕ → Type 0
IsFirstDifference journal [] transcripts number line = ⊥
IsFirstDifference journal (user ∷ users) [] number line = ⊥
IsFirstDifference journal (user ∷ users) (printed ∷ transcripts) number line =
    ((lines : List (List ℕ)) × (number ≡ user.number) × Saw journal user lines × DifferAt printed.lines lines line) ⊎ (Saw journal user printed.lines × IsFirstDifference journal users transcripts number line)

-- each user saw what is printed of it
abbrev pub AllSaw : Entries → List PlainUser → List PlainTranscript → Type 0
AllSaw journal [] [] = Unit {0}
AllSaw journal [] (printed ∷ transcripts) = ⊥
AllSaw journal (user ∷ users) [] = ⊥
AllSaw journal (user ∷ users) (printed ∷ transcripts) = Saw journal user printed.lines × AllSaw journal users transcripts
