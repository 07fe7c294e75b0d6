-- What may be printed, whether it is legal or not.
use Rattle.std.specs.Prelude.{◌≡◌, ◌+◌, ℕ, List, [], ◌∷◌, All, Option, Some, None, map}
use Rattle.apl_arrays.specs.Ascending.{Ascend}
use Rattle.apl_arrays.specs.Glyph.{IsGlyph}
use Rattle.sv_events.specs.Entry.{PlainEntry}
use Rattle.sv_journal.specs.IsEntry.{IsEntry}
use Rattle.sv_journal.specs.Output.{PlainTranscript}
use Rattle.printed_text.specs.Line.{IsUserNumber}

-- these users, where some are named; else their numbers ascend
abbrev pub AreUsers : Option (List ℕ) → List ℕ → Type 0
AreUsers (Some users) numbers = numbers ≡ users
AreUsers None numbers = Ascend numbers

-- a user, and lines of glyphs
pub record IsShown (transcript : PlainTranscript) : Type 0 where
  pub number : IsUserNumber transcript.user
  pub lines : All (λ line. All IsGlyph line) transcript.lines

-- entries that have texts at their places, which count on from this one
abbrev pub AreEntries : ℕ → List PlainEntry → Type 0
AreEntries place [] = Unit {0}
AreEntries place (e ∷ entries) = IsEntry place e × AreEntries (place + 1) entries

-- transcripts of users, in their order, and a journal
pub record MayBePrinted (users : Option (List ℕ)) (transcripts : List PlainTranscript) (journal : List PlainEntry) : Type 0 where
  pub named : AreUsers users (map (λ transcript. transcript.user) transcripts)
  pub shown : All IsShown transcripts
  pub entries : AreEntries 1 journal
