-- What a step of the reader answers.
use Rattle.std.specs.Prelude.{◌≡◌, ◌≢◌, ℕ, true, false, List, ◌∷◌, ◌++◌, Option, Result, MatchResult}
use Rattle.apl_arrays.specs.Glyph.{Spells, bar}
use Rattle.printed_text.specs.Draft.{PlainDraft, AreSound, IsSound, may_stand, said, text_before, with_line}
use Rattle.printed_text.specs.Line.{PlainLine, IsTextOf}
use Rattle.printed_text.specs.Refused.{IsRefusal}
use Rattle.printed_text.specs.declared.refused.PrintedRefused.{PrintedRefused}

-- the bytes are the text of a line that may stand here, and what is said is more by it
pub record IsAdded (users : Option (List ℕ)) (old : PlainDraft) (bytes : List ℕ) (new : PlainDraft) : Type 0 where
  pub line : PlainLine
  pub text : IsTextOf line bytes
  pub place : may_stand users old line ≡ true
  pub more : new ≡ with_line old line

-- the bytes are the text of no line that may stand here
abbrev pub NoneStands : Option (List ℕ) → PlainDraft → List ℕ → Type 0
NoneStands users draft bytes = (line : PlainLine) → IsTextOf line bytes → may_stand users draft line ≡ true → ⊥

-- these bytes are added as a line; or none may stand here that they are the text of, and the offset is told
abbrev pub AddsText : Option (List ℕ) → PlainDraft → List ℕ → PlainDraft → ℕ → Result (Unit {0}) PrintedRefused → Type 0
AddsText users old bytes new offset result =
    MatchResult result (λ _. IsAdded users old bytes new) (λ why. IsRefusal why (λ at. (at ≡ offset) × NoneStands users old bytes))

-- a line of this form may stand here, and what is said is more by it; or it may not, and the offset is told
abbrev pub Adds : Option (List ℕ) → PlainDraft → PlainLine → PlainDraft → ℕ → Result (Unit {0}) PrintedRefused → Type 0
Adds users old line new offset result =
    MatchResult result (λ _. (may_stand users old line ≡ true) × (new ≡ with_line old line)) (λ why. IsRefusal why (λ at. (at ≡ offset) × (may_stand users old line ≡ false)))

-- the bytes spell no line of glyphs
abbrev pub NoneSpelled : List ℕ → Type 0
NoneSpelled bytes = (line : List ℕ) → Spells bytes line → ⊥

-- no bar stands in front
abbrev pub IsNoContent : List ℕ → Type 0
IsNoContent bytes = (rest : List ℕ) → bytes ≢ bar ∷ rest

-- lines were read up to what is left, each of which may stand there, and this is what they say
pub record IsReadTo (users : Option (List ℕ)) (text rest : List ℕ) (draft : PlainDraft) : Type 0 where
  pub before : List PlainLine
  pub sound : AreSound users before
  pub whole : text ≡ text_before before ++ rest
  pub says : draft ≡ said before
