-- Where a text departs from all outputs.
use Rattle.std.specs.Prelude.{◌≡◌, ◌≢◌, ℕ, true, List, [], ◌++◌, length, Option}
use Rattle.line_text.specs.Lines.{line_text}
use Rattle.printed_text.specs.Draft.{PlainDraft, AreSound, IsSound, is_at_end, said, text_before}
use Rattle.printed_text.specs.Line.{PlainLine, line_glyphs}

-- a whole line stands at the front that may stand behind what was said
pub record HasNextLine (users : Option (List ℕ)) (draft : PlainDraft) (bytes : List ℕ) : Type 0 where
  pub line : PlainLine
  pub behind : List ℕ
  pub sound : IsSound users draft line
  pub whole : bytes ≡ line_text (line_glyphs line) ++ behind

-- the text departs at this offset: before it stand whole lines, each of which may stand there; the next one may not, or there is none and the end is wanting
pub record DepartsAt (users : Option (List ℕ)) (text : List ℕ) (at : ℕ) : Type 0 where
  pub before : List PlainLine
  pub rest : List ℕ
  pub sound : AreSound users before
  pub whole : text ≡ text_before before ++ rest
  pub place : at ≡ length (text_before before)
  pub stops : HasNextLine users (said before) rest → ⊥
  pub wanting : is_at_end (said before).section ≡ true → rest ≢ []
