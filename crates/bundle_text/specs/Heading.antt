use Rattle.std.specs.Prelude.{◌≡◌, ◌≢◌, ℕ, List, map}
use Rattle.text_reader.specs.Numeral.{capped, number_of_digits}
use Rattle.bundle_text.specs.BundleLine.{PlainLine, input, user, order, file, clock, end, IsBundleLine, line_glyphs}
use Rattle.bundle_text.specs.declared.heading.Heading.{Heading}
use Rattle.bundle_text.specs.declared.heading.Heading.TheVariants as headings

-- numbers as they are kept, by their digits
abbrev pub kept_numbers : List (List ℕ) → List ℕ
kept_numbers numbers = map (λ digits. capped (number_of_digits digits)) numbers

-- a heading as plain data: of a user, of turns, of a file, of readings, or the end; numbers as they are kept
pub data PlainHeading : Type 0 where
  user_heading : ℕ → PlainHeading
  turns_heading : List ℕ → PlainHeading
  file_heading : List ℕ → PlainHeading
  readings_heading : List ℕ → PlainHeading
  end_heading : PlainHeading

-- a heading as plain data, whatever room is left
abbrev pub plain_heading : Heading → PlainHeading
plain_heading (headings.User number) = user_heading number
plain_heading (headings.Order numbers) = turns_heading numbers.items
plain_heading (headings.File name) = file_heading name
plain_heading (headings.Clock numbers) = readings_heading numbers.items
plain_heading headings.End = end_heading

-- a heading is said by this line
abbrev pub IsSaidBy : PlainHeading → PlainLine → Type 0
IsSaidBy (user_heading number) line = line ≡ user number
IsSaidBy (turns_heading numbers) line = (digits : List (List ℕ)) × (line ≡ order digits) × (numbers ≡ kept_numbers digits)
IsSaidBy (file_heading name) line = line ≡ file name
IsSaidBy (readings_heading numbers) line = (digits : List (List ℕ)) × (line ≡ clock digits) × (numbers ≡ kept_numbers digits)
IsSaidBy end_heading line = line ≡ end

-- a heading is this line
abbrev pub IsHeadingOf : Heading → PlainLine → Type 0
IsHeadingOf heading line = IsSaidBy (plain_heading heading) line

-- the glyphs are a line that says this heading
pub record IsHeadingLine (heading : PlainHeading) (glyphs : List ℕ) : Type 0 where
  pub line : PlainLine
  pub is : IsSaidBy heading line
  pub form : IsBundleLine line
  pub spelled : glyphs ≡ line_glyphs line

-- a line that is no content line
abbrev pub IsHeading : PlainLine → Type 0
IsHeading (input line) = ⊥
IsHeading _ = Unit {0}

-- the glyphs are the line of no heading
abbrev pub IsNoHeading : List ℕ → Type 0
IsNoHeading glyphs = (line : PlainLine) → IsHeading line → IsBundleLine line → glyphs ≢ line_glyphs line
