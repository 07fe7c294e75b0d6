use Rattle.std.specs.Prelude.{◌≡◌, ◌-◌, ℕ, max, List, [], ◌∷◌, ◌++◌, length, take, map, fold, if◌then◌else◌}
use Rattle.std.specs.List.{concat}
use Rattle.apl_arrays.specs.Array.{PlainArray, chars, is_chars, FitsLimits}
use Rattle.apl_arrays.specs.declared.report.Fail.{Fail}
use Rattle.apl_arrays.specs.declared.report.Fail.TheVariants.{Report, WantOfMemory}
use Rattle.apl_arrays.specs.declared.report.Report.TheVariants.{WsFull}
use Rattle.apl_items.specs.Answers.{ArrayResult, answer_of, shape_faults}
use Rattle.apl_display.specs.Display.{display_lines}

-- how wide lines are: as the longest; 0 where there is none
abbrev pub width_of : List (List ℕ) → ℕ
width_of lines = fold max 0 (map length lines)

-- the characters of the display lines, in the shape of the array but for the last axis: there is the width of the lines
abbrev pub number_format : PlainArray → PlainArray
number_format array = record {
  shape = take (length array.shape - 1) array.shape ++ width_of (display_lines array) ∷ [];
  items = chars (concat (display_lines array));
}

-- an array as characters; one of characters is unchanged
abbrev pub formatted : PlainArray → PlainArray
formatted array = if is_chars array.items then array else number_format array

-- a true reason to make no array of a shape: it passes the limits; memory may run out at any shape
abbrev pub IsFormatRefusal : List ℕ → Fail → Type 0
IsFormatRefusal shape (Report report) = (report ≡ WsFull) × ¬ FitsLimits shape
IsFormatRefusal shape WantOfMemory = Unit {0}

-- what format gives: the array as characters, or the report of its shape
abbrev pub format_of : PlainArray → ArrayResult
format_of array = answer_of (shape_faults (formatted array).shape) (formatted array)
