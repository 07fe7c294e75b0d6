-- The text that a value is, where it is executed.
use Rattle.std.specs.Prelude.{◌≡◌, ℕ, List, Result, Ok, Err, IsOk, length, nat_le, if◌then◌else◌}
use Rattle.apl_arrays.specs.Array.{PlainArray, PlainItems, numbers, chars}
use Rattle.apl_arrays.specs.Limits.{most_line_glyphs}
use Rattle.apl_arrays.specs.declared.report.Fail.{Fail}
use Rattle.apl_arrays.specs.declared.report.Fail.TheVariants as fail
use Rattle.apl_arrays.specs.declared.report.Report.{Report}
use Rattle.apl_arrays.specs.declared.report.Report.TheVariants.{Domain, Rank, Length}

-- the characters, where they are at most 1,000; numbers are no text, also where there are none
abbrev pub text_of_items : PlainItems → Result (List ℕ) Report
text_of_items (numbers list) = Err Domain
text_of_items (chars glyphs) = if nat_le (length glyphs) most_line_glyphs then Ok glyphs else Err Length

-- the text of a value of at most one axis, or the first report
abbrev pub text_of : PlainArray → Result (List ℕ) Report
text_of value = if nat_le (length value.shape) 1 then text_of_items value.items else Err Rank

-- why a value gave no text: its report, or memory ran out for the text that it has
abbrev pub GivesNoText : Result (List ℕ) Report → Fail → Type 0
GivesNoText text (fail.Report report) = text ≡ Err report
GivesNoText text fail.WantOfMemory = IsOk text
