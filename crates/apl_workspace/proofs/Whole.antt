-- Functions that keep their limits.
use Rattle.std.proofs.Common.{◌≡◌, ◌≤◌, ℕ, true, ◌&&◌, List, [], ◌∷◌, Some, length, map, ap, refl, arith}
use Rattle.std.specs.Prelude.{nat_le}
use Rattle.std.specs.List.{AllByRecursion, list_all}
use Rattle.std.proofs.lemmas.Bool.{and_parts}
use Rattle.std.proofs.lemmas.Bool.Decides.{nat_tests}
use Rattle.std.proofs.lemmas.List.Elements.{All-from_recursion}
use Rattle.apl_arrays.specs.List.{Listed, glyphs_in}
use Rattle.apl_arrays.specs.Limits.{most_line_glyphs}
use Rattle.apl_workspace.specs.Function.{IsFunction, function_with, is_short, keeps_limits}
use Rattle.apl_workspace.specs.Header.{PlainHeader, header_of}
use Rattle.apl_workspace.specs.Limits.{most_function_lines}

le_from : (a b : ℕ) → nat_le a b ≡ true → a ≤ b
le_from a b e = grind (arith, nat_tests)

each_short : (lines : List (List ℕ)) → list_all is_short lines ≡ true → AllByRecursion (λ line. length line ≤ most_line_glyphs) lines
each_short [] e = tt
each_short (line ∷ lines) e =
    let parts = and_parts (is_short line) (list_all is_short lines) e in
    (le_from (length line) most_line_glyphs parts.0, each_short lines parts.1)

-- a header that was read and lines within their limits are a function
pub is_function : (text : List ℕ) (lines : List (List ℕ)) (header : PlainHeader) → keeps_limits text lines ≡ true → header_of text ≡ Some header → IsFunction (function_with text lines header)
is_function text lines header keeps is =
    let parts = and_parts (is_short text && nat_le (length lines) most_function_lines) (list_all is_short lines) keeps in
    let front = and_parts (is_short text) (nat_le (length lines) most_function_lines) parts.0 in
    record {
      header = is;
      text = le_from (length text) most_line_glyphs front.0;
      count = le_from (length lines) most_function_lines front.1;
      lines = All-from_recursion _ lines (each_short lines parts.1);
    }

-- lines as they are kept, and as they are seen
pub all_mapped : (lines : List (Listed ℕ)) → list_all (λ line. is_short (glyphs_in line)) lines ≡ list_all is_short (map glyphs_in lines)
all_mapped [] = refl
all_mapped (line ∷ lines) = ap (λ b. is_short (glyphs_in line) && b) (all_mapped lines)
