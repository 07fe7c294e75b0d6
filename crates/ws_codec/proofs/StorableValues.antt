-- Values and functions of the program may be saved.
use Rattle.std.proofs.Common.{◌≡◌, ℕ, ◌+◌, ◌≤◌, true, List, [], ◌∷◌, ◌++◌, length, ap, le-leb, is_none, arith}
use Rattle.std.specs.Prelude.{nat_le}
use Rattle.std.specs.List.{AllByRecursion}
use Rattle.std.proofs.lemmas.Bool.{and_from}
use Rattle.std.proofs.lemmas.List.Elements.{recursion_from_All}
use Rattle.std.proofs.lemmas.List.Sums.{sum_by-cons}
use Rattle.apl_arrays.specs.Array.{FitsLimits, PlainArray, element_count}
use Rattle.apl_arrays.specs.Shape.{is_small}
use Rattle.apl_arrays.proofs.Shapes.{what_fits_has_no_fault}
use Rattle.apl_workspace.specs.Function.{IsFunction, PlainFunction, function_weight}
use Rattle.apl_workspace.specs.Limits.{most_function_lines, most_weight}
use Rattle.apl_workspace.specs.Meaning.{value_weight}
use Rattle.apl_arrays.specs.Limits.{most_line_glyphs}
use Rattle.ws_codec.specs.Functions.{glyph_count, is_within}
use Rattle.ws_codec.specs.Sound.{Follow, IsDefined, IsLineOfFunction, IsVariable}
use Rattle.ws_codec.specs.Storable.{IsCoded, IsOfGlyphs, IsStorableValue}
use Rattle.ws_codec.proofs.Lines.{glyphs_push, lines_weigh}

-- things that need nothing of those before them
pub follow_all : {A : Type 0} (P : A → Type 0) (front list : List A) → AllByRecursion P list → Follow (λ before x. P x) front list
follow_all P front [] all = tt
follow_all P front (x ∷ xs) all = (all.0, follow_all P (front ++ x ∷ []) xs all.1)

small_axes : (shape : List ℕ) → AllByRecursion (λ axis. axis ≤ 16384) shape → AllByRecursion (λ axis. is_small axis ≡ true) shape
small_axes [] all = tt
small_axes (axis ∷ shape) all = (le-leb axis 16384 all.0, small_axes shape all.1)

-- a variable
pub variable_sound : (weight : ℕ) (value : PlainArray) → IsStorableValue value → weight + value_weight value ≤ most_weight → IsVariable weight value
variable_sound weight value h light =
    let shape = value.shape in
    let fits : FitsLimits value.shape = h.array.fits in
    record {
      rank = le-leb (length shape) 8 fits.rank;
      axes = follow_all (λ axis. is_small axis ≡ true) [] shape (small_axes shape (recursion_from_All (λ (axis : ℕ). axis ≤ 16384) shape fits.axes));
      shape = ap is_none (what_fits_has_no_fault shape fits);
      light = le-leb (weight + (1 + element_count shape)) most_weight (omega (arith, h.array.whole, light));
      whole = h.array.whole;
      items = h.items;
    }

within : (most weight count : ℕ) → count ≤ most → weight + count ≤ most_weight → is_within most weight count ≡ true
within most weight count few light =
    and_from (nat_le count most) (nat_le (weight + count) most_weight) (le-leb count most few) (le-leb (weight + count) most_weight light)

-- lines, each behind those before it
lines_sound : (base : ℕ) (front list : List (List ℕ)) → AllByRecursion (λ line. length line ≤ 1000) list → AllByRecursion IsCoded list → base + glyph_count front + glyph_count list ≤ most_weight → Follow (λ before line. IsLineOfFunction (base + glyph_count before) line) front list
lines_sound base front [] short coded light = tt
lines_sound base front (line ∷ list) short coded light =
    let sum = sum_by-cons (λ (l : List ℕ). length l) line list in
    let push = glyphs_push front line in (
      record { within = within most_line_glyphs (base + glyph_count front) (length line) short.0 (omega (arith, sum, light)); coded = coded.0 },
      lines_sound base (front ++ line ∷ []) list short.1 coded.1 (omega (arith, sum, push, light)),
    )

-- a function
pub function_sound : (name : List ℕ) (weight : ℕ) (function : PlainFunction) → IsFunction function → function.header.name ≡ name → IsOfGlyphs function → weight + function_weight function ≤ most_weight → IsDefined name weight function
function_sound name weight function is named spelled light =
    let lines = function.lines in
    let sum = lines_weigh function.lines in
    record {
      text = record { within = within most_line_glyphs (weight + 1) (length function.text) is.text (omega (arith, sum, light)); coded = spelled.text };
      header = is.header;
      named = named;
      count = within most_function_lines (weight + 1 + length function.text) (length function.lines) is.count (omega (arith, sum, light));
      lines =
          lines_sound (weight + 1 + length function.text + length function.lines) [] function.lines (recursion_from_All (λ (line : List ℕ). length line ≤ 1000) function.lines is.lines)
          (recursion_from_All IsCoded function.lines spelled.lines) (omega (arith, sum, light));
    }
