-- Component files, line by line.
use Rattle.std.proofs.Common.{◌≡◌, ◌≢◌, ◌∙◌, ℕ, ◌+◌, ◌-◌, ◌<◌, ◌≤◌, ◌^◌, Bool, true, false, not, cond, eqb, ltb, List, [], ◌∷◌, ◌++◌, length, map, take, drop, get_or, Option, Some, None, Result, Ok, Err, Bor, refl, sym, ap, subst, arith, append-nil, append_assoc, length-append}
use Rattle.std.specs.List.{All, AllByRecursion, list_all, slice_get}
use Rattle.std.specs.Option.{MatchOption, option_copied}
use Rattle.std.specs.Result.{IfOk}
use Rattle.std.specs.Slice.{IsGetResult}
use Rattle.std.proofs.lemmas.Bool.{ltb-false, ltb-true, ne_eqb}
use Rattle.std.proofs.lemmas.List.{get_or_at}
use Rattle.std.proofs.lemmas.List.Elements.{All-append, All-cons, All-drop, All-push, All-take, All-weaker, recursion_from_All}
use Rattle.std.proofs.lemmas.List.Sums.{list_all-from_AllPass}
use Rattle.std.proofs.lemmas.Option.{none-some, same_Some, slice_get_past, slice_get_read}
use Rattle.apl_arrays.specs.Array.{PlainArray}
use Rattle.apl_arrays.specs.Glyph.{Spells, line_utf8}
use Rattle.apl_arrays.specs.Limits.{most_elements}
use Rattle.apl_arrays.proofs.Spelling.{no_control, one_line}
use Rattle.line_text.specs.Lines.{HasNoFeed, line_feed, line_text}
use Rattle.line_text.proofs.SameLines.{same_first_line}
use Rattle.line_text.proofs.Spans.{same_span}
use Rattle.sv_text.specs.Printable.{IsPrintableArray}
use Rattle.sv_text.specs.Value.{IsValue}
use Rattle.sv_text.specs.ValueText.{array_text}
use Rattle.sv_text.proofs.SameValues.{same_text}
use Rattle.sv_text.proofs.ValueGlyphs.{array_glyphs}
use Rattle.auxiliaries.specs.File.{most_file_bytes}
use Rattle.aux_components.specs.File.{AreComponents, AreNoComponents, components_changed, file_bytes, has_component}

pub printable : (array : PlainArray) → IsValue array → IsPrintableArray array
printable array value = record {
  axes = All-weaker (λ (axis : ℕ). axis ≤ most_elements) (λ (axis : ℕ). axis < 2 ^ 64) (λ axis small. omega (arith, small)) array.shape value.array.fits.axes;
  items = value.items;
}

pub spells_text : (bytes : List ℕ) (array : PlainArray) → IsValue array → bytes ≡ line_utf8 (array_text array) → Spells bytes (array_text array)
spells_text bytes array value same = (array_glyphs array (printable array value), same)

-- the text of an array has no line feed
no_feed : (array : PlainArray) → IsValue array → HasNoFeed (line_utf8 (array_text array))
no_feed array value k d within same = omega (arith, no_control (array_text array) (array_glyphs array (printable array value)) k d within, same)

abbrev ends_no_line : ℕ → Bool
ends_no_line byte = not (eqb byte line_feed)

passes : (bytes : List ℕ) → HasNoFeed bytes → list_all ends_no_line bytes ≡ true
passes bytes none = list_all-from_AllPass ends_no_line bytes (λ k d within. ap not (ne_eqb (get_or bytes k d) line_feed (none k d within)))

-- lines up to their line feeds are the same where the bytes are
same_line : (line other behind rest : List ℕ) → HasNoFeed line → HasNoFeed other → line ++ line_feed ∷ behind ≡ other ++ line_feed ∷ rest → line ≡ other
same_line line other behind rest none none_there e = (same_span ends_no_line line other (line_feed ∷ behind) (line_feed ∷ rest) (passes line none) (passes other none_there) refl refl e).0

pub file_bytes_append : (arrays others : List PlainArray) → file_bytes (arrays ++ others) ≡ file_bytes arrays ++ file_bytes others
file_bytes_append [] others = refl
file_bytes_append (array ∷ arrays) others =
    ap (λ (bytes : List ℕ). line_text (array_text array) ++ bytes) (file_bytes_append arrays others) ∙ sym (append_assoc (line_text (array_text array)) (file_bytes arrays) (file_bytes others))

-- a line more
pub one_more : (bytes rest line behind : List ℕ) (arrays : List PlainArray) (array : PlainArray) → bytes ≡ file_bytes arrays ++ rest → rest ≡ line ++ line_feed ∷ behind → line ≡ line_utf8 (array_text array)
    → bytes ≡ file_bytes (arrays ++ array ∷ []) ++ behind
one_more bytes rest line behind arrays array so_far split is =
    let text : List ℕ = line_utf8 (array_text array) in
    let line_of : line_text (array_text array) ++ behind ≡ text ++ line_feed ∷ behind = append_assoc text (line_feed ∷ []) behind in
    so_far
    ∙ ap (λ (more : List ℕ). file_bytes arrays ++ more) (split ∙ ap (λ (front : List ℕ). front ++ line_feed ∷ behind) is ∙ sym line_of)
    ∙ sym (append_assoc (file_bytes arrays) (line_text (array_text array)) behind)
    ∙ ap (λ (front : List ℕ). front ++ behind) (ap (λ (last : List ℕ). file_bytes arrays ++ last) (sym (append-nil (line_text (array_text array)))) ∙ sym (file_bytes_append arrays (array ∷ [])))

pub values_more : (arrays : List PlainArray) (array : PlainArray) → All IsValue arrays → IsValue array → All IsValue (arrays ++ array ∷ [])
values_more = All-push IsValue

-- what stands behind the first arrays of a file are arrays
behind_arrays : (arrays all : List PlainArray) (rest : List ℕ) → AllByRecursion IsValue arrays → AllByRecursion IsValue all → file_bytes all ≡ file_bytes arrays ++ rest
    → (more : List PlainArray) × AllByRecursion IsValue more × (rest ≡ file_bytes more)
behind_arrays [] all rest values each e = (all, each, sym e)
behind_arrays (array ∷ arrays) [] rest values each e =
    absurd (omega (arith, ap length e, length-append (line_text (array_text array) ++ file_bytes arrays) rest, length-append (line_text (array_text array)) (file_bytes arrays), length-append (line_utf8 (array_text array)) (line_feed ∷ [])))
behind_arrays (array ∷ arrays) (first ∷ all) rest values each e =
    let same = same_first_line (array_text first) (array_text array) (file_bytes all) (file_bytes arrays ++ rest) (array_glyphs first (printable first each.0)) (array_glyphs array (printable array values.0)) (e ∙ append_assoc (line_text (array_text array)) (file_bytes arrays) rest) in
    behind_arrays arrays all rest values.1 each.1 same.1

-- a line that is no array's
pub no_array_line : (bytes rest line behind : List ℕ) (arrays : List PlainArray) → All IsValue arrays → bytes ≡ file_bytes arrays ++ rest → rest ≡ line ++ line_feed ∷ behind → HasNoFeed line
    → ((array : PlainArray) → IsValue array → line ≢ line_utf8 (array_text array)) → AreNoComponents bytes
no_array_line bytes rest line behind arrays values so_far split feedless none = λ all file.
    let found = behind_arrays arrays all rest (recursion_from_All IsValue arrays values) (recursion_from_All IsValue all file.each) (sym file.whole ∙ so_far) in
    first found.0 found.1 found.2
  where
    first : (more : List PlainArray) → AllByRecursion IsValue more → rest ≡ file_bytes more → ⊥
    first [] each is = omega (arith, ap length (sym split ∙ is), length-append line (line_feed ∷ behind))
    first (array ∷ more) each is =
        none array each.0 (same_line line (line_utf8 (array_text array)) behind (file_bytes more) feedless (no_feed array each.0) (sym split ∙ is ∙ append_assoc (line_utf8 (array_text array)) (line_feed ∷ []) (file_bytes more)))

-- a last line without its line feed
pub unended : (bytes rest : List ℕ) (arrays : List PlainArray) → All IsValue arrays → bytes ≡ file_bytes arrays ++ rest → HasNoFeed rest → 0 < length rest → AreNoComponents bytes
unended bytes rest arrays values so_far feedless some = λ all file.
    let found = behind_arrays arrays all rest (recursion_from_All IsValue arrays values) (recursion_from_All IsValue all file.each) (sym file.whole ∙ so_far) in
    first found.0 found.2
  where
    first : (more : List PlainArray) → rest ≡ file_bytes more → ⊥
    first [] is = omega (arith, ap length is, some)
    first (array ∷ more) is =
        let text : List ℕ = line_utf8 (array_text array) in
        let split : rest ≡ text ++ line_feed ∷ file_bytes more = is ∙ append_assoc text (line_feed ∷ []) (file_bytes more) in
        let within : length text < length rest = omega (arith, ap length split, length-append text (line_feed ∷ file_bytes more)) in
        feedless (length text) 0 within (ap (λ (r : List ℕ). get_or r (length text) 0) split ∙ get_or_at text line_feed (file_bytes more) 0 (length text) refl)

-- at the end of a file all its components are read
pub all_read : (bytes rest : List ℕ) (arrays : List PlainArray) → length bytes ≤ most_file_bytes → All IsValue arrays → bytes ≡ file_bytes arrays ++ rest → rest ≡ [] → AreComponents bytes arrays
all_read bytes rest arrays small values so_far none = record {
  small = small;
  each = values;
  whole = so_far ∙ ap (λ (more : List ℕ). file_bytes arrays ++ more) none ∙ append-nil (file_bytes arrays);
}

-- what is read behind the last line feed
pub at_end : {V : Type 0} (items_of : V → List PlainArray) (bytes rest : List ℕ) (arrays : List PlainArray) → length bytes ≤ most_file_bytes → All IsValue arrays → bytes ≡ file_bytes arrays ++ rest → HasNoFeed rest
    → (found : Option V) → MatchOption found (0 < length rest) (λ all. (rest ≡ []) × (items_of all ≡ arrays)) → MatchOption found (AreNoComponents bytes) (λ all. AreComponents bytes (items_of all))
at_end items_of bytes rest arrays small values so_far feedless None some = unended bytes rest arrays values so_far feedless some
at_end items_of bytes rest arrays small values so_far feedless (Some all) is =
    subst (AreComponents bytes) (sym is.1) (all_read bytes rest arrays small values so_far is.0)

-- what the glyphs of a line are, its bytes are
pub spelled : {E : Type 0} (bytes glyphs : List ℕ) → Spells bytes glyphs → (found : Result (Option PlainArray) E)
    → IfOk found (λ read. MatchOption read ((array : PlainArray) → IsValue array → glyphs ≢ array_text array) (λ array. IsValue array × (glyphs ≡ array_text array)))
    → IfOk found (λ read. MatchOption read ((array : PlainArray) → IsValue array → bytes ≢ line_utf8 (array_text array)) (λ array. IsValue array × (bytes ≡ line_utf8 (array_text array))))
spelled bytes glyphs spells (Err why) is = is
spelled bytes glyphs spells (Ok None) none = λ array value same. none array value (one_line bytes glyphs (array_text array) spells (spells_text bytes array value same))
spelled bytes glyphs spells (Ok (Some array)) is = (is.0, spells.1 ∙ ap line_utf8 is.1)

-- the bytes of a file tell its components
same_arrays : (arrays others : List PlainArray) → AllByRecursion IsValue arrays → AllByRecursion IsValue others → file_bytes arrays ≡ file_bytes others → arrays ≡ others
same_arrays [] [] values each e = refl
same_arrays [] (other ∷ others) values each e =
    absurd (omega (arith, ap length e, length-append (line_text (array_text other)) (file_bytes others), length-append (line_utf8 (array_text other)) (line_feed ∷ [])))
same_arrays (array ∷ arrays) [] values each e =
    absurd (omega (arith, ap length e, length-append (line_text (array_text array)) (file_bytes arrays), length-append (line_utf8 (array_text array)) (line_feed ∷ [])))
same_arrays (array ∷ arrays) (other ∷ others) values each e =
    let same = same_first_line (array_text array) (array_text other) (file_bytes arrays) (file_bytes others) (array_glyphs array (printable array values.0)) (array_glyphs other (printable other each.0)) e in
    let first : array ≡ other = same_text array other (printable array values.0) (printable other each.0) same.0 in
    ap (λ (a : PlainArray). a ∷ arrays) first ∙ ap (λ (rest : List PlainArray). other ∷ rest) (same_arrays arrays others values.1 each.1 same.1)

pub same_components : (bytes : List ℕ) (arrays others : List PlainArray) → AreComponents bytes arrays → AreComponents bytes others → arrays ≡ others
same_components bytes arrays others a b =
    same_arrays arrays others (recursion_from_All IsValue arrays a.each) (recursion_from_All IsValue others b.each) (sym a.whole ∙ b.whole)

-- the component at a place
pub got : (arrays : List PlainArray) (at : ℕ) (found : Option (Bor PlainArray)) → IsGetResult arrays at at found → option_copied found ≡ slice_get arrays at
got arrays at None item = sym (slice_get_past arrays at (ltb-false at (length arrays) (sym item.0)))
got arrays at (Some array) item = sym (slice_get_read arrays (length arrays) at array.now refl (ltb-true at (length arrays) (sym item.0)) item.1)

-- the components after a change are values where those before and the new one are
pub values_changed : (number : Option ℕ) (arrays : List PlainArray) (value : PlainArray) (later : List PlainArray) → All IsValue arrays → IsValue value → components_changed number arrays value ≡ Some later → All IsValue later
values_changed None arrays value later values is change = subst (All IsValue) (same_Some (arrays ++ value ∷ []) later change) (All-push IsValue arrays value values is)
values_changed (Some number) arrays value later values is change = by (has_component number arrays) change
  where
    by : (b : Bool) → cond b (Some (take (number - 1) arrays ++ value ∷ drop number arrays)) None ≡ Some later → All IsValue later
    by false none = absurd (none-some later none)
    by true some =
        subst (All IsValue) (same_Some (take (number - 1) arrays ++ value ∷ drop number arrays) later some)
        (All-append IsValue (take (number - 1) arrays) (value ∷ drop number arrays) (All-take IsValue (number - 1) arrays values) (All-cons IsValue value (drop number arrays) is (All-drop IsValue number arrays values)))
