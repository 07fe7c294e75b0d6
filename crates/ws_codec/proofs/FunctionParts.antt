-- Functions are read of their bytes, and of no others.
use Rattle.std.proofs.Common.{◌≡◌, ℕ, ◌+◌, ◌^◌, ◌<◌, ◌≤◌, Bool, true, false, List, [], ◌++◌, Option, Some, None, Ok, length, refl, sym, ap, ◌∙◌, subst, append_assoc, leb-true, arith}
use Rattle.std.specs.Prelude.{nat_le, if◌then◌else◌}
use Rattle.std.specs.List.{flat_map}
use Rattle.std.proofs.lemmas.Bool.{and_parts}
use Rattle.byteorder.specs.Endian.{big_bytes}
use Rattle.apl_arrays.specs.Limits.{most_line_glyphs}
use Rattle.apl_arrays.specs.Name.{same_name}
use Rattle.apl_workspace.specs.Function.{PlainFunction, function_with}
use Rattle.apl_workspace.specs.Header.{PlainHeader, header_of}
use Rattle.apl_workspace.specs.Limits.{most_function_lines, most_weight}
use Rattle.apl_workspace.proofs.NameLaw.{equal_names, own_name}
use Rattle.ws_codec.specs.Fields.{read_glyphs, read_number}
use Rattle.ws_codec.specs.Functions.{read_function, glyph_count, read_header, header_named, is_within, read_line, read_lines, read_next_line}
use Rattle.ws_codec.specs.Reading.{Reader, ◌>>=◌, keeps, required, repeated}
use Rattle.ws_codec.specs.SavedText.{function_bytes, line_bytes}
use Rattle.ws_codec.specs.Sound.{AreBytes, Follow, IsDefined, IsLineOfFunction}
use Rattle.ws_codec.specs.declared.saved.SavedRule.TheVariants.{Header, Limit}
use Rattle.ws_codec.proofs.FieldParts.{glyphs_back, glyphs_there, number_back, number_there}
use Rattle.ws_codec.proofs.NumberParts.{rest_bytes}
use Rattle.ws_codec.proofs.Repeats.{IsBack, IsThere, all_back, all_there}
use Rattle.ws_codec.proofs.Told.{after_keeps, after_known, bind_ok, same_behind, same_first, tell}

-- so few fit two bytes
few_fit : (most weight count : ℕ) → most ≤ 1000 → is_within most weight count ≡ true → count < 256 ^ 2
few_fit most weight count small within =
    let parts = and_parts (nat_le count most) (nat_le (weight + count) most_weight) within in
    let le : count ≤ most = leb-true count most parts.0 in
    omega (arith, le, small)

-- lines

pub line_there : (weight : ℕ) (line rest : List ℕ) → IsLineOfFunction weight line → read_line weight (line_bytes line ++ rest) ≡ Ok (line, rest)
unfolding read_line keeps
line_there weight line rest h =
    let fits = few_fit most_line_glyphs weight (length line) (omega arith) h.within in
    rw (append_assoc (big_bytes 2 (length line)) line rest, number_there 2 (length line) (line ++ rest) fits, h.within) (glyphs_there (length line) line rest refl h.coded)

pub line_back : (weight : ℕ) (bytes line rest : List ℕ) → AreBytes bytes → read_line weight bytes ≡ Ok (line, rest) → IsLineOfFunction weight line × (bytes ≡ line_bytes line ++ rest)
unfolding read_line
line_back weight bytes line rest are e =
    let first = bind_ok (read_number 2 bytes) (λ count. keeps (is_within most_line_glyphs weight count.0) Limit (length bytes) >>= λ few. read_glyphs count.0 count.1) (line, rest) e in
    let count = number_back 2 bytes first.0.0 first.0.1 are first.1 in
    let few = after_keeps (is_within most_line_glyphs weight first.0.0) Limit (length bytes) (λ few. read_glyphs first.0.0 first.0.1) (line, rest) first.2 in
    let glyphs = glyphs_back first.0.0 first.0.1 line rest few.1 in (
      record {
        within = ap (is_within most_line_glyphs weight) glyphs.0 ∙ few.0;
        coded = glyphs.1;
      },
      count.1 ∙ ap (λ (t : List ℕ). big_bytes 2 first.0.0 ++ t) glyphs.2 ∙ ap (λ (n : ℕ). big_bytes 2 n ++ (line ++ rest)) (sym glyphs.0) ∙ sym (append_assoc (big_bytes 2 (length line)) line rest),
    )

-- headers

named_there : (name : List ℕ) (found : Option PlainHeader) (header : PlainHeader) → found ≡ Some header → header.name ≡ name → header_named name found ≡ Some header
named_there name found header is named =
    ap (header_named name) is ∙ ap (λ (b : Bool). if b then Some header else None) (ap (λ (n : List ℕ). same_name n name) named ∙ own_name name)

named_by : (name : List ℕ) (found header : PlainHeader) (b : Bool) → same_name found.name name ≡ b → (if b then Some found else None) ≡ Some header → (found ≡ header) × (header.name ≡ name)
named_by name found header true is e =
    let same : found ≡ header = cc in
    (same, ap (λ (h : PlainHeader). h.name) (sym same) ∙ equal_names found.name name is)
named_by name found header false is e = absurd (let none : ⊥ = cc in none)

named_back : (name : List ℕ) (found : Option PlainHeader) (header : PlainHeader) → header_named name found ≡ Some header → (found ≡ Some header) × (header.name ≡ name)
named_back name None header e = absurd (let none : ⊥ = cc in none)
named_back name (Some found) header e =
    let parts = named_by name found header (same_name found.name name) refl e in
    (ap (λ (h : PlainHeader). Some h) parts.0, parts.1)

header_there : (name : List ℕ) (weight : ℕ) (text : List ℕ) (header : PlainHeader) (rest : List ℕ) → IsLineOfFunction weight text → header_of text ≡ Some header → header.name ≡ name → read_header name weight (line_bytes text ++ rest) ≡ Ok ((text, header), rest)
unfolding read_header required
header_there name weight text header rest line is named = rw (line_there weight text rest line, named_there name (header_of text) header is named) refl

pub record IsHeaderOf (name : List ℕ) (weight : ℕ) (bytes text : List ℕ) (header : PlainHeader) (rest : List ℕ) : Type 0 where
  pub line : IsLineOfFunction weight text
  pub is : header_of text ≡ Some header
  pub named : header.name ≡ name
  pub spelled : bytes ≡ line_bytes text ++ rest

header_back : (name : List ℕ) (weight : ℕ) (bytes : List ℕ) (found : List ℕ × PlainHeader) (rest : List ℕ) → AreBytes bytes → read_header name weight bytes ≡ Ok (found, rest) → IsHeaderOf name weight bytes found.0 found.1 rest
unfolding read_header
header_back name weight bytes found rest are e =
    let first = bind_ok (read_line weight bytes) (λ text. required (header_named name (header_of text.0)) Header (length bytes) >>= λ header. tell (text.0, header) text.1) (found, rest) e in
    let header = after_known (header_named name (header_of first.0.0)) Header (length bytes) (λ header. tell (first.0.0, header) first.0.1) (found, rest) first.2 in
    let line = line_back weight bytes first.0.0 first.0.1 are first.1 in
    let named = named_back name (header_of first.0.0) header.0 header.1 in
    let same = same_first (first.0.0, header.0) first.0.1 found rest header.2 in
    let behind = same_behind (first.0.0, header.0) first.0.1 found rest header.2 in
    let made : IsHeaderOf name weight bytes first.0.0 header.0 first.0.1 = record { line = line.0; is = named.0; named = named.1; spelled = line.1 } in
    subst (λ (p : List ℕ × PlainHeader). IsHeaderOf name weight bytes p.0 p.1 rest) same (subst (IsHeaderOf name weight bytes first.0.0 header.0) behind made)

-- lines of a function

abbrev line_behind : ℕ → List (List ℕ) → Reader (List ℕ)
line_behind weight front rest = read_line (weight + glyph_count front) rest

abbrev LineBehind : ℕ → List (List ℕ) → List ℕ → Type 0
LineBehind weight front line = IsLineOfFunction (weight + glyph_count front) line

lines_there_one : (weight : ℕ) → IsThere (line_behind weight) line_bytes (LineBehind weight)
lines_there_one weight front line rest h = line_there (weight + glyph_count front) line rest h

lines_back_one : (weight : ℕ) → IsBack (line_behind weight) line_bytes (LineBehind weight)
lines_back_one weight front bytes line rest are e = line_back (weight + glyph_count front) bytes line rest are e

lines_there : (weight : ℕ) (lines : List (List ℕ)) (rest : List ℕ) → is_within most_function_lines weight (length lines) ≡ true → Follow (LineBehind (weight + length lines)) [] lines → read_lines weight (big_bytes 2 (length lines) ++ (flat_map line_bytes lines ++ rest)) ≡ Ok (lines, rest)
unfolding read_lines keeps
lines_there weight lines rest few follow =
    let fits = few_fit most_function_lines weight (length lines) (omega arith) few in
    rw (number_there 2 (length lines) (flat_map line_bytes lines ++ rest) fits, few) (all_there (line_behind (weight + length lines)) line_bytes (LineBehind (weight + length lines)) (lines_there_one (weight + length lines)) [] lines rest follow)

pub record AreLinesOf (weight : ℕ) (bytes : List ℕ) (lines : List (List ℕ)) (rest : List ℕ) : Type 0 where
  pub count : is_within most_function_lines weight (length lines) ≡ true
  pub follow : Follow (LineBehind (weight + length lines)) [] lines
  pub spelled : bytes ≡ big_bytes 2 (length lines) ++ (flat_map line_bytes lines ++ rest)

lines_back : (weight : ℕ) (bytes : List ℕ) (lines : List (List ℕ)) (rest : List ℕ) → AreBytes bytes → read_lines weight bytes ≡ Ok (lines, rest) → AreLinesOf weight bytes lines rest
unfolding read_lines
lines_back weight bytes lines rest are e =
    let first = bind_ok (read_number 2 bytes) (λ count. keeps (is_within most_function_lines weight count.0) Limit (length bytes) >>= λ few. repeated (read_next_line (weight + count.0)) count.0 [] count.1) (lines, rest) e in
    let few = after_keeps (is_within most_function_lines weight first.0.0) Limit (length bytes) (λ few. repeated (read_next_line (weight + first.0.0)) first.0.0 [] first.0.1) (lines, rest) first.2 in
    let count = number_back 2 bytes first.0.0 first.0.1 are first.1 in
    let left = rest_bytes (big_bytes 2 first.0.0) first.0.1 (subst AreBytes count.1 are) in
    let read = all_back (line_behind (weight + first.0.0)) line_bytes (LineBehind (weight + first.0.0)) (lines_back_one (weight + first.0.0)) first.0.0 [] first.0.1 lines rest left few.1 in
    let same : read.list ≡ lines = sym read.whole in
    let many : first.0.0 ≡ length lines = sym read.many ∙ ap length same in
    record {
      count = ap (is_within most_function_lines weight) (sym many) ∙ few.0;
      follow = subst (λ (n : ℕ). Follow (LineBehind (weight + n)) [] lines) many (subst (Follow (LineBehind (weight + first.0.0)) []) same read.follow);
      spelled = count.1 ∙ ap (λ (n : ℕ). big_bytes 2 n ++ first.0.1) many ∙ ap (λ (t : List ℕ). big_bytes 2 (length lines) ++ t) (read.spelled ∙ ap (λ (t : List (List ℕ)). flat_map line_bytes t ++ rest) same);
    }

-- functions

abbrev lines_bytes : List (List ℕ) → List ℕ
lines_bytes lines = big_bytes 2 (length lines) ++ flat_map line_bytes lines

regrouped : (text : List ℕ) (lines : List (List ℕ)) (rest : List ℕ) → (line_bytes text ++ lines_bytes lines) ++ rest ≡ line_bytes text ++ (big_bytes 2 (length lines) ++ (flat_map line_bytes lines ++ rest))
regrouped text lines rest =
    append_assoc (line_bytes text) (lines_bytes lines) rest ∙ ap (λ (t : List ℕ). line_bytes text ++ t) (append_assoc (big_bytes 2 (length lines)) (flat_map line_bytes lines) rest)

pub function_there : (name : List ℕ) (weight : ℕ) (function : PlainFunction) (rest : List ℕ) → IsDefined name weight function → read_function name weight (function_bytes function ++ rest) ≡ Ok (function, rest)
unfolding read_function
function_there name weight function rest h =
    rw (
      regrouped function.text function.lines rest,
      header_there name (weight + 1) function.text function.header (big_bytes 2 (length function.lines) ++ (flat_map line_bytes function.lines ++ rest)) h.text h.header h.named,
      lines_there (weight + 1 + length function.text) function.lines rest h.count h.lines,
    ) refl

pub function_back : (name : List ℕ) (weight : ℕ) (bytes : List ℕ) (function : PlainFunction) (rest : List ℕ) → AreBytes bytes → read_function name weight bytes ≡ Ok (function, rest) → IsDefined name weight function × (bytes ≡ function_bytes function ++ rest)
unfolding read_function
function_back name weight bytes function rest are e =
    let first = bind_ok (read_header name (weight + 1) bytes) (λ header. read_lines (weight + 1 + length header.0.0) header.1 >>= λ lines. tell (function_with header.0.0 lines.0 header.0.1) lines.1) (function, rest) e in
    let second = bind_ok (read_lines (weight + 1 + length first.0.0.0) first.0.1) (λ lines. tell (function_with first.0.0.0 lines.0 first.0.0.1) lines.1) (function, rest) first.2 in
    let header = header_back name (weight + 1) bytes first.0.0 first.0.1 are first.1 in
    let left = rest_bytes (line_bytes first.0.0.0) first.0.1 (subst AreBytes header.spelled are) in
    let lines = lines_back (weight + 1 + length first.0.0.0) first.0.1 second.0.0 second.0.1 left second.1 in
    let same = same_first (function_with first.0.0.0 second.0.0 first.0.0.1) second.0.1 function rest second.2 in
    let behind = same_behind (function_with first.0.0.0 second.0.0 first.0.0.1) second.0.1 function rest second.2 in
    let made : IsDefined name weight (function_with first.0.0.0 second.0.0 first.0.0.1) = record { text = header.line; header = header.is; named = header.named; count = lines.count; lines = lines.follow } in
    let spelled : bytes ≡ function_bytes (function_with first.0.0.0 second.0.0 first.0.0.1) ++ second.0.1 =
    header.spelled ∙ ap (λ (t : List ℕ). line_bytes first.0.0.0 ++ t) lines.spelled ∙ sym (regrouped first.0.0.0 second.0.0 second.0.1) in
    (subst (IsDefined name weight) same made, spelled ∙ ap (λ (f : PlainFunction). function_bytes f ++ second.0.1) same ∙ ap (λ (t : List ℕ). function_bytes function ++ t) behind)
