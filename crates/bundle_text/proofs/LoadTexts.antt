-- The text of a load is the text of a bundle.
use Rattle.std.proofs.Common.{◌≡◌, ◌≢◌, ◌≤◌, ◌<◌, ◌+◌, ◌++◌, ◌&&◌, ◌==◌, ◌∷◌, ◌^◌, ◌∙◌, ℕ, Bool, true, not, nat_lt, leb, if◌then◌else◌, List, [], length, map, codes, refl, ap, sym, inl, arith, append_assoc}
use Rattle.std.proofs.lemmas.Bool.Decides.{nat_tests}
use Rattle.std.proofs.lemmas.List.Elements.{All-nil, All-cons, All-append, All-map, All-weaker, All-from_recursion}
use Rattle.std.specs.Char.{encode_utf8}
use Rattle.std.specs.Fmt.{decimal, digits}
use Rattle.std.specs.List.{All, list_all, position_or_len, flat_map}
use Rattle.apl_arrays.specs.Glyph.{IsGlyph, is_between, line_utf8, scalars}
use Rattle.bundle_text.specs.Bundle.{BundleText, Page, Sheet, bundle_said_by, lines_of, bytes_of_lines, user_section}
use Rattle.bundle_text.specs.BundleLine.{PlainLine, IsBundleLine, input, user, end}
use Rattle.bundle_text.specs.Load.{load_text, utf8}
use Rattle.bundle_text.specs.Rules.{IsBundle, IsContent, IsFile, IsClockReading, IsUser, IsUserNumber, PlainBundle}
use Rattle.bundle_text.specs.User.{PlainUser}
use Rattle.line_text.proofs.Ascii.{plain_utf8}
use Rattle.line_text.proofs.Decimals.{digit_limit_wide, digits_are_plain}
use Rattle.line_text.proofs.GlyphTexts.{plain_glyphs}
use Rattle.line_text.proofs.Spans.{both}

-- lines that pass tests are content lines

abbrev is_glyph : ℕ → Bool
is_glyph code = is_between 32 162 code && not (code == 127)

glyph_passes : (code : ℕ) → is_glyph code ≡ true → IsGlyph code
glyph_passes code e =
    let parts = both (is_between 32 162 code) (not (code == 127)) e in
    let sides = both (leb 32 code) (leb code 162) parts.0 in
    (grind (arith, nat_tests), grind (arith, nat_tests), λ same. grind (arith, nat_tests))

abbrev is_content : List ℕ → Bool
is_content line = list_all is_glyph line && leb (length line) 1000

each_passes : {A : Type 0} (p : A → Bool) (ok : A → Type 0) → ((x : A) → p x ≡ true → ok x) → (xs : List A) → list_all p xs ≡ true → All ok xs
each_passes p ok known [] e = All-nil ok
each_passes p ok known (x ∷ xs) e =
    let parts = both (p x) (list_all p xs) e in
    All-cons ok x xs (known x parts.0) (each_passes p ok known xs parts.1)

content_passes : (line : List ℕ) → is_content line ≡ true → IsContent line
content_passes line e =
    let parts = both (list_all is_glyph line) (leb (length line) 1000) e in
    record { glyphs = each_passes is_glyph IsGlyph glyph_passes line parts.0; short = grind (arith, nat_tests) }

contents_pass : (lines : List (List ℕ)) → list_all is_content lines ≡ true → All IsContent lines
contents_pass = each_passes is_content IsContent content_passes

-- the lines, as glyphs

abbrev glyph_of : ℕ → ℕ
glyph_of character = if nat_lt character 128 then character else 128 + position_or_len (λ other. other == character) scalars

abbrev written : List (List ℕ) → List (List ℕ)
written lines = map (map glyph_of) lines

abbrev giver_front : List (List ℕ)
giver_front = written (codes "∇SEND N;I" ∷ codes "I←0" ∷ codes "A:→(I≥N)/0" ∷ codes "X←I+⍳10⌊N-I" ∷ codes "I←I+10" ∷ codes "→A" ∷ codes "∇" ∷ codes "1002 ⎕SVO 'X'" ∷ codes "1 1 1 1 ⎕SVC 'X'" ∷ [])

abbrev sending : ℕ → List ℕ
sending n = codes "SEND " ++ decimal n

abbrev giver_end : List (List ℕ)
giver_end = written (codes "X←⍳0" ∷ [])

abbrev giver : ℕ → PlainUser
giver n = record { number = 1001; lines = giver_front ++ (sending n ∷ giver_end) }

abbrev taker : PlainUser
taker = record { number = 1002; lines = written (codes "∇R←GET;V" ∷ codes "R←0" ∷ codes "A:V←X" ∷ codes "→(0=⍴V)/0" ∷ codes "R←R+(+/V)" ∷ codes "→A" ∷ codes "∇" ∷ codes "1001 ⎕SVO 'X'" ∷ codes "1 1 1 1 ⎕SVC 'X'" ∷ codes "GET" ∷ []) }

abbrev pub page_of : ℕ → Page
page_of n = record { users = giver n ∷ taker ∷ []; orders = []; files = []; clocks = [] }

abbrev pub load_of : ℕ → PlainBundle
load_of n = bundle_said_by (page_of n)

-- they are content lines

sending_content : (n : ℕ) → n < 2 ^ 64 → IsContent (sending n)
sending_content n fits =
    let few : length (decimal n) ≤ 20 = digit_limit_wide n fits in
    record { glyphs = plain_glyphs (sending n) (digits_are_plain n fits); short = omega (arith, few) }

giver_contents : (n : ℕ) → n < 2 ^ 64 → All IsContent (giver n).lines
giver_contents n fits =
    All-append IsContent giver_front (sending n ∷ giver_end) (contents_pass giver_front refl)
    (All-cons IsContent (sending n) giver_end (sending_content n fits) (contents_pass giver_end refl))

taker_contents : All IsContent taker.lines
taker_contents = contents_pass taker.lines refl

giver_rules : (n : ℕ) → n < 2 ^ 64 → IsUser (giver n)
giver_rules n fits = record { number = (omega arith, omega arith); few = omega arith; each = giver_contents n fits }

taker_rules : IsUser taker
taker_rules = record { number = (omega arith, omega arith); few = omega arith; each = taker_contents }

rules_of_load : (n : ℕ) → n < 2 ^ 64 → IsBundle (load_of n)
rules_of_load n fits = record {
  few = omega arith;
  ascending = (omega arith, tt);
  each = All-cons IsUser (giver n) (taker ∷ []) (giver_rules n fits) (All-cons IsUser taker [] taker_rules (All-nil IsUser));
  few_turns = omega arith;
  parties = refl;
  few_files = omega arith;
  names_ascend = tt;
  each_file = All-nil IsFile;
  few_readings = omega arith;
  readings = All-nil IsClockReading;
}

-- and each line has its form

section_forms : (one : PlainUser) → IsUser one → All IsBundleLine (user_section one)
section_forms one is =
    All-cons IsBundleLine (user one.number) (map (λ line. input line) one.lines) is.number
    (All-map IsBundleLine (λ line. input line) one.lines (All-weaker IsContent (λ line. All IsGlyph line) (λ line content. content.glyphs) one.lines is.each))

forms_of_load : (n : ℕ) → n < 2 ^ 64 → All IsBundleLine (lines_of (page_of n))
forms_of_load n fits =
    let ends : All IsBundleLine (end ∷ []) = All-cons IsBundleLine end [] tt (All-nil IsBundleLine) in
    let second : All IsBundleLine (user_section taker ++ []) = All-append IsBundleLine (user_section taker) [] (section_forms taker taker_rules) (All-nil IsBundleLine) in
    let sections : All IsBundleLine (user_section (giver n) ++ (user_section taker ++ [])) = All-append IsBundleLine (user_section (giver n)) (user_section taker ++ []) (section_forms (giver n) (giver_rules n fits)) second in
    All-append IsBundleLine (user_section (giver n) ++ (user_section taker ++ [])) (end ∷ []) sections ends

-- the text

abbrev pub front : List ℕ
front = utf8 (codes "user 1001\n|∇SEND N;I\n|I←0\n|A:→(I≥N)/0\n|X←I+⍳10⌊N-I\n|I←I+10\n|→A\n|∇\n|1002 ⎕SVO 'X'\n|1 1 1 1 ⎕SVC 'X'\n|SEND ")

abbrev pub behind : List ℕ
behind = utf8 (codes "|X←⍳0\nuser 1002\n|∇R←GET;V\n|R←0\n|A:V←X\n|→(0=⍴V)/0\n|R←R+(+/V)\n|→A\n|∇\n|1001 ⎕SVO 'X'\n|1 1 1 1 ⎕SVC 'X'\n|GET\nend\n")

middle : (n : ℕ) → n < 2 ^ 64 → decimal n ++ (10 ∷ behind) ≡ (line_utf8 (decimal n) ++ 10 ∷ []) ++ behind
middle n fits =
    ap (λ (spelled : List ℕ). spelled ++ (10 ∷ behind)) (sym (plain_utf8 (decimal n) (digits_are_plain n fits)))
    ∙ sym (append_assoc (line_utf8 (decimal n)) (10 ∷ []) behind)

text_of_load : (n : ℕ) → n < 2 ^ 64 → load_text n ≡ bytes_of_lines (lines_of (page_of n))
unfolding digits encode_utf8
text_of_load n fits = ap (λ (rest : List ℕ). front ++ rest) (middle n fits)

pub load_is_text : (n : ℕ) → n < 2 ^ 64 → BundleText (load_text n) (load_of n)
load_is_text n fits = record {
  rules = rules_of_load n fits;
  page = page_of n;
  says = refl;
  forms = forms_of_load n fits;
  short = All-nil (λ (sheet : Sheet). All IsContent sheet.lines);
  text = inl (text_of_load n fits);
}
