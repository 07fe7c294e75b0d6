-- What a line opens, as it is computed and as it stands in the line.
use Rattle.std.proofs.Common.{◌≡◌, ℕ, ◌≤◌, Bool, true, false, eqb, leb, ◌&&◌, List, [], ◌∷◌, ◌++◌, Option, Some, None, length, take, drop, not, refl, sym, ap, subst, ◌∙◌, arith}
use Rattle.std.specs.Prelude.{if◌then◌else◌, is_some, unwrap_or}
use Rattle.std.specs.List.{list_all, prefix_len}
use Rattle.std.specs.Option.{option_map}
use Rattle.std.proofs.Math.Seq.{drop-append_seam}
use Rattle.std.proofs.lemmas.Bool.{and_from, and_parts, eq-eqb, eqb-true, le-leb, leb-true, ne_eqb}
use Rattle.std.proofs.lemmas.Option.{none-some, same_Some}
use Rattle.apl_arrays.specs.Glyph.{blank, del, is_blank, is_letter, left_bracket}
use Rattle.apl_arrays.specs.Name.{goes_on, is_name, longest_name}
use Rattle.apl_arrays.specs.Run.{begins}
use Rattle.apl_arrays.proofs.Names.{found_is_longest, longest_is_found, name_parts}
use Rattle.apl_arrays.proofs.Runs.{drop_run, run_passes, run_splits}
use Rattle.apl_workspace.specs.Blanks.{without_blanks}
use Rattle.apl_workspace.specs.Function.{PlainFunction}
use Rattle.apl_workspace.specs.Header.{PlainHeader, header_of}
use Rattle.apl_workspace.specs.Workspace.{PlainWorkspace, global_in}
use Rattle.apl_workspace.specs.declared.meaning.Meaning.{Meaning}
use Rattle.apl_workspace.specs.declared.meaning.Meaning.TheVariants.{Nothing, Value, Function, Label, Shared}
use Rattle.fn_editor.specs.Closing.{IsBeforeClose, before_close, behind_glyph, body, closes_definition, is_blank_text}
use Rattle.fn_editor.specs.Editing.{Edited, quietly, then_closed}
use Rattle.fn_editor.specs.Editor.{defined_function, editor_of}
use Rattle.fn_editor.specs.Opening.{bracket_behind, is_bare, name_with_bracket, new_editor, opened, opened_as, opened_at, opened_behind, opened_by, opened_by_header, opened_with}
use Rattle.fn_editor.specs.OpeningLaws.{HasBracket, HasNoBracket, IsBare, IsBehind, IsOpened, IsShut, IsOpeningText, Opens, bare_name, closing, name_and_bracket, new_header, shut, staying}
use Rattle.fn_editor.proofs.Closes.{closes_there, is_before_close}
use Rattle.fn_editor.proofs.Numbered.{values_numbered}

-- ---- behind a glyph

first_is : (glyph first : ℕ) (more rest : List ℕ) (b : Bool) → eqb first glyph ≡ b → (if b then Some more else None) ≡ Some rest → first ∷ more ≡ glyph ∷ rest
first_is glyph first more rest true e h = ap (λ (g : ℕ). g ∷ more) (eqb-true first glyph e) ∙ ap (λ (l : List ℕ). glyph ∷ l) (same_Some more rest h)
first_is glyph first more rest false e h = absurd (none-some rest h)

in_front : (glyph : ℕ) (line rest : List ℕ) → behind_glyph glyph line ≡ Some rest → line ≡ glyph ∷ rest
in_front glyph [] rest h = absurd (none-some rest h)
in_front glyph (first ∷ more) rest h = first_is glyph first more rest (eqb first glyph) refl h

stands_behind : (glyph : ℕ) (line rest : List ℕ) → behind_glyph glyph (without_blanks line) ≡ Some rest → IsBehind glyph line rest
stands_behind glyph line rest h = record {
  blanks = take (prefix_len is_blank line) line;
  whole = run_splits is_blank line ∙ ap (λ (back : List ℕ). take (prefix_len is_blank line) line ++ back) (in_front glyph (drop (prefix_len is_blank line) line) rest h);
  are_blank = run_passes is_blank line;
}

is_behind : (glyph : ℕ) → is_blank glyph ≡ false → (line rest : List ℕ) → IsBehind glyph line rest → behind_glyph glyph (without_blanks line) ≡ Some rest
is_behind glyph other line rest h =
    ap (λ (l : List ℕ). behind_glyph glyph (without_blanks l)) h.whole
    ∙ ap (behind_glyph glyph) (drop_run is_blank h.blanks (glyph ∷ rest) h.are_blank other)
    ∙ ap (λ (b : Bool). if b then Some rest else None) (eq-eqb glyph glyph refl)

-- ---- a name with a bracket behind it

-- a name, and what follows the bracket behind it, if one is there
abbrev with_rest : List ℕ → Option (List ℕ) → Option (List ℕ × List ℕ)
with_rest name found = option_map (λ rest. (name, rest)) found

bracket_by : (text : List ℕ) (found : List ℕ × ℕ) (name rest : List ℕ) (o : Option (List ℕ)) → longest_name (without_blanks text) ≡ Some found → behind_glyph left_bracket (without_blanks (drop found.1 (without_blanks text))) ≡ o →
    with_rest found.0 o ≡ Some (name, rest) → HasBracket text name rest
bracket_by text found name rest None e f h = let there : List ℕ × List ℕ = (name, rest) in absurd (none-some there h)
bracket_by text found name rest (Some r) e f h =
    let here : List ℕ × List ℕ = (found.0, r) in
    let there : List ℕ × List ℕ = (name, rest) in
    let same : here ≡ there = same_Some here there h in
    let longest = (found_is_longest (without_blanks text) found.0 found.1 e).1 in
    subst (λ (x : List ℕ × List ℕ). HasBracket text x.0 x.1) same
    (record {
      blanks = take (prefix_len is_blank text) text;
      more = drop found.1 (without_blanks text);
      whole = run_splits is_blank text ∙ ap (λ (back : List ℕ). take (prefix_len is_blank text) text ++ back) longest.whole;
      are_blank = run_passes is_blank text;
      is_name = longest.is_name;
      bracket = stands_behind left_bracket (drop found.1 (without_blanks text)) r f;
    })

bracket_stands : (text name rest : List ℕ) → name_with_bracket text ≡ Some (name, rest) → HasBracket text name rest
bracket_stands text name rest h = by (longest_name (without_blanks text)) refl h
  where
    by : (found : Option (List ℕ × ℕ)) → longest_name (without_blanks text) ≡ found → bracket_behind (without_blanks text) found ≡ Some (name, rest) → HasBracket text name rest
    by None e k = let there : List ℕ × List ℕ = (name, rest) in absurd (none-some there k)
    by (Some found) e k = bracket_by text found name rest (behind_glyph left_bracket (without_blanks (drop found.1 (without_blanks text)))) e refl k

letter_is_no_blank : (glyph : ℕ) → is_letter glyph ≡ true → is_blank glyph ≡ false
letter_is_no_blank glyph e = ne_eqb glyph blank (λ same. let no : false ≡ true = ap is_letter (sym same) ∙ e in cc)

name_begins : (name more : List ℕ) → is_name name ≡ true → begins is_blank (name ++ more) ≡ false
name_begins [] more e = absurd (let no : false ≡ true = e in cc)
name_begins (first ∷ others) more e = letter_is_no_blank first (name_parts first others e).0

-- with a bracket behind blanks a name does not go on
bracket_ends_at : (blanks rest : List ℕ) → is_blank_text blanks ≡ true → begins goes_on (blanks ++ left_bracket ∷ rest) ≡ false
bracket_ends_at [] rest e = refl
bracket_ends_at (first ∷ blanks) rest e = ap goes_on (eqb-true first blank (and_parts (is_blank first) (list_all is_blank blanks) e).0)

bracket_ends : (more rest : List ℕ) → IsBehind left_bracket more rest → begins goes_on more ≡ false
bracket_ends more rest h = ap (begins goes_on) h.whole ∙ bracket_ends_at h.blanks rest h.are_blank

stands_bracket : (text name rest : List ℕ) → HasBracket text name rest → name_with_bracket text ≡ Some (name, rest)
stands_bracket text name rest h =
    ap name_with_bracket h.whole
    ∙ ap (λ (t : List ℕ). bracket_behind t (longest_name t)) (drop_run is_blank h.blanks (name ++ h.more) h.are_blank (name_begins name h.more h.is_name))
    ∙ ap (bracket_behind (name ++ h.more)) (longest_is_found (name ++ h.more) name h.more (record { whole = refl; is_name = h.is_name; ends = bracket_ends h.more rest h.bracket }))
    ∙ ap (λ (l : List ℕ). with_rest name (behind_glyph left_bracket (without_blanks l))) (drop-append_seam name h.more)
    ∙ ap (with_rest name) (is_behind left_bracket refl h.more rest h.bracket)

no_bracket : (text : List ℕ) → name_with_bracket text ≡ None → HasNoBracket text
no_bracket text e name rest has = let there : List ℕ × List ℕ = (name, rest) in none-some there (sym e ∙ stands_bracket text name rest has)

none_found : (text : List ℕ) → HasNoBracket text → name_with_bracket text ≡ None
none_found text free = by (name_with_bracket text) refl
  where
    by : (o : Option (List ℕ × List ℕ)) → name_with_bracket text ≡ o → o ≡ None
    by None e = refl
    by (Some found) e = absurd (free found.0 found.1 (bracket_stands text found.0 found.1 e))

-- ---- a bare header

no_some : (o : Option (List ℕ)) → not (is_some o) ≡ true → o ≡ None
no_some None h = refl
no_some (Some x) h = absurd (let no : false ≡ true = h in cc)

no_items : (l : List (List ℕ)) → leb (length l) 0 ≡ true → l ≡ []
no_items [] h = refl
no_items (x ∷ xs) h = absurd (let few : length (x ∷ xs) ≤ 0 = leb-true (length (x ∷ xs)) 0 h in omega arith)

bare_parts : (header : PlainHeader) → is_bare header ≡ true → IsBare header
bare_parts header h =
    let three = and_parts (not (is_some header.left) && not (is_some header.right) && not (is_some header.result)) (leb (length header.locals) 0) h in
    let two = and_parts (not (is_some header.left) && not (is_some header.right)) (not (is_some header.result)) three.0 in
    let one = and_parts (not (is_some header.left)) (not (is_some header.right)) two.0 in
    record { left = no_some header.left one.0; right = no_some header.right one.1; result = no_some header.result two.1; locals = no_items header.locals three.1 }

bare_is : (header : PlainHeader) → IsBare header → is_bare header ≡ true
bare_is header bare =
    and_from (not (is_some header.left) && not (is_some header.right) && not (is_some header.result)) (leb (length header.locals) 0)
    (and_from (not (is_some header.left) && not (is_some header.right)) (not (is_some header.result))
    (and_from (not (is_some header.left)) (not (is_some header.right)) (ap (λ (o : Option (List ℕ)). not (is_some o)) bare.left) (ap (λ (o : Option (List ℕ)). not (is_some o)) bare.right))
    (ap (λ (o : Option (List ℕ)). not (is_some o)) bare.result))
    (ap (λ (l : List (List ℕ)). leb (length l) 0) bare.locals)

-- ---- what a text opens

opens_new : (w : PlainWorkspace) (text : List ℕ) (header : PlainHeader) (opening : Edited) → HasNoBracket text → header_of text ≡ Some header → global_in w header.name ≡ Nothing → (b : Bool) → leb (length text) 1000 ≡ b →
    (if b then Some (quietly (new_editor text header)) else None) ≡ Some opening → Opens w text opening
opens_new w text header opening free is nothing true short h =
    new_header header free is nothing (leb-true (length text) 1000 short) (sym (same_Some (quietly (new_editor text header)) opening h))
opens_new w text header opening free is nothing false short h = absurd (none-some opening h)

opens_bare : (w : PlainWorkspace) (text : List ℕ) (header : PlainHeader) (function : PlainFunction) (opening : Edited) → HasNoBracket text → header_of text ≡ Some header → global_in w header.name ≡ Function function →
    (b : Bool) → is_bare header ≡ b → (if b then Some (quietly (editor_of function)) else None) ≡ Some opening → Opens w text opening
opens_bare w text header function opening free is named true bare h =
    bare_name header function free is (bare_parts header bare) named (sym (same_Some (quietly (editor_of function)) opening h))
opens_bare w text header function opening free is named false bare h = absurd (none-some opening h)

opens_as : (w : PlainWorkspace) (text : List ℕ) (header : PlainHeader) (opening : Edited) → HasNoBracket text → header_of text ≡ Some header → (meaning : Meaning) → global_in w header.name ≡ meaning →
    opened_as text header meaning ≡ Some opening → Opens w text opening
opens_as w text header opening free is Nothing named h = opens_new w text header opening free is named (leb (length text) 1000) refl h
opens_as w text header opening free is (Function function) named h = opens_bare w text header function opening free is named (is_bare header) refl h
opens_as w text header opening free is (Value value) named h = absurd (none-some opening h)
opens_as w text header opening free is (Label line) named h = absurd (none-some opening h)
opens_as w text header opening free is (Shared copy) named h = absurd (none-some opening h)

opens_by_header : (w : PlainWorkspace) (text : List ℕ) (opening : Edited) → HasNoBracket text → (found : Option PlainHeader) → header_of text ≡ found → opened_by_header w text found ≡ Some opening → Opens w text opening
opens_by_header w text opening free None is h = absurd (none-some opening h)
opens_by_header w text opening free (Some header) is h = opens_as w text header opening free is (global_in w header.name) refl h

opens_at : (w : PlainWorkspace) (text name rest : List ℕ) (opening : Edited) → HasBracket text name rest → (meaning : Meaning) → global_in w name ≡ meaning → opened_at rest meaning ≡ Some opening → Opens w text opening
opens_at w text name rest opening has (Function function) named h = name_and_bracket name rest function has named h
opens_at w text name rest opening has Nothing named h = absurd (none-some opening h)
opens_at w text name rest opening has (Value value) named h = absurd (none-some opening h)
opens_at w text name rest opening has (Label line) named h = absurd (none-some opening h)
opens_at w text name rest opening has (Shared copy) named h = absurd (none-some opening h)

opens_is : (w : PlainWorkspace) (text : List ℕ) (opening : Edited) → opened_by w text ≡ Some opening → Opens w text opening
opens_is w text opening h = by (name_with_bracket text) refl h
  where
    by : (found : Option (List ℕ × List ℕ)) → name_with_bracket text ≡ found → opened_with w text found ≡ Some opening → Opens w text opening
    by None e k = opens_by_header w text opening (no_bracket text e) (header_of text) refl k
    by (Some found) e k = opens_at w text found.0 found.1 opening (bracket_stands text found.0 found.1 e) (global_in w found.0) refl k

is_opened : (w : PlainWorkspace) (text : List ℕ) (opening : Edited) → Opens w text opening → opened_by w text ≡ Some opening
is_opened w text opening (new_header header free is nothing short same) =
    ap (opened_with w text) (none_found text free)
    ∙ ap (opened_by_header w text) is
    ∙ ap (opened_as text header) nothing
    ∙ ap (λ (b : Bool). if b then Some (quietly (new_editor text header)) else None) (le-leb (length text) 1000 short)
    ∙ ap Some (sym same)
is_opened w text opening (bare_name header function free is bare named same) =
    ap (opened_with w text) (none_found text free)
    ∙ ap (opened_by_header w text) is
    ∙ ap (opened_as text header) named
    ∙ ap (λ (b : Bool). if b then Some (quietly (editor_of function)) else None) (bare_is header bare)
    ∙ ap Some (sym same)
is_opened w text opening (name_and_bracket name rest function has named h) = ap (opened_with w text) (stands_bracket text name rest has) ∙ ap (opened_at rest) named ∙ h

-- ---- what a line opens

text_is : (rest : List ℕ) → IsOpeningText rest (body rest) (closes_definition rest)
text_is rest = by (before_close rest) refl
  where
    by : (o : Option (List ℕ)) → before_close rest ≡ o → IsOpeningText rest (unwrap_or o rest) (is_some o)
    by None e = staying refl refl (λ front is. none-some front (sym e ∙ closes_there rest front is))
    by (Some front) e = closing refl (is_before_close rest front e)

none_before : (rest : List ℕ) → ((front : List ℕ) → ¬ IsBeforeClose rest front) → before_close rest ≡ None
none_before rest none = by (before_close rest) refl
  where
    by : (o : Option (List ℕ)) → before_close rest ≡ o → o ≡ None
    by None e = refl
    by (Some front) e = absurd (none front (is_before_close rest front e))

is_text : (rest text : List ℕ) (closes : Bool) → IsOpeningText rest text closes → (body rest ≡ text) × (closes_definition rest ≡ closes)
is_text rest text closes (closing is before) =
    let found = closes_there rest text before in
    (ap (λ (o : Option (List ℕ)). unwrap_or o rest) found, ap (λ (o : Option (List ℕ)). is_some o) found ∙ sym is)
is_text rest text closes (staying is same none) =
    let found = none_before rest none in
    (ap (λ (o : Option (List ℕ)). unwrap_or o rest) found ∙ same, ap (λ (o : Option (List ℕ)). is_some o) found ∙ sym is)

line_by : (w : PlainWorkspace) (line : List ℕ) (done : Edited) (rest : List ℕ) → behind_glyph del (without_blanks line) ≡ Some rest → (o : Option Edited) → opened_by w (body rest) ≡ o →
    option_map (then_closed (closes_definition rest)) o ≡ Some done → IsOpened w line done
line_by w line done rest e None f h = absurd (none-some done h)
line_by w line done rest e (Some opening) f h = record {
  rest = rest;
  text = body rest;
  closes = closes_definition rest;
  opening = opening;
  behind = stands_behind del line rest e;
  text_of = text_is rest;
  opens = opens_is w (body rest) opening f;
  same = sym (same_Some (then_closed (closes_definition rest) opening) done h);
}

pub line_opens : (w : PlainWorkspace) (line : List ℕ) (done : Edited) → opened w line ≡ Some done → IsOpened w line done
line_opens w line done h = by (behind_glyph del (without_blanks line)) refl h
  where
    by : (o : Option (List ℕ)) → behind_glyph del (without_blanks line) ≡ o → opened_behind w o ≡ Some done → IsOpened w line done
    by None e k = absurd (none-some done k)
    by (Some rest) e k = line_by w line done rest e (opened_by w (body rest)) refl k

pub opens_line : (w : PlainWorkspace) (line : List ℕ) (done : Edited) → IsOpened w line done → opened w line ≡ Some done
opens_line w line done h =
    let parts = is_text h.rest h.text h.closes h.text_of in
    ap (opened_behind w) (is_behind del refl line h.rest h.behind)
    ∙ ap (λ (b : Bool). option_map (then_closed b) (opened_by w (body h.rest))) parts.1
    ∙ ap (λ (t : List ℕ). option_map (then_closed h.closes) (opened_by w t)) parts.0
    ∙ ap (λ (o : Option Edited). option_map (then_closed h.closes) o) (is_opened w h.text h.opening h.opens)
    ∙ ap Some (sym h.same)

-- ---- a function that is opened and closed at once

pub shut_opens : (w : PlainWorkspace) (line : List ℕ) (function : PlainFunction) → IsShut w line function → opened w line ≡ Some (shut function)
shut_opens w line function h =
    opens_line w line (shut function)
    (record {
      rest = h.rest;
      text = h.text;
      closes = true;
      opening = quietly (editor_of function);
      behind = h.behind;
      text_of = closing refl h.before;
      opens = bare_name h.header function h.no_bracket h.reads h.bare h.named refl;
      same = refl;
    })

pub shut_is_same : (function : PlainFunction) → defined_function (shut function).editor ≡ function
shut_is_same function = ap (λ (lines : List (List ℕ)). let f : PlainFunction = record { text = function.text; header = function.header; lines = lines } in f) (values_numbered 1 function.lines)
