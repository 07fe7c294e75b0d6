-- What stands at the front is computed exactly as the grammar has it.
use Rattle.std.proofs.Common.{◌≡◌, ℕ, ◌+◌, ◌<◌, ℤ, Bool, true, false, cond, List, [], ◌∷◌, ◌++◌, Option, Some, None, length, drop, refl, sym, ap, subst, ◌∙◌, append_assoc, arith}
use Rattle.std.specs.List.{prefix_len, list_all, take_while, flat_map}
use Rattle.std.proofs.lemmas.Bool.{and_parts}
use Rattle.std.proofs.lemmas.List.{length-append}
use Rattle.apl_arrays.specs.Glyph as named
use Rattle.apl_arrays.specs.Glyph.{is_letter, is_digit}
use Rattle.apl_arrays.specs.Name.{goes_on, is_name, IsName, longest_name, name_of_run}
use Rattle.apl_arrays.proofs.Names.{name_parts, longest_is_found}
use Rattle.line_scanner.specs.declared.role.Role.{Role}
use Rattle.line_scanner.specs.declared.role.Role.TheVariants.{Blank, Letter, Digit, Overbar, Quote, Quad, Lamp, Sign, Unused}
use Rattle.apl_arrays.specs.declared.system.SystemName.{SystemName}
use Rattle.apl_arrays.specs.declared.system.SystemName.TheVariants.{Svo, Svc, Svr, Svq, Svs}
use Rattle.line_scanner.specs.Token.{PlainKind, numbers, chars, name, system, sign}
use Rattle.line_scanner.specs.Role.{role_of, is_quote}
use Rattle.line_scanner.specs.Number.{found_after, number, constant_then, constant}
use Rattle.line_scanner.specs.Scanning.{PlainFront, nothing, blank, token, unused, malformed, chars_from, system_name, name_front, constant_front, chars_front, system_front, front_by, front_of}
use Rattle.apl_arrays.specs.Run.{begins}
use Rattle.apl_arrays.specs.System.{system_text}
use Rattle.line_scanner.specs.Grammar.{AreDigits, overbar_if, IsTokenText, EndsBefore, quoted, doubled, EndsLine, at_end, at_comment, IsUnused, BeginsNoToken, no_digit, out_of_range, open_quote, long_name, no_system_name, IsNumericConstant}
use Rattle.line_scanner.proofs.Roles.{letter_role, digit_role, from_letter, from_digit, from_blank, from_overbar, from_quote, from_quad, from_lamp}
use Rattle.apl_arrays.proofs.Runs.{run_passes, run_stops, run_splits, take_run}
use Rattle.line_scanner.proofs.NumberLaw.{overbar_malformed, digit_malformed, no_digit_no_number, out_of_range_no_number}
use Rattle.line_scanner.proofs.ConstantLaw.{constant_sound, constant_complete}
use Rattle.line_scanner.proofs.CharsLaw.{chars_sound, chars_open, chars_closed, chars_unclosed}
use Rattle.line_scanner.proofs.WordLaw.{run_of_letter, long_run, too_long, system_sound, system_complete, system_none, no_system}

-- a token taken from the front of a line
pub record TokenTaken (line : List ℕ) (kind : PlainKind) (taken : ℕ) : Type 0 where
  pub text : List ℕ
  pub rest : List ℕ
  pub whole : line ≡ text ++ rest
  pub is_text : IsTokenText kind text
  pub ends : EndsBefore kind rest
  pub len : taken ≡ length text
  pub some : 0 < taken

-- what the grammar says of what stands at the front
abbrev pub IsFront : List ℕ → PlainFront → Type 0
IsFront line nothing = EndsLine line
IsFront line blank = (rest : List ℕ) × (line ≡ named.blank ∷ rest)
IsFront line (token kind taken) = TokenTaken line kind taken
IsFront line unused = IsUnused line
IsFront line malformed = BeginsNoToken line

name_by : (first : ℕ) (rest : List ℕ) (is : Bool) → is_letter first ≡ true → is_name (first ∷ take_while goes_on rest) ≡ is
    → IsFront (first ∷ rest) (name_front (cond {A = Option (List ℕ × ℕ)} is (Some (first ∷ take_while goes_on rest, length (first ∷ take_while goes_on rest))) None))
name_by first rest true letter is = record {
  text = first ∷ take_while goes_on rest;
  rest = drop (prefix_len goes_on rest) rest;
  whole = ap (λ (xs : List ℕ). first ∷ xs) (run_splits goes_on rest);
  is_text = (refl, is);
  ends = run_stops goes_on rest;
  len = refl;
  some = omega arith;
}
name_by first rest false letter is =
    long_name first (take_while goes_on rest) (drop (prefix_len goes_on rest) rest) (ap (λ (xs : List ℕ). first ∷ xs) (run_splits goes_on rest)) letter (run_passes goes_on rest) (run_stops goes_on rest)
    (long_run first (take_while goes_on rest) letter (run_passes goes_on rest) is)

name_sound : (first : ℕ) (rest : List ℕ) → is_letter first ≡ true → IsFront (first ∷ rest) (name_front (longest_name (first ∷ rest)))
name_sound first rest letter = subst (λ (run : List ℕ). IsFront (first ∷ rest) (name_front (name_of_run run))) (sym (run_of_letter first rest letter)) (name_by first rest (is_name (first ∷ take_while goes_on rest)) letter refl)

constant_fronts : (line : List ℕ) (found : Option (ℤ × ℕ)) → number line ≡ found → (number line ≡ None → BeginsNoToken line) → IsFront line (constant_front (constant_then found line))
constant_fronts line None e none = none e
constant_fronts line (Some first) e none =
    let h = constant_sound line first e in
    record { text = h.text; rest = h.rest; whole = h.whole; is_text = h.is_constant; ends = h.ends; len = h.len; some = h.some }

chars_by_found : (rest : List ℕ) (found : Option (List ℕ × ℕ)) → chars_from false rest ≡ found → IsFront (named.quote ∷ rest) (chars_front (found_after 1 found))
chars_by_found rest None e = let h = chars_open false rest e in open_quote h.0 (ap (λ (xs : List ℕ). named.quote ∷ xs) h.1)
chars_by_found rest (Some found) e =
    let h = chars_sound false rest found e in
    record {
      text = quoted found.0;
      rest = h.more;
      whole = ap (λ (xs : List ℕ). named.quote ∷ xs) (h.whole ∙ sym (append_assoc (flat_map doubled found.0) (named.quote ∷ []) h.more));
      is_text = refl;
      ends = h.ends;
      len = omega (arith, h.len, length-append (flat_map doubled found.0) (named.quote ∷ []));
      some = omega arith;
    }

four : (which : SystemName) → 4 ≡ length (system_text which)
four Svo = refl
four Svc = refl
four Svr = refl
four Svq = refl
four Svs = refl

system_by_found : (rest : List ℕ) (found : Option SystemName) → system_name (named.quad ∷ rest) ≡ found → IsFront (named.quad ∷ rest) (system_front found)
system_by_found rest None e = no_system_name rest refl (system_none (named.quad ∷ rest) e)
system_by_found rest (Some which) e =
    let h = system_sound (named.quad ∷ rest) which e in
    record { text = system_text which; rest = h.0; whole = h.1; is_text = refl; ends = tt; len = four which; some = omega arith }

at_first : (first code : ℕ) (rest : List ℕ) (front : PlainFront) → first ≡ code → IsFront (code ∷ rest) front → IsFront (first ∷ rest) front
at_first first code rest front e h = subst (λ (g : ℕ). IsFront (g ∷ rest) front) (sym e) h

by_role : (role : Role) (first : ℕ) (rest : List ℕ) → role_of first ≡ role → IsFront (first ∷ rest) (front_by role first rest)
by_role Blank first rest e = (rest, ap (λ (g : ℕ). g ∷ rest) (from_blank first e))
by_role Letter first rest e = name_sound first rest (from_letter first e)
by_role Digit first rest e = constant_fronts (first ∷ rest) (number (first ∷ rest)) refl (digit_malformed first rest (from_digit first e))
by_role Overbar first rest e = subst (λ (g : ℕ). IsFront (g ∷ rest) (constant_front (constant (g ∷ rest)))) (sym (from_overbar first e)) (constant_fronts (named.overbar ∷ rest) (number (named.overbar ∷ rest)) refl (overbar_malformed rest))
by_role Quote first rest e = at_first first named.quote rest (chars_front (found_after 1 (chars_from false rest))) (from_quote first e) (chars_by_found rest (chars_from false rest) refl)
by_role Quad first rest e = subst (λ (g : ℕ). IsFront (g ∷ rest) (system_front (system_name (g ∷ rest)))) (sym (from_quad first e)) (system_by_found rest (system_name (named.quad ∷ rest)) refl)
by_role Lamp first rest e = at_comment rest (ap (λ (g : ℕ). g ∷ rest) (from_lamp first e))
by_role Sign first rest e = record { text = first ∷ []; rest = rest; whole = refl; is_text = (refl, e); ends = tt; len = refl; some = omega arith }
by_role Unused first rest e = record { glyph = first; more = rest; whole = refl; unused = e }

-- what is computed is what the grammar has
pub front_sound : (line : List ℕ) → IsFront line (front_of line)
unfolding front_of
front_sound [] = at_end refl
front_sound (first ∷ rest) = by_role (role_of first) first rest refl

-- ---- the other way round

pub front_of_role : (first : ℕ) (rest : List ℕ) (role : Role) → role_of first ≡ role → front_of (first ∷ rest) ≡ front_by role first rest
unfolding front_of
front_of_role first rest role e = ap (λ (r : Role). front_by r first rest) e

overbar_role : role_of named.overbar ≡ Overbar
unfolding role_of
overbar_role = refl

-- at the front of digits, perhaps behind ¯, stands a constant
numeric_front : (negative : Bool) (digits others : List ℕ) → AreDigits digits → front_of (overbar_if negative ++ (digits ++ others)) ≡ constant_front (constant (overbar_if negative ++ (digits ++ others)))
numeric_front true digits others are = front_of_role named.overbar (digits ++ others) Overbar overbar_role
numeric_front false [] others are = absurd (omega (arith, are.some))
numeric_front false (d ∷ digits) others are = front_of_role d (digits ++ others) Digit (digit_role d (and_parts (is_digit d) (list_all is_digit digits) are.all).0)

constant_text : (values : List ℤ) (text rest : List ℕ) → IsNumericConstant values text → front_of (text ++ rest) ≡ constant_front (constant (text ++ rest))
constant_text [] text rest h = absurd h
constant_text (value ∷ values) text rest (others, h, next) =
    let n = h.is_number in
    let whole : text ++ rest ≡ overbar_if n.negative ++ (n.digits ++ (others ++ rest)) = ap (λ (xs : List ℕ). xs ++ rest) (h.whole ∙ ap (λ (xs : List ℕ). xs ++ others) n.spelled) ∙ append_assoc (overbar_if n.negative ++ n.digits) others rest ∙ append_assoc (overbar_if n.negative) n.digits (others ++ rest) in
    ap front_of whole ∙ numeric_front n.negative n.digits (others ++ rest) n.are_digits ∙ ap (λ (xs : List ℕ). constant_front (constant xs)) (sym whole)

name_text : (text rest : List ℕ) → IsName text → begins goes_on rest ≡ false → front_of (text ++ rest) ≡ token (name text) (length text)
name_text [] rest is ends = absurd cc
name_text (first ∷ others) rest is ends =
    let p = name_parts first others is in
    let text : List ℕ = first ∷ others in
    let found = longest_is_found (text ++ rest) text rest (record { whole = refl; is_name = is; ends = ends }) in
    front_of_role first (others ++ rest) Letter (letter_role first p.0) ∙ ap name_front found

quote_role : role_of named.quote ≡ Quote
unfolding role_of
quote_role = refl

quad_role : role_of named.quad ≡ Quad
unfolding role_of
quad_role = refl

chars_text : (list rest : List ℕ) → begins is_quote rest ≡ false → front_of (quoted list ++ rest) ≡ token (chars list) (length (quoted list))
chars_text list rest ends =
    let flat = flat_map doubled list in
    let regroup : (flat ++ named.quote ∷ []) ++ rest ≡ flat ++ (named.quote ∷ rest) = append_assoc flat (named.quote ∷ []) rest in
    let len : 1 + (length flat + 1) ≡ length (quoted list) = omega (arith, length-append flat (named.quote ∷ [])) in
    front_of_role named.quote ((flat ++ named.quote ∷ []) ++ rest) Quote quote_role ∙ ap (λ (xs : List ℕ). chars_front (found_after 1 (chars_from false xs))) regroup ∙ ap (λ found. chars_front (found_after 1 found)) (chars_closed list rest ends)
    ∙ ap (token (chars list)) len

system_as_quad : (which : SystemName) (rest : List ℕ) → named.quad ∷ drop 1 (system_text which ++ rest) ≡ system_text which ++ rest
system_as_quad Svo rest = refl
system_as_quad Svc rest = refl
system_as_quad Svr rest = refl
system_as_quad Svq rest = refl
system_as_quad Svs rest = refl

system_is_text : (which : SystemName) (rest : List ℕ) → front_of (system_text which ++ rest) ≡ token (system which) (length (system_text which))
system_is_text which rest = ap front_of (sym (system_as_quad which rest)) ∙ front_of_role named.quad (drop 1 (system_text which ++ rest)) Quad quad_role ∙ ap (λ (xs : List ℕ). system_front (system_name xs)) (system_as_quad which rest) ∙ ap system_front (system_complete which rest) ∙ ap (token (system which)) (four which)

-- a token of the grammar at the front is computed
pub token_complete : (kind : PlainKind) (text rest : List ℕ) → IsTokenText kind text → EndsBefore kind rest → front_of (text ++ rest) ≡ token kind (length text)
token_complete (numbers values) text rest is ends = constant_text values text rest is ∙ ap constant_front (constant_complete values text rest is ends)
token_complete (chars list) text rest is ends = ap (λ (xs : List ℕ). front_of (xs ++ rest)) is ∙ chars_text list rest ends ∙ ap (λ (xs : List ℕ). token (chars list) (length xs)) (sym is)
token_complete (name glyphs) text rest is ends = ap (λ (xs : List ℕ). front_of (xs ++ rest)) is.0 ∙ name_text glyphs rest is.1 ends ∙ ap (λ (xs : List ℕ). token (name glyphs) (length xs)) (sym is.0)
token_complete (system which) text rest is ends = ap (λ (xs : List ℕ). front_of (xs ++ rest)) is ∙ system_is_text which rest ∙ ap (λ (xs : List ℕ). token (system which) (length xs)) (sym is)
token_complete (sign glyph) text rest is ends = ap (λ (xs : List ℕ). front_of (xs ++ rest)) is.0 ∙ front_of_role glyph rest Sign is.1 ∙ ap (λ (xs : List ℕ). token (sign glyph) (length xs)) (sym is.0)

lamp_role : role_of named.lamp ≡ Lamp
unfolding role_of
lamp_role = refl

-- the end of a line is computed
pub end_complete : (rest : List ℕ) → EndsLine rest → front_of rest ≡ nothing
unfolding front_of
end_complete rest (at_end e) = ap front_of e
end_complete rest (at_comment comment e) = ap front_of e ∙ front_of_role named.lamp comment Lamp lamp_role

-- a glyph without a role is computed
pub unused_complete : (rest : List ℕ) → IsUnused rest → front_of rest ≡ unused
unused_complete rest h = ap front_of h.whole ∙ front_of_role h.glyph h.more Unused h.unused

blank_role : role_of named.blank ≡ Blank
unfolding role_of
blank_role = refl

-- a blank is computed
pub blank_complete : (rest : List ℕ) → front_of (named.blank ∷ rest) ≡ blank
blank_complete rest = front_of_role named.blank rest Blank blank_role

constant_none : (line : List ℕ) (found : Option (ℤ × ℕ)) → number line ≡ found → found ≡ None → constant_front (constant_then (number line) line) ≡ malformed
constant_none line found e none = ap (λ f. constant_front (constant_then f line)) (e ∙ none)

-- what begins no token is computed
pub malformed_complete : (rest : List ℕ) → BeginsNoToken rest → front_of rest ≡ malformed
malformed_complete rest (no_digit more e ends) =
    ap front_of e ∙ front_of_role named.overbar more Overbar overbar_role ∙ constant_none (named.overbar ∷ more) None (no_digit_no_number more ends) refl
malformed_complete rest (out_of_range negative digits more e are ends wide) =
    ap front_of e ∙ numeric_front negative digits more are ∙ constant_none (overbar_if negative ++ (digits ++ more)) None (out_of_range_no_number negative digits more are ends wide) refl
malformed_complete rest (open_quote list e) =
    ap front_of e ∙ front_of_role named.quote (flat_map doubled list) Quote quote_role ∙ ap (λ found. chars_front (found_after 1 found)) (chars_unclosed list)
malformed_complete rest (long_name first others more e letter all ends long) =
    let run : take_while goes_on (first ∷ (others ++ more)) ≡ first ∷ others = run_of_letter first (others ++ more) letter ∙ ap (λ (xs : List ℕ). first ∷ xs) (take_run goes_on others more all ends) in
    ap front_of e ∙ front_of_role first (others ++ more) Letter (letter_role first letter) ∙ ap (λ (xs : List ℕ). name_front (name_of_run xs)) run ∙ ap (λ (b : Bool). name_front (cond {A = Option (List ℕ × ℕ)} b (Some (first ∷ others, length (first ∷ others))) None)) (too_long first others long)
malformed_complete rest (no_system_name more e absent) =
    ap front_of e ∙ front_of_role named.quad more Quad quad_role ∙ ap system_front (no_system (named.quad ∷ more) (λ which others same. absent which others (e ∙ same)))
