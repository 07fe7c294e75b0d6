-- A scan that keeps no tokens, step by step.
use Rattle.std.proofs.Common.{◌≡◌, ℕ, ◌+◌, ◌-◌, ◌≤◌, ◌<◌, ℤ, pos, Bool, true, false, List, [], ◌∷◌, ◌++◌, Option, Some, None, Ok, Err, length, take, drop, get_or, refl, sym, ap, subst, ◌∙◌, arith}
use Rattle.std.specs.Prelude.{IsOk}
use Rattle.std.specs.Bool.{beq}
use Rattle.std.specs.Option.{option_map}
use Rattle.std.proofs.lemmas.Option.{same_Some}
use Rattle.line_scanner.specs.declared.first_fault.Passing.{Passing}
use Rattle.line_scanner.specs.declared.first_fault.Passing.TheVariants as passing
use Rattle.line_scanner.specs.declared.refused.ScanRefused.{ScanRefused}
use Rattle.line_scanner.specs.declared.refused.ScanRefused.TheVariants.{CharacterError, SyntaxError, WantOfMemory}
use Rattle.line_scanner.specs.Front.{FitsIn, IsPassedIn, passing_of}
use Rattle.line_scanner.specs.Number.{next_number, next_numbers, number_with_more}
use Rattle.line_scanner.specs.Role.{is_quote}
use Rattle.line_scanner.specs.Scanning.{PlainFront, nothing, blank, token, unused, malformed, Scanned, character_at, syntax_at, IsErrorFound, IsRefusal, chars_from, front_of, reading_of, refusal_in}
use Rattle.line_scanner.specs.Token.{PlainKind, PlainToken}
use Rattle.line_scanner.proofs.Chars.{onto, reads_char, reads_close, reads_closed_end, reads_open_end, reads_quote}
use Rattle.line_scanner.proofs.CharsLaw.{nothing_onto}
use Rattle.line_scanner.proofs.Numbers.{IsReadTo, left_from, reads_all, reads_on}
use Rattle.line_scanner.proofs.Steps.{IsScannedTo, begins_scan, fits_front, scans_blank, scans_end, scans_malformed, scans_token, scans_unused}

-- ---- numbers

-- some numbers of a constant were passed over, up to a place
pub record IsPastNumbers (taken : ℕ) (line : List ℕ) (end : ℕ) : Type 0 where
  pub read : List ℤ
  pub so_far : IsReadTo (pos 0) taken line read end

-- before the second number
pub begins_numbers : (taken : ℕ) (line : List ℕ) (end : ℕ) → end ≡ taken → taken ≤ length line → IsPastNumbers taken line end
begins_numbers taken line end same within =
    subst (λ (n : ℕ). IsPastNumbers taken line n) (sym same)
    (record { read = pos 0 ∷ []; so_far = record { items = refl; glyphs = refl; from = omega arith; within = within } })

-- a number more
pub passes_number : (taken : ℕ) (line : List ℕ) (end : ℕ) (next : ℤ) (n more : ℕ) → IsPastNumbers taken line end → Some (next, n) ≡ next_number (take (length line - end) (drop end line))
    → (0 < n) × (n ≤ length (take (length line - end) (drop end line))) → more ≡ end + n → IsPastNumbers taken line more
passes_number taken line end next n more h e bounds place =
    subst (λ (k : ℕ). IsPastNumbers taken line k) (sym place)
    (record { read = h.read ++ next ∷ []; so_far = reads_on (pos 0) taken line h.read (h.read ++ next ∷ []) end next next n e bounds refl refl h.so_far })

-- all of them
pub passes_numbers : (taken : ℕ) (line : List ℕ) (end : ℕ) → IsPastNumbers taken line end → None ≡ next_number (take (length line - end) (drop end line)) → end ≡ taken + (next_numbers taken line).1
passes_numbers taken line end h e = ap (λ (found : List ℤ × ℕ). found.1) (reads_all (pos 0) taken line h.read end e h.so_far)

-- ---- characters

-- some characters of a constant were passed over, up to a place
pub record IsPastChars (closing : Bool) (line : List ℕ) (at : ℕ) : Type 0 where
  pub read : List ℕ
  pub so_far : onto read at (chars_from closing (drop at line)) ≡ chars_from false line

pub begins_chars : (line : List ℕ) → onto [] 0 (chars_from false line) ≡ chars_from false line
begins_chars line = sym (nothing_onto (chars_from false line))

pub past_char : (closing quote now : Bool) (line : List ℕ) (at glyph : ℕ) → at < length line → glyph ≡ get_or line at glyph → quote ≡ is_quote glyph → beq closing quote ≡ true → now ≡ false → IsPastChars closing line at → IsPastChars now line (at + 1)
past_char closing quote now line at glyph below is by same later h =
    record { read = h.read ++ glyph ∷ []; so_far = reads_char closing quote now line h.read (h.read ++ glyph ∷ []) at glyph (chars_from false line) below is by same refl later h.so_far }

pub past_quote : (closing quote now : Bool) (line : List ℕ) (at glyph : ℕ) → at < length line → glyph ≡ get_or line at glyph → quote ≡ is_quote glyph → beq closing quote ≡ false → closing ≡ false → now ≡ true → IsPastChars closing line at → IsPastChars now line (at + 1)
past_quote closing quote now line at glyph below is by differs was later h =
    record { read = h.read; so_far = reads_quote closing quote now line h.read h.read at glyph (chars_from false line) below is by differs was refl later h.so_far }

pub past_close : (closing quote : Bool) (line : List ℕ) (at glyph : ℕ) → at < length line → glyph ≡ get_or line at glyph → quote ≡ is_quote glyph → beq closing quote ≡ false → closing ≡ true → IsPastChars closing line at
    → Some at ≡ option_map (λ (found : List ℕ × ℕ). found.1) (chars_from false line)
past_close closing quote line at glyph below is by differs was h =
    ap (option_map (λ (found : List ℕ × ℕ). found.1)) (reads_close closing quote line h.read at glyph (chars_from false line) below is by differs was h.so_far)

pub past_closed_end : (closing : Bool) (line : List ℕ) (at : ℕ) → length line ≤ at → at ≤ length line → closing ≡ true → IsPastChars closing line at → Some (length line) ≡ option_map (λ (found : List ℕ × ℕ). found.1) (chars_from false line)
past_closed_end closing line at past fits was h = ap (option_map (λ (found : List ℕ × ℕ). found.1)) (reads_closed_end closing line h.read at (chars_from false line) past fits was h.so_far)

pub past_open_end : (closing : Bool) (line : List ℕ) (at : ℕ) → length line ≤ at → closing ≡ false → IsPastChars closing line at → None ≡ option_map (λ (found : List ℕ × ℕ). found.1) (chars_from false line)
past_open_end closing line at past was h = ap (option_map (λ (found : List ℕ × ℕ). found.1)) (reads_open_end closing line h.read at (chars_from false line) past was h.so_far)

-- ---- a front

passed_by : (count : ℕ) (front : PlainFront) → FitsIn count front → IsPassedIn count (passing_of front)
passed_by count nothing fits = tt
passed_by count blank fits = (omega arith, omega (arith, fits))
passed_by count (token kind taken) fits = fits
passed_by count unused fits = fits
passed_by count malformed fits = tt

-- what is passed over at the front is some of the glyphs
pub passed_in : (line : List ℕ) (how : Passing) → how ≡ passing_of (front_of line) → IsPassedIn (length line) how
passed_in line how is = subst (IsPassedIn (length line)) (sym is) (passed_by (length line) (front_of line) (fits_front line (front_of line) refl))

-- ---- a line

-- some tokens of a line were passed over, up to a place
pub record IsPastTo (line : List ℕ) (at : ℕ) : Type 0 where
  pub tokens : List PlainToken
  pub so_far : IsScannedTo line tokens at

pub begins_past : (line : List ℕ) → IsPastTo line 0
begins_past line = record { tokens = []; so_far = begins_scan line [] refl }

-- what is left of a line
abbrev left : List ℕ → ℕ → List ℕ
left line at = take (length line - at) (drop at line)

over_by : (line : List ℕ) (at taken after : ℕ) (front : PlainFront) → front ≡ front_of (left line at) → passing.Over taken ≡ passing_of front → (0 < taken) × (taken ≤ length (left line at)) → after ≡ at + taken → IsPastTo line at → IsPastTo line after
over_by line at taken after nothing is how fits place h = absurd cc
over_by line at taken after blank is how fits place h =
    let one : taken ≡ 1 = cc in
    let here : after ≡ at + 1 = omega (arith, place, one) in
    subst (IsPastTo line) (sym here) (record { tokens = h.tokens; so_far = scans_blank line h.tokens at is (omega (arith, fits.0, fits.1)) h.so_far })
over_by line at taken after (token kind count) is how fits place h =
    let same : taken ≡ count = cc in
    let whole : token kind taken ≡ front_of (left line at) = ap (token kind) same ∙ is in
    let made : PlainToken = record { kind = kind; at = at; after = after } in
    record { tokens = h.tokens ++ made ∷ []; so_far = scans_token line h.tokens (h.tokens ++ made ∷ []) at taken after kind whole place fits refl h.so_far }
over_by line at taken after unused is how fits place h = absurd cc
over_by line at taken after malformed is how fits place h = absurd cc

-- a blank or a token more
pub goes_past : (line : List ℕ) (at taken after : ℕ) → IsPastTo line at → passing.Over taken ≡ passing_of (front_of (left line at)) → (0 < taken) × (taken ≤ length (left line at)) → after ≡ at + taken → IsPastTo line after
goes_past line at taken after h how fits place = over_by line at taken after (front_of (left line at)) refl how fits place h

ends_by : (line : List ℕ) (at : ℕ) (front : PlainFront) → front ≡ front_of (left line at) → passing.Ends ≡ passing_of front → IsPastTo line at → None ≡ refusal_in (reading_of line)
ends_by line at nothing is how h = ap refusal_in (sym (scans_end line h.tokens at is h.so_far))
ends_by line at blank is how h = absurd cc
ends_by line at (token kind count) is how h = absurd cc
ends_by line at unused is how h = absurd cc
ends_by line at malformed is how h = absurd cc

-- the end of the line
pub ends_past : (line : List ℕ) (at : ℕ) → IsPastTo line at → passing.Ends ≡ passing_of (front_of (left line at)) → None ≡ refusal_in (reading_of line)
ends_past line at h how = ends_by line at (front_of (left line at)) refl how h

unused_by : (line : List ℕ) (at : ℕ) (front : PlainFront) → front ≡ front_of (left line at) → passing.Unused ≡ passing_of front → IsPastTo line at → Some (CharacterError at) ≡ refusal_in (reading_of line)
unused_by line at nothing is how h = absurd cc
unused_by line at blank is how h = absurd cc
unused_by line at (token kind count) is how h = absurd cc
unused_by line at unused is how h = ap refusal_in (sym (scans_unused line h.tokens at is h.so_far))
unused_by line at malformed is how h = absurd cc

-- a glyph without a role
pub stops_unused : (line : List ℕ) (at : ℕ) → IsPastTo line at → passing.Unused ≡ passing_of (front_of (left line at)) → Some (CharacterError at) ≡ refusal_in (reading_of line)
stops_unused line at h how = unused_by line at (front_of (left line at)) refl how h

malformed_by : (line : List ℕ) (at : ℕ) (front : PlainFront) → front ≡ front_of (left line at) → passing.Malformed ≡ passing_of front → IsPastTo line at → Some (SyntaxError at) ≡ refusal_in (reading_of line)
malformed_by line at nothing is how h = absurd cc
malformed_by line at blank is how h = absurd cc
malformed_by line at (token kind count) is how h = absurd cc
malformed_by line at unused is how h = absurd cc
malformed_by line at malformed is how h = ap refusal_in (sym (scans_malformed line h.tokens at is h.so_far))

-- no token begins so
pub stops_malformed : (line : List ℕ) (at : ℕ) → IsPastTo line at → passing.Malformed ≡ passing_of (front_of (left line at)) → Some (SyntaxError at) ≡ refusal_in (reading_of line)
stops_malformed line at h how = malformed_by line at (front_of (left line at)) refl how h

-- the steps of a scan that keeps no tokens
pub ruleset passes = (begins_past, goes_past, ends_past, stops_unused, stops_malformed)

-- ---- why a line is refused

-- where no error is found, there is none
pub no_error : (scanned : Scanned) → None ≡ refusal_in scanned → IsOk scanned
no_error (Ok tokens) none = refl
no_error (Err (character_at at)) none = absurd cc
no_error (Err (syntax_at at)) none = absurd cc

-- an error that is found is why
pub is_error : (scanned : Scanned) (error : ScanRefused) → Some error ≡ refusal_in scanned → IsRefusal error scanned
is_error (Ok tokens) error some = absurd cc
is_error (Err (character_at at)) error some = subst (λ (e : ScanRefused). IsRefusal e (Err (character_at at))) (sym (same_Some error (CharacterError at) some)) refl
is_error (Err (syntax_at at)) error some = subst (λ (e : ScanRefused). IsRefusal e (Err (syntax_at at))) (sym (same_Some error (SyntaxError at) some)) refl

-- and one that was found before
pub was_error : (scanned : Scanned) (error : ScanRefused) → IsErrorFound error scanned → (error ≡ WantOfMemory → ⊥) → IsRefusal error scanned
was_error scanned (CharacterError at) found other = found
was_error scanned (SyntaxError at) found other = found
was_error scanned WantOfMemory found other = absurd (other refl)
