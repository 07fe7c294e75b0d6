-- The tokens of a line are computed exactly as the grammar has them, and its first error where it stands.
use Rattle.std.proofs.Common.{◌≡◌, ℕ, zero, suc, ◌+◌, ◌-◌, ◌<◌, List, [], ◌∷◌, ◌++◌, Ok, Err, length, drop, refl, sym, ap, subst, ◌∙◌, arith}
use Rattle.std.specs.Prelude.{◌↔◌}
use Rattle.std.specs.List.{list_all}
use Rattle.std.proofs.Math.Seq.{drop-append_seam}
use Rattle.std.proofs.lemmas.Bool.{and_parts, eqb-true}
use Rattle.apl_arrays.specs.Glyph as named
use Rattle.apl_arrays.specs.Glyph.{is_blank}
use Rattle.line_scanner.specs.Token.{PlainKind, PlainToken}
use Rattle.line_scanner.specs.Scanning.{PlainFront, nothing, blank, token, unused, malformed, Fault, character_at, syntax_at, Scanned, front_of, with_token, scan_front, scan_from, reading_of}
use Rattle.line_scanner.specs.Grammar.{AreBlank, TokenNext, BlanksNext, TokensNext, at_end, ReadsFrom, IsReading}
use Rattle.line_scanner.proofs.FrontLaw.{TokenTaken, IsFront, front_sound, token_complete, end_complete, unused_complete, blank_complete, malformed_complete}

-- to pass over glyphs is to begin behind them
pub passes_on : (at passed : ℕ) (line : List ℕ) → scan_from at passed line ≡ scan_from (at + passed) 0 (drop passed line)
unfolding scan_from
passes_on at zero line = ap (λ (k : ℕ). scan_from k 0 line) (omega arith)
passes_on at (suc passed) [] = refl
passes_on at (suc passed) (glyph ∷ rest) = passes_on (at + 1) passed rest ∙ ap (λ (k : ℕ). scan_from k 0 (drop passed rest)) (omega arith)

-- ---- one step, by what stands at the front

nothing_begins : front_of [] ≡ nothing
unfolding front_of
nothing_begins = refl

abbrev made : PlainKind → ℕ → ℕ → PlainToken
made kind at taken = record { kind = kind; at = at; after = at + taken }

pub token_step : (at : ℕ) (line : List ℕ) (kind : PlainKind) (taken : ℕ) → front_of line ≡ token kind taken → 0 < taken
    → scan_from at 0 line ≡ with_token (record { kind = kind; at = at; after = at + taken }) (scan_from (at + taken) 0 (drop taken line))
unfolding scan_from
token_step at [] kind taken e some = absurd (let h : nothing ≡ token kind taken = sym nothing_begins ∙ e in cc)
token_step at (glyph ∷ rest) kind taken e some =
    let last : taken ≡ suc (taken - 1) = omega arith in
    let behind : drop (taken - 1) rest ≡ drop taken (glyph ∷ rest) = ap (λ (k : ℕ). drop k (glyph ∷ rest)) (sym last) in
    let place : at + 1 + (taken - 1) ≡ at + taken = omega arith in
    let beyond : scan_from (at + 1) (taken - 1) rest ≡ scan_from (at + taken) 0 (drop taken (glyph ∷ rest)) = passes_on (at + 1) (taken - 1) rest ∙ ap (λ (k : ℕ). scan_from k 0 (drop (taken - 1) rest)) place ∙ ap (scan_from (at + taken) 0) behind in
    ap (λ front. scan_front front at (λ passed. scan_from (at + 1) passed rest)) e ∙ ap (with_token (made kind at taken)) beyond

pub blank_step : (at : ℕ) (line : List ℕ) → front_of line ≡ blank → scan_from at 0 line ≡ scan_from (at + 1) 0 (drop 1 line)
unfolding scan_from
blank_step at [] e = absurd (let h : nothing ≡ blank = sym nothing_begins ∙ e in cc)
blank_step at (glyph ∷ rest) e = ap (λ front. scan_front front at (λ passed. scan_from (at + 1) passed rest)) e

pub end_step : (at : ℕ) (line : List ℕ) → front_of line ≡ nothing → scan_from at 0 line ≡ Ok []
unfolding scan_from
end_step at [] e = refl
end_step at (glyph ∷ rest) e = ap (λ front. scan_front front at (λ passed. scan_from (at + 1) passed rest)) e

pub unused_step : (at : ℕ) (line : List ℕ) → front_of line ≡ unused → scan_from at 0 line ≡ Err (character_at at)
unfolding scan_from
unused_step at [] e = absurd (let h : nothing ≡ unused = sym nothing_begins ∙ e in cc)
unused_step at (glyph ∷ rest) e = ap (λ front. scan_front front at (λ passed. scan_from (at + 1) passed rest)) e

pub malformed_step : (at : ℕ) (line : List ℕ) → front_of line ≡ malformed → scan_from at 0 line ≡ Err (syntax_at at)
unfolding scan_from
malformed_step at [] e = absurd (let h : nothing ≡ malformed = sym nothing_begins ∙ e in cc)
malformed_step at (glyph ∷ rest) e = ap (λ front. scan_front front at (λ passed. scan_from (at + 1) passed rest)) e

-- ---- what is computed is a reading

nothing_between : (at : ℕ) (line : List ℕ) → BlanksNext at line at line
nothing_between at line = record { blanks = []; whole = refl; are_blank = refl; from = omega arith }

blank_and_blanks : (at : ℕ) (line : List ℕ) (place : ℕ) (rest : List ℕ) → BlanksNext (at + 1) line place rest → BlanksNext at (named.blank ∷ line) place rest
blank_and_blanks at line place rest h = record { blanks = named.blank ∷ h.blanks; whole = ap (λ (xs : List ℕ). named.blank ∷ xs) h.whole; are_blank = h.are_blank; from = omega (arith, h.from) }

blank_and_tokens : (tokens : List PlainToken) (at : ℕ) (line : List ℕ) (place : ℕ) (rest : List ℕ) → TokensNext (at + 1) line tokens place rest → TokensNext at (named.blank ∷ line) tokens place rest
blank_and_tokens [] at line place rest h = blank_and_blanks at line place rest h
blank_and_tokens (first ∷ tokens) at line place rest (more, h, next) = (
  more,
  record {
    blanks = named.blank ∷ h.blanks;
    text = h.text;
    whole = ap (λ (xs : List ℕ). named.blank ∷ xs) h.whole;
    are_blank = h.are_blank;
    is_text = h.is_text;
    ends = h.ends;
    from = omega (arith, h.from);
    to = h.to;
  },
  next,
)

blank_before : (at : ℕ) (line : List ℕ) (reading : Scanned) → ReadsFrom (at + 1) line reading → ReadsFrom at (named.blank ∷ line) reading
blank_before at line (Ok tokens) (place, rest, h, ends) = (place, rest, blank_and_tokens tokens at line place rest h, ends)
blank_before at line (Err (character_at place)) (tokens, rest, h, fault) = (tokens, rest, blank_and_tokens tokens at line place rest h, fault)
blank_before at line (Err (syntax_at place)) (tokens, rest, h, fault) = (tokens, rest, blank_and_tokens tokens at line place rest h, fault)

token_before : (at : ℕ) (line : List ℕ) (kind : PlainKind) (taken : ℕ) (h : TokenTaken line kind taken) (reading : Scanned) → ReadsFrom (at + taken) h.rest reading → ReadsFrom at line (with_token (made kind at taken) reading)
token_before at line kind taken h reading next = go reading next
  where
    first : TokenNext at line (made kind at taken) h.rest
    first = record { blanks = []; text = h.text; whole = h.whole; are_blank = refl; is_text = h.is_text; ends = h.ends; from = omega arith; to = omega (arith, h.len) }

    go : (reading : Scanned) → ReadsFrom (at + taken) h.rest reading → ReadsFrom at line (with_token (made kind at taken) reading)
    go (Ok tokens) (place, rest, next, ends) = (place, rest, (h.rest, first, next), ends)
    go (Err (character_at place)) (tokens, rest, next, fault) = (made kind at taken ∷ tokens, rest, (h.rest, first, next), fault)
    go (Err (syntax_at place)) (tokens, rest, next, fault) = (made kind at taken ∷ tokens, rest, (h.rest, first, next), fault)

sound_by : (at glyph : ℕ) (rest : List ℕ) (front : PlainFront) → IsFront (glyph ∷ rest) front → ((passed : ℕ) → ReadsFrom (at + 1 + passed) (drop passed rest) (scan_from (at + 1) passed rest))
    → ReadsFrom at (glyph ∷ rest) (scan_front front at (λ passed. scan_from (at + 1) passed rest))
sound_by at glyph rest nothing h beyond = (at, glyph ∷ rest, nothing_between at (glyph ∷ rest), h)
sound_by at glyph rest blank (behind, e) beyond =
    let next : ReadsFrom (at + 1) rest (scan_from (at + 1) 0 rest) = subst (λ (k : ℕ). ReadsFrom k rest (scan_from (at + 1) 0 rest)) (omega arith) (beyond 0) in
    subst (λ (xs : List ℕ). ReadsFrom at xs (scan_from (at + 1) 0 rest)) (ap (λ (xs : List ℕ). named.blank ∷ drop 1 xs) e ∙ sym e) (blank_before at rest (scan_from (at + 1) 0 rest) next)
sound_by at glyph rest (token kind taken) h beyond =
    let reading = scan_from (at + 1) (taken - 1) rest in
    let last : taken ≡ suc (taken - 1) = omega (arith, h.some) in
    let behind : drop (taken - 1) rest ≡ h.rest = ap (λ (k : ℕ). drop k (glyph ∷ rest)) (sym last ∙ h.len) ∙ ap (drop (length h.text)) h.whole ∙ drop-append_seam h.text h.rest in
    let place : at + 1 + (taken - 1) ≡ at + taken = omega (arith, h.some) in
    token_before at (glyph ∷ rest) kind taken h reading (subst (λ (k : ℕ). ReadsFrom k h.rest reading) place (subst (λ (xs : List ℕ). ReadsFrom (at + 1 + (taken - 1)) xs reading) behind (beyond (taken - 1))))
sound_by at glyph rest unused h beyond = ([], glyph ∷ rest, nothing_between at (glyph ∷ rest), h)
sound_by at glyph rest malformed h beyond = ([], glyph ∷ rest, nothing_between at (glyph ∷ rest), h)

sound_from : (at passed : ℕ) (line : List ℕ) → ReadsFrom (at + passed) (drop passed line) (scan_from at passed line)
unfolding scan_from
sound_from at zero [] = (at + 0, [], nothing_between (at + 0) [], at_end refl)
sound_from at (suc passed) [] = (at + suc passed, [], nothing_between (at + suc passed) [], at_end refl)
sound_from at (suc passed) (glyph ∷ rest) = subst (λ (k : ℕ). ReadsFrom k (drop passed rest) (scan_from (at + 1) passed rest)) (omega arith) (sound_from (at + 1) passed rest)
sound_from at zero (glyph ∷ rest) =
    let here : ReadsFrom at (glyph ∷ rest) (scan_front (front_of (glyph ∷ rest)) at (λ passed. scan_from (at + 1) passed rest)) = sound_by at glyph rest (front_of (glyph ∷ rest)) (front_sound (glyph ∷ rest)) (λ passed. sound_from (at + 1) passed rest) in
    subst (λ (k : ℕ). ReadsFrom k (glyph ∷ rest) (scan_front (front_of (glyph ∷ rest)) at (λ passed. scan_from (at + 1) passed rest))) (omega arith) here

-- what is computed of a line is a reading of it
pub scan_sound : (line : List ℕ) → IsReading line (reading_of line)
scan_sound line = sound_from 0 0 line

-- ---- a reading is what is computed

over_blanks : (at : ℕ) (blanks rest : List ℕ) → AreBlank blanks → scan_from at 0 (blanks ++ rest) ≡ scan_from (at + length blanks) 0 rest
over_blanks at [] rest are = ap (λ (k : ℕ). scan_from k 0 rest) (omega arith)
over_blanks at (glyph ∷ blanks) rest are =
    let p = and_parts (is_blank glyph) (list_all is_blank blanks) are in
    ap (λ (g : ℕ). scan_from at 0 (g ∷ (blanks ++ rest))) (eqb-true glyph named.blank p.0) ∙ blank_step at (named.blank ∷ (blanks ++ rest)) (blank_complete (blanks ++ rest)) ∙ over_blanks (at + 1) blanks rest p.1
    ∙ ap (λ (k : ℕ). scan_from k 0 rest) (omega arith)

-- tokens before a reading
abbrev pub with_tokens : List PlainToken → Scanned → Scanned
with_tokens [] reading = reading
with_tokens (first ∷ tokens) reading = with_token first (with_tokens tokens reading)

-- tokens before the end of a line
pub with_tokens-ok : (tokens : List PlainToken) → with_tokens tokens (Ok []) ≡ Ok tokens
with_tokens-ok [] = refl
with_tokens-ok (first ∷ tokens) = ap (with_token first) (with_tokens-ok tokens)

-- tokens before an error
pub with_tokens-err : (tokens : List PlainToken) (fault : Fault) → with_tokens tokens (Err fault) ≡ Err fault
with_tokens-err [] fault = refl
with_tokens-err (first ∷ tokens) fault = ap (with_token first) (with_tokens-err tokens fault)

-- a token takes a glyph at the least
pub some_taken : (line : List ℕ) (kind : PlainKind) (taken : ℕ) → IsFront line (token kind taken) → 0 < taken
some_taken line kind taken h = h.some

over_token : (at : ℕ) (line : List ℕ) (first : PlainToken) (more : List ℕ) → TokenNext at line first more → scan_from at 0 line ≡ with_token first (scan_from first.after 0 more)
over_token at line first more h =
    let len = length h.text in
    let front : front_of (h.text ++ more) ≡ token first.kind len = token_complete first.kind h.text more h.is_text h.ends in
    let some : 0 < len = some_taken (h.text ++ more) first.kind len (subst (λ f. IsFront (h.text ++ more) f) front (front_sound (h.text ++ more))) in
    let place : at + length h.blanks ≡ first.at = sym h.from in
    let end : first.at + len ≡ first.after = sym h.to in
    ap (scan_from at 0) h.whole ∙ over_blanks at h.blanks (h.text ++ more) h.are_blank ∙ ap (λ (k : ℕ). scan_from k 0 (h.text ++ more)) place ∙ token_step first.at (h.text ++ more) first.kind len front some
    ∙ ap (λ (xs : List ℕ). with_token (made first.kind first.at len) (scan_from (first.at + len) 0 xs)) (drop-append_seam h.text more)
    ∙ ap (λ (k : ℕ). with_token (record { kind = first.kind; at = first.at; after = k }) (scan_from k 0 more)) end

over_tokens : (tokens : List PlainToken) (at : ℕ) (line : List ℕ) (place : ℕ) (rest : List ℕ) → TokensNext at line tokens place rest → scan_from at 0 line ≡ with_tokens tokens (scan_from place 0 rest)
over_tokens [] at line place rest h = ap (scan_from at 0) h.whole ∙ over_blanks at h.blanks rest h.are_blank ∙ ap (λ (k : ℕ). scan_from k 0 rest) (sym h.from)
over_tokens (first ∷ tokens) at line place rest (more, h, next) = over_token at line first more h ∙ ap (with_token first) (over_tokens tokens first.after more place rest next)

complete_from : (at : ℕ) (line : List ℕ) (reading : Scanned) → ReadsFrom at line reading → scan_from at 0 line ≡ reading
complete_from at line (Ok tokens) (place, rest, h, ends) = over_tokens tokens at line place rest h ∙ ap (with_tokens tokens) (end_step place rest (end_complete rest ends)) ∙ with_tokens-ok tokens
complete_from at line (Err (character_at place)) (tokens, rest, h, fault) = over_tokens tokens at line place rest h ∙ ap (with_tokens tokens) (unused_step place rest (unused_complete rest fault)) ∙ with_tokens-err tokens (character_at place)
complete_from at line (Err (syntax_at place)) (tokens, rest, h, fault) = over_tokens tokens at line place rest h ∙ ap (with_tokens tokens) (malformed_step place rest (malformed_complete rest fault)) ∙ with_tokens-err tokens (syntax_at place)

-- each reading of a line is the one that is computed
pub scan_complete : (line : List ℕ) (reading : Scanned) → IsReading line reading → reading_of line ≡ reading
scan_complete line reading h = complete_from 0 line reading h

-- a reading is what is computed, and the other way round
pub reading_is_computed : (line : List ℕ) (reading : Scanned) → IsReading line reading ↔ (reading_of line ≡ reading)
reading_is_computed line reading = (scan_complete line reading, λ e. subst (λ (r : Scanned). IsReading line r) e (scan_sound line))

-- no line has two readings
pub one_reading : (line : List ℕ) (first second : Scanned) → IsReading line first → IsReading line second → first ≡ second
one_reading line first second h k = sym (scan_complete line first h) ∙ scan_complete line second k
