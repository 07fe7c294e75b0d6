-- Bytes are the text of one line at the most.
use Rattle.std.proofs.Common.{◌≡◌, ℕ, ◌<◌, ◌^◌, Bool, true, false, cond, List, [], ◌∷◌, ◌++◌, codes, refl, sym, ap, ap₂, ◌∙◌, subst, arith}
use Rattle.std.proofs.lemmas.Bool.{false≢true}
use Rattle.std.proofs.lemmas.Bool.Decides.{nat_tests}
use Rattle.std.proofs.lemmas.Fmt.{decimal_injective}
use Rattle.std.specs.Fmt.{decimal}
use Rattle.apl_arrays.specs.Glyph.{bar, is_digit, line_utf8}
use Rattle.apl_arrays.specs.List.{others_of}
use Rattle.apl_arrays.specs.Run.{begins}
use Rattle.apl_arrays.proofs.Spelling.{bytes_of_low, one_line}
use Rattle.line_text.specs.Lines.{heading}
use Rattle.line_text.proofs.SameNumbers.{begins_count}
use Rattle.sv_events.specs.Entry.{PlainEntry}
use Rattle.sv_journal.specs.EntryText.{entry_text}
use Rattle.sv_journal.specs.IsEntry.{IsEntry}
use Rattle.sv_journal.proofs.SameEntries.{after_party, entry_parts, same_entry}
use Rattle.printed_text.specs.Line.{IsOutputLine, IsTextOf, PlainLine, end, entry, journal, line_glyphs, shown, user}
use Rattle.printed_text.proofs.Printable.{entry_is_printable, line_is_of_glyphs}

-- the first glyph of a line tells what it is: a digit begins an entry

first_glyph : List ℕ → ℕ
first_glyph [] = 0
first_glyph (first ∷ rest) = first

abbrev kind_of_glyphs : List ℕ → ℕ
kind_of_glyphs line = cond (begins is_digit line) 0 (first_glyph line)

abbrev kind_of_line : PlainLine → ℕ
kind_of_line (user number) = 117
kind_of_line (shown line) = 124
kind_of_line journal = 106
kind_of_line (entry place e) = 0
kind_of_line end = 101

digit_first : (place : ℕ) (e : PlainEntry) → IsEntry place e → begins is_digit (entry_text place e) ≡ true
digit_first place e h = ap (begins is_digit) (entry_parts place e) ∙ begins_count place (32 ∷ (decimal e.party ++ (32 ∷ after_party e))) h.most

kind_is : (line : PlainLine) → IsOutputLine line → kind_of_glyphs (line_glyphs line) ≡ kind_of_line line
unfolding first_glyph
kind_is (user number) h = refl
kind_is (shown line) h = refl
kind_is journal h = refl
kind_is (entry place e) h = ap (λ (b : Bool). cond b 0 (first_glyph (entry_text place e))) (digit_first place e h)
kind_is end h = refl

same_glyphs : (line other : PlainLine) → kind_of_line line ≡ kind_of_line other → line_glyphs line ≡ line_glyphs other → IsOutputLine line → IsOutputLine other → line ≡ other
same_glyphs (user m) (user n) k e a b =
    let digits : decimal m ≡ decimal n = cc in
    ap user (decimal_injective m n (omega (arith, a.1)) (omega (arith, b.1)) digits)
same_glyphs (shown x) (shown y) k e a b = ap shown cc
same_glyphs journal journal k e a b = refl
same_glyphs (entry m x) (entry n y) k e a b =
    let same = same_entry m n x y a.most b.most (entry_is_printable m x a) (entry_is_printable n y b) e in
    ap₂ (λ (place : ℕ) (one : PlainEntry). entry place one) same.0 same.1
same_glyphs end end k e a b = refl
same_glyphs _ _ k e a b = absurd (omega (arith, k))

-- lines whose glyphs are the same are one
pub same_line : (line other : PlainLine) → IsOutputLine line → IsOutputLine other → line_glyphs line ≡ line_glyphs other → line ≡ other
same_line line other a b e = same_glyphs line other (sym (kind_is line a) ∙ (ap kind_of_glyphs e ∙ kind_is other b)) e a b

-- bytes are the text of one line at the most
pub same_text : (line other : PlainLine) (bytes : List ℕ) → IsTextOf line bytes → IsTextOf other bytes → line ≡ other
same_text line other bytes a b =
    same_line line other a.0 b.0 (one_line bytes (line_glyphs line) (line_glyphs other) (line_is_of_glyphs line a.0, a.1) (line_is_of_glyphs other b.0, b.1))

-- ---- the first byte of a line is its first glyph

first_byte : (glyph byte : ℕ) (rest bytes : List ℕ) → glyph < 128 → byte ∷ bytes ≡ line_utf8 (glyph ∷ rest) → byte ≡ glyph
first_byte glyph byte rest bytes low e =
    let whole : byte ∷ bytes ≡ glyph ∷ line_utf8 rest = e ∙ ap (λ (front : List ℕ). front ++ line_utf8 rest) (bytes_of_low glyph low) in cc

-- a text that a digit begins
digit_leads : (text : List ℕ) → begins is_digit text ≡ true → (glyph : ℕ) × (rest : List ℕ) × (text ≡ glyph ∷ rest) × (glyph < 58)
digit_leads [] is = absurd (false≢true is)
digit_leads (glyph ∷ rest) is = (glyph, rest, refl, grind (arith, nat_tests))

-- a line whose bytes a bar begins is one that a user saw
pub behind_bar : (line : PlainLine) (bytes : List ℕ) → IsTextOf line (bar ∷ bytes) → (one : List ℕ) × (line ≡ shown one)
behind_bar (user number) bytes text = absurd (let no : bar ≡ 117 = first_byte 117 bar (others_of (heading number)) bytes (omega arith) text.1 in omega (arith, no))
behind_bar (shown one) bytes text = (one, refl)
behind_bar journal bytes text = absurd (let no : bar ≡ 106 = first_byte 106 bar (codes "ournal") bytes (omega arith) text.1 in omega (arith, no))
behind_bar (entry place e) bytes text =
    let lead = digit_leads (entry_text place e) (digit_first place e text.0) in
    absurd (let no : bar ≡ lead.0 = first_byte lead.0 bar lead.1 bytes (omega (arith, lead.3)) (text.1 ∙ ap line_utf8 lead.2) in omega (arith, no, lead.3))
behind_bar end bytes text = absurd (let no : bar ≡ 101 = first_byte 101 bar (codes "nd") bytes (omega arith) text.1 in omega (arith, no))
