-- An output is read in one way: its bytes tell the lines, and these tell transcripts and journal.
use Rattle.std.proofs.Common.{◌≡◌, ℕ, ◌+◌, ◌<◌, ◌≤◌, ◌^◌, Bool, true, false, eqb, List, [], ◌∷◌, ◌++◌, map, codes, length, refl, sym, ap, ◌∙◌, arith}
use Rattle.std.proofs.lemmas.Bool.{false≢true}
use Rattle.std.proofs.lemmas.Fmt.{decimal_injective}
use Rattle.std.proofs.lemmas.List.Concat.{flat_map_single}
use Rattle.std.proofs.lemmas.List.Elements.{recursion_from_All}
use Rattle.std.specs.Fmt.{decimal}
use Rattle.std.specs.List.{flat_map, AllByRecursion}
use Rattle.apl_arrays.specs.Glyph.{is_digit}
use Rattle.sv_events.specs.Entry.{PlainEntry}
use Rattle.sv_journal.specs.EntryText.{entry_text}
use Rattle.line_text.specs.Lines.{heading, content, end_line}
use Rattle.line_text.proofs.SameLines.{same_lines}
use Rattle.sv_journal.specs.Output.{PlainTranscript, transcript_lines, entry_lines, journal_lines, output_lines, output_text}
use Rattle.sv_journal.specs.Printable.{IsPrintableEntry, IsPrintableTranscript, ArePrintable}
use Rattle.sv_journal.proofs.GlyphTexts.{output_glyphs}
use Rattle.sv_journal.proofs.SameEntries.{after_party, entry_parts, same_entry}
use Rattle.line_text.proofs.SameNumbers.{begins_count}
use Rattle.apl_arrays.specs.Run.{begins}
use Rattle.line_text.proofs.Spans.{Reads, same_list}

-- lines tell their kinds

-- the first line begins with a glyph that passes the test
abbrev begins_line : (ℕ → Bool) → List (List ℕ) → Bool
begins_line p [] = false
begins_line p (line ∷ lines) = begins p line

abbrev AnyLine : List ℕ → Type 0
AnyLine line = Unit {0}

abbrev AnyLines : List (List ℕ) → Type 0
AnyLines lines = Unit {0}

-- no line of a transcript comes next
abbrev EndsContents : List (List ℕ) → Type 0
EndsContents lines = begins_line (λ glyph. eqb glyph 124) lines ≡ false

-- a journal comes next
abbrev IsJournal : List (List ℕ) → Type 0
IsJournal lines = (more : List (List ℕ)) × (lines ≡ codes "journal" ∷ more)

one_content : List ℕ → List (List ℕ)
one_content line = content line ∷ []

contents_read : Reads one_content AnyLine EndsContents AnyLines
unfolding one_content
contents_read = record {
  unlike = λ line rest left a stop e. false≢true (sym stop ∙ ap (begins_line (λ glyph. eqb glyph 124)) (sym e));
  split = λ x y rest left a b stop halt e. (cc, cc);
  last = λ rest stop. tt;
  next = λ line rest a. tt;
}

any_lines : (lines : List (List ℕ)) → AllByRecursion AnyLine lines
any_lines [] = tt
any_lines (x ∷ xs) = (tt, any_lines xs)

contents_are : (lines rest : List (List ℕ)) → map content lines ++ rest ≡ flat_map one_content lines ++ rest
unfolding one_content
contents_are lines rest = ap (λ front. front ++ rest) (sym (flat_map_single content lines))

same_contents : (xs ys rest left : List (List ℕ)) → EndsContents rest → EndsContents left → map content xs ++ rest ≡ map content ys ++ left → (xs ≡ ys) × (rest ≡ left)
same_contents xs ys rest left stop halt e =
    same_list one_content AnyLine EndsContents AnyLines contents_read xs ys rest left (any_lines xs) (any_lines ys) stop halt (sym (contents_are xs rest) ∙ (e ∙ contents_are ys left))

transcript_of : ℕ → List (List ℕ) → PlainTranscript
transcript_of user lines = record { user = user; lines = lines }

same_transcript : (x y : PlainTranscript) (rest left : List (List ℕ)) → IsPrintableTranscript x → IsPrintableTranscript y → EndsContents rest → EndsContents left → transcript_lines x ++ rest ≡ transcript_lines y ++ left → (x ≡ y) × (rest ≡ left)
unfolding transcript_of
same_transcript x y rest left p q stop halt e =
    let headings : heading x.user ≡ heading y.user = cc in
    let digits : decimal x.user ≡ decimal y.user = cc headings in
    let users = decimal_injective x.user y.user (omega (arith, p.user)) (omega (arith, q.user)) digits in
    let contents : map content x.lines ++ rest ≡ map content y.lines ++ left = cc in
    let same = same_contents x.lines y.lines rest left stop halt contents in
    (ap (λ user. transcript_of user x.lines) users ∙ ap (λ lines. transcript_of y.user lines) same.0, same.1)

no_user : (t : PlainTranscript) (rest left : List (List ℕ)) → IsJournal left → transcript_lines t ++ rest ≡ left → ⊥
no_user t rest left journal e =
    false≢true (ap (begins_line (λ glyph. eqb glyph 106)) (e ∙ journal.1))

transcripts_read : Reads transcript_lines IsPrintableTranscript IsJournal EndsContents
transcripts_read = record {
  unlike = λ t rest left a journal e. no_user t rest left journal e;
  split = same_transcript;
  last = λ rest journal. ap (begins_line (λ glyph. eqb glyph 124)) journal.1;
  next = λ t rest a. refl;
}

-- the entries tell the journal

begins_entry : (place : ℕ) (e : PlainEntry) → place < 2 ^ 64 → begins is_digit (entry_text place e) ≡ true
begins_entry place e fits =
    ap (begins is_digit) (entry_parts place e) ∙ begins_count place (32 ∷ (decimal e.party ++ (32 ∷ after_party e))) fits

no_entry : (place : ℕ) (e : PlainEntry) (rest more : List (List ℕ)) → place < 2 ^ 64 → end_line ∷ rest ≡ entry_text place e ∷ more → ⊥
no_entry place e rest more fits same =
    false≢true (ap (begins_line is_digit) same ∙ begins_entry place e fits)

abbrev ended_from : ℕ → List PlainEntry → List (List ℕ)
ended_from place entries = entry_lines place entries ++ end_line ∷ []

same_entries : (place : ℕ) (es fs : List PlainEntry) → AllByRecursion IsPrintableEntry es → AllByRecursion IsPrintableEntry fs → place + length es ≤ 2 ^ 64 → place + length fs ≤ 2 ^ 64 → ended_from place es ≡ ended_from place fs → es ≡ fs
same_entries place [] [] a b fits suits same = refl
same_entries place [] (f ∷ fs) a b fits suits same =
    absurd (no_entry place f [] (ended_from (place + 1) fs) (omega arith) same)
same_entries place (e ∷ es) [] a b fits suits same =
    absurd (no_entry place e [] (ended_from (place + 1) es) (omega arith) (sym same))
same_entries place (e ∷ es) (f ∷ fs) a b fits suits same =
    let heads : entry_text place e ≡ entry_text place f = cc in
    let tails : ended_from (place + 1) es ≡ ended_from (place + 1) fs = cc in
    let first = same_entry place place e f (omega arith) (omega arith) a.0 b.0 heads in
    let others = same_entries (place + 1) es fs a.1 b.1 (omega arith) (omega arith) tails in
    cc (first.1, others)

-- the output of transcripts and a journal tells both
pub same_output : (ts us : List PlainTranscript) (es fs : List PlainEntry) → ArePrintable ts es → ArePrintable us fs → output_text ts es ≡ output_text us fs → (ts ≡ us) × (es ≡ fs)
same_output ts us es fs p q e =
    let lines = same_lines (output_lines ts es) (output_lines us fs) (output_glyphs ts es p) (output_glyphs us fs q) e in
    let users = same_list transcript_lines IsPrintableTranscript IsJournal EndsContents transcripts_read ts us (journal_lines es) (journal_lines fs) (recursion_from_All IsPrintableTranscript ts p.users) (recursion_from_All IsPrintableTranscript us q.users) (ended_from 1 es, refl) (ended_from 1 fs, refl) lines in
    let after : ended_from 1 es ≡ ended_from 1 fs = cc users.1 in
    (users.0, same_entries 1 es fs (recursion_from_All IsPrintableEntry es p.entries) (recursion_from_All IsPrintableEntry fs q.entries) (omega arith) (omega arith) after)
