-- Lines have texts of glyphs.
use Rattle.std.proofs.Common.{◌≡◌, ℕ, ◌<◌, ◌≤◌, ◌^◌, ◌&&◌, Bool, true, leb, List, [], ◌∷◌, ◌++◌, Option, Some, None, IfSome, codes, refl, sym, ap, ◌∙◌, subst, arith}
use Rattle.std.proofs.lemmas.Bool.{and_parts, leb-true}
use Rattle.std.proofs.lemmas.List.Elements.{All-nil, All-append, All-cons, All-head, All-tail, All-weaker}
use Rattle.std.specs.Fmt.{decimal}
use Rattle.std.specs.List.{All}
use Rattle.apl_arrays.specs.Array.{PlainArray}
use Rattle.apl_arrays.specs.Glyph.{IsGlyph}
use Rattle.apl_arrays.specs.Name.{IsName}
use Rattle.line_text.proofs.GlyphTexts.{Glyphs, content_glyphs, count_glyphs, end_glyphs, heading_glyphs, joined, plain_glyphs}
use Rattle.sv_events.specs.Answer.{PlainAnswer, degree, granted, value, no_value, held, abandoned, not_shared, offer_limit, full, vector, parties, names, kept, done}
use Rattle.sv_events.specs.Entry.{PlainEntry}
use Rattle.sv_events.specs.Fits.{fits_kind, is_degree_in_range, is_hold_in_range}
use Rattle.sv_events.specs.Row.{act_row, answer_row}
use Rattle.sv_events.specs.declared.entry.Pair.{Pair}
use Rattle.sv_events.specs.declared.event.Act.{Act}
use Rattle.sv_events.specs.declared.event.Act.TheVariants.{Offer, Retract, SetControl, AskControl, AskState, AskDegree, AskParties, AskNames, Set, Use, Leave}
use Rattle.sv_journal.specs.EntryText.{entry_text}
use Rattle.sv_journal.specs.IsEntry.{IsAct, IsAnswer, IsEntry, IsPair, IsPartyNumber}
use Rattle.sv_journal.specs.Output.{output_lines}
use Rattle.sv_journal.specs.Printable.{ArePrintable, IsPrintableAct, IsPrintableAnswer, IsPrintableEntry, IsPrintablePair, IsPrintableTranscript}
use Rattle.sv_journal.proofs.GlyphTexts.{output_glyphs}
use Rattle.sv_journal.proofs.SameEntries.{after_party, entry_parts}
use Rattle.sv_text.specs.Printable.{IsPrintableArray}
use Rattle.sv_text.specs.Value.{IsValue, IsValueOrNone}
use Rattle.printed_text.specs.Line.{IsOutputLine, PlainLine, end, entry, journal, journal_line, line_glyphs, shown, user}

-- ---- entries

array_is : (v : PlainArray) → IsValue v → IsPrintableArray v
array_is v h = record {
  axes = All-weaker (λ axis. axis ≤ 16384) (λ axis. axis < 2 ^ 64) (λ axis small. omega (arith, small)) v.shape h.array.fits.axes;
  items = h.items;
}

value_is : (v : Option PlainArray) → IsValueOrNone v → IfSome v (λ array. IsPrintableArray array)
value_is None h = tt
value_is (Some v) h = array_is v h

act_is : (act : Act) → IsAct act → IsPrintableAct act
act_is (Offer to local surrogate handed) h = (omega (arith, h.0), h.1, h.2, value_is handed h.3)
act_is (Retract local) h = h
act_is (SetControl local control) h = h
act_is (AskControl local) h = h
act_is (AskState local) h = h
act_is (AskDegree local) h = h
act_is AskParties h = tt
act_is (AskNames party) h = omega (arith, h)
act_is (Set local new) h = (h.0, array_is new h.1)
act_is (Use local) h = h
act_is Leave h = tt

answer_is : (answer : PlainAnswer) → IsAnswer answer → is_degree_in_range (answer_row answer).row.degree ≡ true → is_hold_in_range (answer_row answer).row.hold ≡ true → IsPrintableAnswer answer
answer_is (degree d) h small element = let most : d ≤ 2 = leb-true d 2 small in omega (arith, most)
answer_is granted h small element = tt
answer_is (value got) h small element = array_is got h
answer_is no_value h small element = tt
answer_is (held hold) h small element =
    let most : hold.element ≤ 4 = leb-true hold.element 4 (and_parts (leb 1 hold.element) (leb hold.element 4) element).1 in omega (arith, most)
answer_is (abandoned hold) h small element =
    let most : hold.element ≤ 4 = leb-true hold.element 4 (and_parts (leb 1 hold.element) (leb hold.element 4) element).1 in omega (arith, most)
answer_is not_shared h small element = tt
answer_is offer_limit h small element = tt
answer_is full h small element = absurd h
answer_is (vector control) h small element = h
answer_is (parties list) h small element = All-weaker IsPartyNumber (λ party. party < 2 ^ 64) (λ party fits. omega (arith, fits)) list h
answer_is (names list) h small element = h
answer_is (kept d known) h small element =
    let most : d ≤ 2 = leb-true d 2 small in let fits : d < 2 ^ 64 = omega (arith, most) in (fits, value_is known h)
answer_is done h small element = tt

-- what may stand in a journal is printable
pub entry_is_printable : (place : ℕ) (e : PlainEntry) → IsEntry place e → IsPrintableEntry e
entry_is_printable place e h =
    let degree_fits : Bool = is_degree_in_range (answer_row e.answer).row.degree in
    let hold_fits : Bool = is_hold_in_range (answer_row e.answer).row.hold in
    let parts = and_parts (degree_fits && hold_fits) (fits_kind (act_row e.act).row (answer_row e.answer).row.kind) h.answered in
    let ranges = and_parts degree_fits hold_fits parts.0 in
    record {
      party = omega (arith, h.party);
      act = act_is e.act h.act;
      answer = answer_is e.answer h.answer ranges.0 ranges.1;
      made = All-weaker IsPair IsPrintablePair (λ pair is. record { a = omega (arith, is.lower, is.most); b = is.most }) e.made h.made;
    }

-- so its text is one of glyphs: at the first place, and at any other
at_first : (e : PlainEntry) → IsPrintableEntry e → Glyphs (entry_text 1 e)
at_first e h =
    let all : ArePrintable [] (e ∷ []) = record { users = All-nil IsPrintableTranscript; entries = All-cons IsPrintableEntry e [] h (All-nil IsPrintableEntry); count = omega arith } in
    All-head Glyphs (entry_text 1 e) (codes "end" ∷ []) (All-tail Glyphs (codes "journal") (entry_text 1 e ∷ codes "end" ∷ []) (output_glyphs [] (e ∷ []) all))

-- what stands behind glyphs in a line of glyphs
glyphs_behind : (front behind : List ℕ) → Glyphs (front ++ behind) → Glyphs behind
glyphs_behind [] behind glyphs = glyphs
glyphs_behind (x ∷ front) behind glyphs = glyphs_behind front behind (All-tail IsGlyph x (front ++ behind) glyphs)

entry_glyphs : (place : ℕ) (e : PlainEntry) → IsEntry place e → Glyphs (entry_text place e)
entry_glyphs place e h =
    let behind : List ℕ = 32 ∷ (decimal e.party ++ (32 ∷ after_party e)) in
    let first : Glyphs (decimal 1 ++ behind) = subst Glyphs (entry_parts 1 e) (at_first e (entry_is_printable place e h)) in
    subst Glyphs (sym (entry_parts place e)) (joined (decimal place) behind (count_glyphs place h.most) (glyphs_behind (decimal 1) behind first))

-- ---- lines

pub line_is_of_glyphs : (line : PlainLine) → IsOutputLine line → Glyphs (line_glyphs line)
line_is_of_glyphs (user number) h = heading_glyphs number (omega (arith, h.1))
line_is_of_glyphs (shown line) h = content_glyphs line h
line_is_of_glyphs journal h = plain_glyphs journal_line refl
line_is_of_glyphs (entry place e) h = entry_glyphs place e h
line_is_of_glyphs end h = end_glyphs
