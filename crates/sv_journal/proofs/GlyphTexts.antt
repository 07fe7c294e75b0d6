-- The lines that are written are lines of glyphs.
use Rattle.std.proofs.Common.{◌≡◌, ℕ, ◌+◌, ◌<◌, ◌≤◌, ◌^◌, Bool, true, false, Option, Some, None, IfSome, List, [], ◌∷◌, ◌++◌, map, codes, length, refl, ⊎_elim, arith}
use Rattle.std.proofs.lemmas.Bool.Decides.{nat_tests}
use Rattle.std.proofs.lemmas.List.Elements.{All-nil, All-cons, All-append, recursion_from_All}
use Rattle.std.specs.Fmt.{decimal}
use Rattle.std.specs.List.{flat_map, AllByRecursion}
use Rattle.apl_arrays.specs.Array.{PlainItems, numbers, chars, PlainArray}
use Rattle.apl_arrays.specs.Glyph.{IsGlyph, quote}
use Rattle.apl_arrays.specs.Name.{IsName, goes_on}
use Rattle.apl_arrays.proofs.Names.{name_goes_on}
use Rattle.sv_access.specs.declared.control.Control.{Control}
use Rattle.sv_access.specs.declared.verdict.Owners.{Owners}
use Rattle.sv_access.specs.declared.verdict.Owners.TheVariants.{Mine, Partner, Both}
use Rattle.sv_events.specs.Answer.{PlainAnswer, degree, granted, value, no_value, held, abandoned, not_shared, offer_limit, full, vector, parties, names, kept, done}
use Rattle.sv_events.specs.Entry.{PlainEntry}
use Rattle.sv_events.specs.declared.event.Act.{Act}
use Rattle.sv_events.specs.declared.event.Act.TheVariants.{Offer, Retract, SetControl, AskControl, AskState, AskDegree, AskParties, AskNames, Set, Use, Leave}
use Rattle.sv_events.specs.declared.event.Hold.{Hold}
use Rattle.sv_events.specs.declared.entry.Pair.{Pair}
use Rattle.line_text.specs.Lines.{end_line}
use Rattle.line_text.specs.Number.{number_text}
use Rattle.line_text.specs.Spaced.{spaced}
use Rattle.line_text.proofs.GlyphTexts.{Glyphs, AreGlyphs, none, with_first, joined, passing, plain_glyphs, count_glyphs, number_glyphs, spaced_glyphs, each_text, all_texts, user_lines_glyphs, end_glyphs}
use Rattle.line_text.proofs.SameNumbers.{Fits64}
use Rattle.sv_journal.specs.EntryText.{bit_text, control_text, owners_text, hold_text, act_text, answer_text, pair_text, entry_text}
use Rattle.sv_journal.specs.Output.{PlainTranscript, transcript_lines, entry_lines, journal_lines, output_lines}
use Rattle.sv_journal.specs.Printable.{IsPrintableAct, IsPrintableAnswer, IsPrintablePair, IsPrintableEntry, IsPrintableTranscript, ArePrintable}
use Rattle.sv_text.specs.ValueText.{array_text, value_text}
use Rattle.sv_text.proofs.ValueGlyphs.{array_glyphs, value_glyphs}

name_glyph : (glyph : ℕ) → goes_on glyph ≡ true → IsGlyph glyph
name_glyph glyph e = (grind (arith, nat_tests), grind (arith, nat_tests), λ same. grind (arith, nat_tests))

name_glyphs : (name : List ℕ) → IsName name → Glyphs name
name_glyphs name h = passing goes_on name_glyph name (name_goes_on name h)

-- entries

-- the elements of controls and states, and what refuses

abbrev AnyBit : Bool → Type 0
AnyBit bit = Unit {0}

bit_glyphs : (bit : Bool) → AnyBit bit → Glyphs (bit_text bit)
bit_glyphs true a = plain_glyphs (codes "1") refl
bit_glyphs false a = plain_glyphs (codes "0") refl

any_bits : (bits : List Bool) → AllByRecursion AnyBit bits
any_bits [] = tt
any_bits (x ∷ xs) = (tt, any_bits xs)

control_glyphs : (c : Control) → Glyphs (control_text c)
control_glyphs c = spaced_glyphs (map bit_text c.0) (each_text bit_text AnyBit bit_glyphs c.0 (any_bits c.0))

owners_glyphs : (o : Owners) → Glyphs (owners_text o)
owners_glyphs Mine = plain_glyphs (codes "mine") refl
owners_glyphs Partner = plain_glyphs (codes "partner") refl
owners_glyphs Both = plain_glyphs (codes "both") refl

hold_glyphs : (h : Hold) → h.element < 2 ^ 64 → Glyphs (hold_text h)
hold_glyphs h fits =
    spaced_glyphs (decimal h.element ∷ owners_text h.owners ∷ []) (count_glyphs h.element fits, (owners_glyphs h.owners, tt))

-- a word and a name
named_glyphs : (word local : List ℕ) → Glyphs word → IsName local → Glyphs (spaced (word ∷ local ∷ []))
named_glyphs word local plain h = spaced_glyphs (word ∷ local ∷ []) (plain, (name_glyphs local h, tt))

act_glyphs : (act : Act) → IsPrintableAct act → Glyphs (act_text act)
act_glyphs (Offer to local surrogate handed) h =
    spaced_glyphs (codes "offer" ∷ decimal to ∷ local ∷ surrogate ∷ value_text handed ∷ []) (plain_glyphs (codes "offer") refl, (count_glyphs to (omega (arith, h.0)), (name_glyphs local h.1, (name_glyphs surrogate h.2, (value_glyphs handed h.3, tt)))))
act_glyphs (Set name new) h =
    spaced_glyphs (codes "set" ∷ name ∷ array_text new ∷ []) (plain_glyphs (codes "set") refl, (name_glyphs name h.0, (array_glyphs new h.1, tt)))
act_glyphs (Retract local) h = named_glyphs (codes "retract") local (plain_glyphs (codes "retract") refl) h
act_glyphs (SetControl local control) h =
    spaced_glyphs (codes "control" ∷ local ∷ control_text control ∷ []) (plain_glyphs (codes "control") refl, (name_glyphs local h.0, (control_glyphs control, tt)))
act_glyphs (AskControl local) h = named_glyphs (codes "askcontrol") local (plain_glyphs (codes "askcontrol") refl) h
act_glyphs (AskState local) h = named_glyphs (codes "askstate") local (plain_glyphs (codes "askstate") refl) h
act_glyphs (AskDegree local) h = named_glyphs (codes "askdegree") local (plain_glyphs (codes "askdegree") refl) h
act_glyphs AskParties h = plain_glyphs (codes "askparties") refl
act_glyphs (AskNames party) h =
    spaced_glyphs (codes "asknames" ∷ decimal party ∷ []) (plain_glyphs (codes "asknames") refl, (count_glyphs party h, tt))
act_glyphs (Use name) h = named_glyphs (codes "use") name (plain_glyphs (codes "use") refl) h
act_glyphs Leave h = plain_glyphs (codes "leave") refl

abbrev AnyCount : ℕ → Type 0
AnyCount n = n < 2 ^ 64

count_passes : (n : ℕ) → AnyCount n → Glyphs (decimal n)
count_passes n fits = count_glyphs n fits

all_names : (list : List (List ℕ)) → AllByRecursion IsName list → AllByRecursion Glyphs list
all_names [] a = tt
all_names (x ∷ xs) a = (name_glyphs x a.0, all_names xs a.1)

parties_glyphs : (list : List ℕ) → AllByRecursion AnyCount list → Glyphs (answer_text (parties list))
parties_glyphs list a =
    spaced_glyphs (codes "parties" ∷ map decimal list) (plain_glyphs (codes "parties") refl, each_text decimal AnyCount count_passes list a)

answer_glyphs : (answer : PlainAnswer) → IsPrintableAnswer answer → Glyphs (answer_text answer)
answer_glyphs (degree d) h =
    spaced_glyphs (codes "degree" ∷ decimal d ∷ []) (plain_glyphs (codes "degree") refl, (count_glyphs d (omega (arith, h)), tt))
answer_glyphs (value got) h =
    spaced_glyphs (codes "value" ∷ array_text got ∷ []) (plain_glyphs (codes "value") refl, (array_glyphs got h, tt))
answer_glyphs granted h = plain_glyphs (codes "granted") refl
answer_glyphs no_value h = plain_glyphs (codes "novalue") refl
answer_glyphs (held hold) h =
    spaced_glyphs (codes "held" ∷ hold_text hold ∷ []) (plain_glyphs (codes "held") refl, (hold_glyphs hold h, tt))
answer_glyphs (abandoned hold) h =
    spaced_glyphs (codes "abandoned" ∷ hold_text hold ∷ []) (plain_glyphs (codes "abandoned") refl, (hold_glyphs hold h, tt))
answer_glyphs (vector control) h =
    spaced_glyphs (codes "vector" ∷ control_text control ∷ []) (plain_glyphs (codes "vector") refl, (control_glyphs control, tt))
answer_glyphs (parties list) h = parties_glyphs list (recursion_from_All (λ party. party < 2 ^ 64) list h)
answer_glyphs (names list) h =
    spaced_glyphs (codes "names" ∷ list) (plain_glyphs (codes "names") refl, all_names list (recursion_from_All IsName list h))
answer_glyphs (kept d known) h =
    spaced_glyphs (codes "kept" ∷ decimal d ∷ value_text known ∷ []) (plain_glyphs (codes "kept") refl, (count_glyphs d h.0, (value_glyphs known h.1, tt)))
answer_glyphs not_shared h = plain_glyphs (codes "notshared") refl
answer_glyphs offer_limit h = plain_glyphs (codes "limit") refl
answer_glyphs full h = plain_glyphs (codes "full") refl
answer_glyphs done h = plain_glyphs (codes "done") refl

pair_glyphs : (pair : Pair) → IsPrintablePair pair → Glyphs (pair_text pair)
pair_glyphs pair h =
    joined (codes " + ") (spaced (decimal pair.a ∷ decimal pair.b ∷ [])) (plain_glyphs (codes " + ") refl) (spaced_glyphs (decimal pair.a ∷ decimal pair.b ∷ []) (count_glyphs pair.a h.a, (count_glyphs pair.b h.b, tt)))

entry_glyphs : (place : ℕ) (e : PlainEntry) → place < 2 ^ 64 → IsPrintableEntry e → Glyphs (entry_text place e)
entry_glyphs place e fits h =
    let front : List (List ℕ) = decimal place ∷ decimal e.party ∷ act_text e.act ∷ codes ":" ∷ answer_text e.answer ∷ [] in
    let whole : AllByRecursion Glyphs front = (count_glyphs place fits, (count_glyphs e.party (omega (arith, h.party)), (act_glyphs e.act h.act, (plain_glyphs (codes ":") refl, (answer_glyphs e.answer h.answer, tt))))) in
    joined (spaced front) (flat_map pair_text e.made) (spaced_glyphs front whole) (all_texts pair_text IsPrintablePair pair_glyphs e.made (recursion_from_All IsPrintablePair e.made h.made))

-- lines

transcript_glyphs : (t : PlainTranscript) → IsPrintableTranscript t → AreGlyphs (transcript_lines t)
transcript_glyphs t h = user_lines_glyphs t.user t.lines (omega (arith, h.user)) h.lines

transcripts_glyphs : (ts : List PlainTranscript) → AllByRecursion IsPrintableTranscript ts → AreGlyphs (flat_map transcript_lines ts)
transcripts_glyphs [] a = All-nil Glyphs
transcripts_glyphs (t ∷ ts) a =
    All-append Glyphs (transcript_lines t) (flat_map transcript_lines ts) (transcript_glyphs t a.0) (transcripts_glyphs ts a.1)

entries_glyphs : (place : ℕ) (es : List PlainEntry) → AllByRecursion IsPrintableEntry es → place + length es ≤ 2 ^ 64 → AreGlyphs (entry_lines place es)
entries_glyphs place [] a fits = All-nil Glyphs
entries_glyphs place (e ∷ es) a fits =
    All-cons Glyphs (entry_text place e) (entry_lines (place + 1) es) (entry_glyphs place e (omega arith) a.0) (entries_glyphs (place + 1) es a.1 (omega arith))

pub output_glyphs : (ts : List PlainTranscript) (es : List PlainEntry) → ArePrintable ts es → AreGlyphs (output_lines ts es)
output_glyphs ts es h =
    let entries = entries_glyphs 1 es (recursion_from_All IsPrintableEntry es h.entries) (omega arith) in
    let ending : AreGlyphs (end_line ∷ []) = All-cons Glyphs end_line [] end_glyphs (All-nil Glyphs) in
    All-append Glyphs (flat_map transcript_lines ts) (journal_lines es) (transcripts_glyphs ts (recursion_from_All IsPrintableTranscript ts h.users)) (All-cons Glyphs (codes "journal") (entry_lines 1 es ++ end_line ∷ []) (plain_glyphs (codes "journal") refl) (All-append Glyphs (entry_lines 1 es) (end_line ∷ []) entries ending))
