-- What was read, line by line.
use Rattle.std.proofs.Common.{◌≡◌, ◌≢◌, ◌⊎◌, ℕ, ◌+◌, ◌<◌, ◌≤◌, Bool, true, false, List, [], ◌∷◌, ◌++◌, Option, length, Result, Ok, Err, MatchResult, inl, inr, refl, sym, ap, ◌∙◌, subst, arith, append-nil, append_assoc, length-append}
use Rattle.std.proofs.lemmas.Bool.{and_parts, false≢true}
use Rattle.std.proofs.lemmas.List.Elements.{All-head, All-tail, All-weaker}
use Rattle.std.specs.List.{All}
use Rattle.std.specs.Prelude.{IfErr, IfOk, MatchOption}
use Rattle.apl_arrays.specs.Glyph.{Spells, bar, line_utf8}
use Rattle.apl_arrays.proofs.Spelling.{no_control, one_line}
use Rattle.line_text.specs.Lines.{HasNoFeed, content, end_line, heading, line_text}
use Rattle.line_text.proofs.Ascii.{content_utf8, end_utf8, plain_utf8}
use Rattle.line_text.proofs.GlyphTexts.{Glyphs}
use Rattle.sv_events.specs.Entry.{PlainEntry}
use Rattle.sv_journal.specs.EntryText.{entry_text}
use Rattle.sv_journal.specs.IsEntry.{IsEntry, IsEntryText}
use Rattle.sv_journal.specs.Output.{PlainTranscript, output_text}
use Rattle.printed_text.specs.Departs.{DepartsAt, HasNextLine}
use Rattle.printed_text.specs.Draft.{PlainDraft, PlainSection, start, of_user, of_entries, ended, AreSound, IsSound, are_all, entries_in, is_at_end, is_next, is_next_place, longer, may_stand, nothing_read, said, takes_entries, takes_headings, takes_shown, text_before, transcripts_so_far, user_so_far, with_line}
use Rattle.printed_text.specs.MayBePrinted.{MayBePrinted}
use Rattle.printed_text.specs.Line.{IsOutputLine, IsTextOf, IsUserNumber, PlainLine, end, entry, journal, journal_line, line_glyphs, shown, user}
use Rattle.printed_text.specs.Printed.{PlainPrinted}
use Rattle.printed_text.specs.Reads.{ReadsText}
use Rattle.printed_text.specs.Refused.{IsRefusal}
use Rattle.printed_text.specs.Section.{plain_section}
use Rattle.printed_text.specs.Step.{Adds, AddsText, IsAdded, IsNoContent, IsReadTo, NoneSpelled, NoneStands}
use Rattle.printed_text.specs.declared.draft.Section.{Section}
use Rattle.printed_text.specs.declared.draft.Section.TheVariants as sections
use Rattle.printed_text.specs.declared.printed.PrintedTranscript.{PrintedTranscript}
use Rattle.printed_text.specs.declared.refused.PrintedRefused.{PrintedRefused}
use Rattle.printed_text.specs.declared.refused.PrintedRefused.TheVariants.{Departs, WantOfMemory}
use Rattle.printed_text.proofs.Drafts.{at, ended_is_printed, ended_text}
use Rattle.printed_text.proofs.SameLines.{behind_bar, same_text}
use Rattle.printed_text.proofs.Printable.{line_is_of_glyphs}
use Rattle.printed_text.proofs.Printing.{lines_of, lines_text_of, output_leads}
use Rattle.printed_text.proofs.Walks.{after, bytes_of, departs_once, ended_departs_not, none_goes_on, one_walk}

-- ---- one line

-- a line of a form, by its bytes
pub text_added : (users : Option (List ℕ)) (old new : PlainDraft) (line : PlainLine) (bytes : List ℕ) (offset : ℕ) (result : Result (Unit {0}) PrintedRefused) → IsTextOf line bytes → Adds users old line new offset result → AddsText users old bytes new offset result
text_added users old new line bytes offset (Ok done) text adds = record { line = line; text = text; place = adds.0; more = adds.1 }
text_added users old new line bytes offset (Err WantOfMemory) text adds = tt
text_added users old new line bytes offset (Err (Departs place)) text adds =
    (adds.0, λ other is may. false≢true (sym adds.1 ∙ subst (λ (some : PlainLine). may_stand users old some ≡ true) (same_text other line bytes is text) may))

spelled : (line : PlainLine) (bytes : List ℕ) → IsTextOf line bytes → Spells bytes (line_glyphs line)
spelled line bytes text = (line_is_of_glyphs line text.0, text.1)

-- bytes that spell no glyphs are no line's
pub unspelled : (users : Option (List ℕ)) (old new : PlainDraft) (bytes : List ℕ) (offset : ℕ) (why : PrintedRefused) → IsRefusal why (λ place. (place ≡ offset) × NoneSpelled bytes) → IsRefusal why (λ place. (place ≡ offset) × NoneStands users old bytes)
unspelled users old new bytes offset WantOfMemory is = tt
unspelled users old new bytes offset (Departs place) is = (is.0, λ line text may. is.1 (line_glyphs line) (spelled line bytes text))

-- a line that a user saw
pub shown_text : (bytes glyphs : List ℕ) → Spells bytes glyphs → IsTextOf (shown glyphs) (bar ∷ bytes)
shown_text bytes glyphs spells = (spells.0, ap (λ (some : List ℕ). bar ∷ some) spells.1 ∙ sym (content_utf8 glyphs))

-- is one more under its heading
pub shown_line : (users : Option (List ℕ)) (old new : PlainDraft) (one next : PlainTranscript) (bytes glyphs : List ℕ) → old.section ≡ of_user one → new ≡ record old { section = of_user next } → Spells bytes glyphs
    → next ≡ record { user = one.user; lines = one.lines ++ glyphs ∷ [] } → IsAdded users old (bar ∷ bytes) new
shown_line users old new one next bytes glyphs was now spells kept = record {
  line = shown glyphs;
  text = shown_text bytes glyphs spells;
  place = ap takes_shown was;
  more = now ∙ ap (λ (s : PlainSection). record old { section = s }) (ap of_user kept ∙ sym (ap (λ (s : PlainSection). longer s glyphs) was));
}

-- no user's lines come
pub no_user : (section : Section) → ((one : PrintedTranscript) → section ≡ sections.User one → ⊥) → takes_shown (plain_section section) ≡ false
no_user sections.Start none = refl
no_user (sections.User one) none = absurd (none one refl)
no_user (sections.Entries entries) none = refl
no_user (sections.End entries) none = refl

content_glyphs_of : (line : List ℕ) (rest : List ℕ) → bar ∷ rest ≡ line_utf8 (content line) → rest ≡ line_utf8 line
content_glyphs_of line rest e = let whole : bar ∷ rest ≡ bar ∷ line_utf8 line = e ∙ content_utf8 line in cc

-- where the text behind a bar spells no glyphs no line stands
none_behind : (bytes : List ℕ) → NoneSpelled bytes → (line : PlainLine) → IsTextOf line (bar ∷ bytes) → ⊥
none_behind bytes none line text =
    let one = behind_bar line bytes text in
    let form : IsTextOf (shown one.0) (bar ∷ bytes) = subst (λ (some : PlainLine). IsTextOf some (bar ∷ bytes)) one.1 text in
    none one.0 (form.0, content_glyphs_of one.0 bytes form.1)

pub unspelled_content : (users : Option (List ℕ)) (old : PlainDraft) (bytes : List ℕ) (offset : ℕ) (why : PrintedRefused) → IsRefusal why (λ place. (place ≡ offset) × NoneSpelled bytes) → IsRefusal why (λ place. (place ≡ offset) × NoneStands users old (bar ∷ bytes))
unspelled_content users old bytes offset WantOfMemory is = tt
unspelled_content users old bytes offset (Departs place) is = (is.0, λ line text may. none_behind bytes is.1 line text)

-- behind a bar a line stands only under a user's heading
pub misplaced : (users : Option (List ℕ)) (old : PlainDraft) (bytes : List ℕ) → takes_shown old.section ≡ false → NoneStands users old (bar ∷ bytes)
misplaced users old bytes closed line text may =
    let one = behind_bar line bytes text in
    false≢true (sym closed ∙ subst (λ (some : PlainLine). may_stand users old some ≡ true) one.1 may)

-- ---- lines that no bar begins

journal_utf8 : line_utf8 journal_line ≡ journal_line
journal_utf8 = plain_utf8 journal_line refl

pub journal_text : (bytes : List ℕ) → bytes ≡ journal_line → IsTextOf journal bytes
journal_text bytes is = (tt, is ∙ sym journal_utf8)

pub end_text : (bytes : List ℕ) → bytes ≡ end_line → IsTextOf end bytes
end_text bytes is = (tt, is ∙ sym end_utf8)

pub user_text : (bytes glyphs : List ℕ) (number : ℕ) → Spells bytes glyphs → IsUserNumber number → glyphs ≡ heading number → IsTextOf (user number) bytes
user_text bytes glyphs number spells is same = (is, spells.1 ∙ ap line_utf8 same)

pub entry_line_text : (bytes glyphs : List ℕ) (place : ℕ) (e : PlainEntry) → Spells bytes glyphs → IsEntry place e → glyphs ≡ entry_text place e → IsTextOf (entry place e) bytes
entry_line_text bytes glyphs place e spells is same = (is, spells.1 ∙ ap line_utf8 same)

glyphs_are : (bytes glyphs : List ℕ) (line : PlainLine) → Spells bytes glyphs → IsTextOf line bytes → glyphs ≡ line_glyphs line
glyphs_are bytes glyphs line spells text = one_line bytes glyphs (line_glyphs line) spells (spelled line bytes text)

no_content : (bytes : List ℕ) (one : List ℕ) → IsNoContent bytes → IsTextOf (shown one) bytes → ⊥
no_content bytes one plain text = plain (line_utf8 one) (text.1 ∙ content_utf8 one)

-- where headings stand no entries do
no_entries : (section : PlainSection) (place : ℕ) → takes_headings section ≡ true → is_next_place section place ≡ false
no_entries start place takes = refl
no_entries (of_user one) place takes = refl
no_entries (of_entries entries) place takes = absurd (false≢true takes)
no_entries (ended entries) place takes = refl

no_end : (section : PlainSection) → takes_headings section ≡ true → takes_entries section ≡ false
no_end start takes = refl
no_end (of_user one) takes = refl
no_end (of_entries entries) takes = absurd (false≢true takes)
no_end (ended entries) takes = refl

-- a line that is no user's heading and not the journal's
pub no_heading : (users : Option (List ℕ)) (old : PlainDraft) (bytes glyphs : List ℕ) → takes_headings old.section ≡ true → IsNoContent bytes → bytes ≢ journal_line → Spells bytes glyphs → ((number : ℕ) → IsUserNumber number → glyphs ≢ heading number) → NoneStands users old bytes
no_heading users old bytes glyphs takes plain other spells none (user number) text may = none number text.0 (glyphs_are bytes glyphs (user number) spells text)
no_heading users old bytes glyphs takes plain other spells none (shown one) text may = no_content bytes one plain text
no_heading users old bytes glyphs takes plain other spells none journal text may = other (text.1 ∙ journal_utf8)
no_heading users old bytes glyphs takes plain other spells none (entry place e) text may = false≢true (sym (no_entries old.section place takes) ∙ may)
no_heading users old bytes glyphs takes plain other spells none end text may = false≢true (sym (no_end old.section takes) ∙ may)

-- a line that is no entry and not the end, where no heading stands
pub no_entry : (users : Option (List ℕ)) (old : PlainDraft) (bytes glyphs : List ℕ) → takes_headings old.section ≢ true → IsNoContent bytes → bytes ≢ end_line → Spells bytes glyphs → (IsEntryText glyphs → ⊥) → NoneStands users old bytes
no_entry users old bytes glyphs takes plain other spells none (user number) text may =
    takes (and_parts (takes_headings old.section) (is_next users (length (transcripts_so_far old)) (user_so_far old.section) number) may).0
no_entry users old bytes glyphs takes plain other spells none (shown one) text may = no_content bytes one plain text
no_entry users old bytes glyphs takes plain other spells none journal text may = takes (and_parts (takes_headings old.section) (are_all users (length (transcripts_so_far old))) may).0
no_entry users old bytes glyphs takes plain other spells none (entry place e) text may = none (record { place = place; entry = e; is = text.0; text = glyphs_are bytes glyphs (entry place e) spells text })
no_entry users old bytes glyphs takes plain other spells none end text may = other (text.1 ∙ end_utf8)

-- ---- the whole text

pub nothing_yet : (users : Option (List ℕ)) (text : List ℕ) (draft : PlainDraft) → draft ≡ nothing_read → IsReadTo users text text draft
nothing_yet users text draft e = record { before = []; sound = tt; whole = refl; says = e }

-- one line more
pub read_more : (users : Option (List ℕ)) (text rest line more : List ℕ) (draft next : PlainDraft) → IsReadTo users text rest draft → rest ≡ line ++ 10 ∷ more → IsAdded users draft line next → IsReadTo users text more next
read_more users text rest line more draft next so_far front added =
    let bytes : List ℕ = line_utf8 (line_glyphs added.line) in
    record {
      before = added.line ∷ so_far.before;
      sound = (record { form = added.text.0; place = subst (λ (d : PlainDraft). may_stand users d added.line ≡ true) so_far.says added.place }, so_far.sound);
      whole = so_far.whole ∙ (ap (λ (some : List ℕ). text_before so_far.before ++ some) (front ∙ ap (λ (some : List ℕ). some ++ 10 ∷ more) added.text.1 ∙ sym (append_assoc bytes (10 ∷ []) more)) ∙ sym (append_assoc (text_before so_far.before) (bytes ++ 10 ∷ []) more));
      says = added.more ∙ ap (λ (d : PlainDraft). with_line d added.line) so_far.says;
    }

-- the offset of what is left
stands_at : (users : Option (List ℕ)) (text rest : List ℕ) (draft : PlainDraft) (offset : ℕ) (so_far : IsReadTo users text rest draft) → length text ≡ offset + length rest → offset ≡ length (text_before so_far.before)
stands_at users text rest draft offset so_far e = omega (arith, e, ap length so_far.whole, length-append (text_before so_far.before) rest)

departs_here : (users : Option (List ℕ)) (text rest : List ℕ) (draft : PlainDraft) (offset place : ℕ) → IsReadTo users text rest draft → length text ≡ offset + length rest → place ≡ offset → (HasNextLine users draft rest → ⊥) → (is_at_end draft.section ≡ true → rest ≢ []) → DepartsAt users text place
departs_here users text rest draft offset place so_far e there stops wanting = record {
  before = so_far.before;
  rest = rest;
  sound = so_far.sound;
  whole = so_far.whole;
  place = there ∙ stands_at users text rest draft offset so_far e;
  stops = subst (λ (d : PlainDraft). HasNextLine users d rest → ⊥) so_far.says stops;
  wanting = subst (λ (d : PlainDraft). is_at_end d.section ≡ true → rest ≢ []) so_far.says wanting;
}

no_feed : (line : PlainLine) → IsOutputLine line → HasNoFeed (line_utf8 (line_glyphs line))
no_feed line form = All-weaker (λ byte. 32 ≤ byte) (λ byte. byte ≢ 10) (λ byte least is. omega (arith, least, is)) (line_utf8 (line_glyphs line)) (no_control (line_glyphs line) (line_is_of_glyphs line form))

cut : (front other after_one after_other : List ℕ) → HasNoFeed front → HasNoFeed other → front ++ 10 ∷ after_one ≡ other ++ 10 ∷ after_other → front ≡ other
cut [] [] one two a b e = refl
cut [] (y ∷ other) one two a b e = absurd (All-head (λ byte. byte ≢ 10) y other b (let same : y ≡ 10 = cc in same))
cut (x ∷ front) [] one two a b e = absurd (All-head (λ byte. byte ≢ 10) x front a (let same : x ≡ 10 = cc in same))
cut (x ∷ front) (y ∷ other) one two a b e =
    let head : x ≡ y = cc in
    let tails : front ≡ other = cut front other one two (All-tail (λ byte. byte ≢ 10) x front a) (All-tail (λ byte. byte ≢ 10) y other b) (let rest : front ++ 10 ∷ one ≡ other ++ 10 ∷ two = cc in rest) in
    cc

-- a line that no line stands for
line_stops : (users : Option (List ℕ)) (draft : PlainDraft) (rest line more : List ℕ) → HasNoFeed line → rest ≡ line ++ 10 ∷ more → NoneStands users draft line → HasNextLine users draft rest → ⊥
line_stops users draft rest line more free front none on =
    let text : List ℕ = line_utf8 (line_glyphs on.line) in
    let same : line ≡ text = cut line text more on.behind free (no_feed on.line on.sound.form) (sym front ∙ (on.whole ∙ append_assoc text (10 ∷ []) on.behind)) in
    none on.line (on.sound.form, same) on.sound.place

not_nothing : (rest line more : List ℕ) → rest ≡ line ++ 10 ∷ more → rest ≢ []
not_nothing rest line more front none = omega (arith, ap length (sym front ∙ none), length-append line (10 ∷ more))

-- why a whole line is refused, told of the text
pub refused_line : (users : Option (List ℕ)) (text rest line more : List ℕ) (draft : PlainDraft) (offset : ℕ) (why : PrintedRefused) → IsReadTo users text rest draft → length text ≡ offset + length rest → HasNoFeed line → rest ≡ line ++ 10 ∷ more
    → IsRefusal why (λ place. (place ≡ offset) × NoneStands users draft line) → IsRefusal why (DepartsAt users text)
refused_line users text rest line more draft offset WantOfMemory so_far e free front is = tt
refused_line users text rest line more draft offset (Departs place) so_far e free front is =
    departs_here users text rest draft offset place so_far e is.0 (line_stops users draft rest line more free front is.1) (λ over. not_nothing rest line more front)

-- a last piece without a line feed
feed_in : (front more : List ℕ) → HasNoFeed (front ++ 10 ∷ more) → ⊥
feed_in [] more none = All-head (λ byte. byte ≢ 10) 10 more none refl
feed_in (x ∷ front) more none = feed_in front more (All-tail (λ byte. byte ≢ 10) x (front ++ 10 ∷ more) none)

unfed_stops : (users : Option (List ℕ)) (draft : PlainDraft) (rest : List ℕ) → HasNoFeed rest → HasNextLine users draft rest → ⊥
unfed_stops users draft rest free on =
    let text : List ℕ = line_utf8 (line_glyphs on.line) in
    feed_in text on.behind (subst HasNoFeed (on.whole ∙ append_assoc text (10 ∷ []) on.behind) free)

pub piece_departs : (users : Option (List ℕ)) (text rest : List ℕ) (draft : PlainDraft) (offset : ℕ) → IsReadTo users text rest draft → length text ≡ offset + length rest → HasNoFeed rest → 0 < length rest → DepartsAt users text offset
piece_departs users text rest draft offset so_far e free some =
    departs_here users text rest draft offset offset so_far e refl (unfed_stops users draft rest free) (λ over none. omega (arith, some, ap length none))

-- the end is wanting
pub end_wanting : (users : Option (List ℕ)) (text rest : List ℕ) (draft : PlainDraft) (offset : ℕ) → IsReadTo users text rest draft → length text ≡ offset + length rest → HasNoFeed rest → is_at_end draft.section ≡ false → DepartsAt users text offset
end_wanting users text rest draft offset so_far e free open' =
    departs_here users text rest draft offset offset so_far e refl (unfed_stops users draft rest free) (λ over. absurd (false≢true (sym open' ∙ over)))

-- the end was read, and nothing is left
pub all_read : (users : Option (List ℕ)) (text rest : List ℕ) (draft : PlainDraft) (printed : PlainPrinted) → IsReadTo users text rest draft → length rest ≡ 0 → is_at_end draft.section ≡ true → printed ≡ record { transcripts = draft.transcripts; journal = entries_in draft.section }
    → MayBePrinted users printed.transcripts printed.journal × (text ≡ output_text printed.transcripts printed.journal)
all_read users text [] draft printed so_far none over is =
    let there : is_at_end (said so_far.before).section ≡ true = ap (λ (d : PlainDraft). is_at_end d.section) (sym so_far.says) ∙ over in
    let same : record { transcripts = (said so_far.before).transcripts; journal = entries_in (said so_far.before).section } ≡ printed =
    sym (is ∙ ap (λ (d : PlainDraft). let p : PlainPrinted = record { transcripts = d.transcripts; journal = entries_in d.section } in p) so_far.says) in
    subst (λ (p : PlainPrinted). MayBePrinted users p.transcripts p.journal × (text ≡ output_text p.transcripts p.journal)) same
    (ended_is_printed users so_far.before so_far.sound there, so_far.whole ∙ (append-nil (text_before so_far.before) ∙ ended_text users so_far.before so_far.sound there))
all_read users text (x ∷ rest) draft printed so_far none over is = absurd (omega (arith, none))

-- ---- what every text keeps

over_at_end : (users : Option (List ℕ)) (transcripts : List PlainTranscript) (journal' : List PlainEntry) (printed : MayBePrinted users transcripts journal') → is_at_end (after nothing_read (lines_of transcripts journal')).section ≡ true
over_at_end users transcripts journal' printed = ap (λ (d : PlainDraft). is_at_end d.section) (output_leads users transcripts journal' printed).there

-- the text of an output departs nowhere
pub nowhere : (users : Option (List ℕ)) (text : List ℕ) (transcripts : List PlainTranscript) (journal' : List PlainEntry) (place : ℕ) → MayBePrinted users transcripts journal' → text ≡ output_text transcripts journal' → DepartsAt users text place → ⊥
nowhere users text transcripts journal' place printed is departs =
    ended_departs_not users text (lines_of transcripts journal') place (output_leads users transcripts journal' printed).sound (over_at_end users transcripts journal' printed) (is ∙ sym (lines_text_of transcripts journal')) departs

-- an output is told by its text
pub one_output : (users : Option (List ℕ)) (transcripts others : List PlainTranscript) (journal' another : List PlainEntry) → MayBePrinted users transcripts journal' → MayBePrinted users others another → output_text transcripts journal' ≡ output_text others another
    → (transcripts ≡ others) × (journal' ≡ another)
one_output users transcripts others journal' another printed also same =
    let one = output_leads users transcripts journal' printed in
    let two = output_leads users others another also in
    let xs : List PlainLine = lines_of transcripts journal' in
    let ys : List PlainLine = lines_of others another in
    let whole : bytes_of xs ++ [] ≡ bytes_of ys ++ [] = ap (λ (text : List ℕ). text ++ []) (lines_text_of transcripts journal' ∙ (same ∙ sym (lines_text_of others another))) in
    let walk = one_walk users nothing_read xs ys [] [] one.sound two.sound whole (λ on. none_goes_on users (after nothing_read xs) [] (over_at_end users transcripts journal' printed) on) (λ on. none_goes_on users (after nothing_read ys) [] (over_at_end users others another also) on) in
    let drafts : at transcripts (ended journal') ≡ at others (ended another) = sym one.there ∙ (ap (after nothing_read) walk.0 ∙ two.there) in
    (ap (λ (d : PlainDraft). d.transcripts) drafts, ap (λ (d : PlainDraft). entries_in d.section) drafts)

-- ---- what a call reads

pub only_output : (users : Option (List ℕ)) (text : List ℕ) (result : Result PlainPrinted PrintedRefused) → ReadsText users text result → (transcripts : List PlainTranscript) (journal' : List PlainEntry) → MayBePrinted users transcripts journal' → text ≡ output_text transcripts journal'
    → MatchResult result (λ printed. printed ≡ record { transcripts = transcripts; journal = journal' }) (λ why. why ≡ WantOfMemory)
only_output users text (Ok printed) reads transcripts journal' is same =
    let one = one_output users printed.transcripts transcripts printed.journal journal' reads.0 is (sym reads.1 ∙ same) in
    ap (λ (list : List PlainTranscript). let p : PlainPrinted = record { transcripts = list; journal = printed.journal } in p) one.0
    ∙ ap (λ (list : List PlainEntry). let p : PlainPrinted = record { transcripts = transcripts; journal = list } in p) one.1
only_output users text (Err (Departs place)) reads transcripts journal' is same = absurd (nowhere users text transcripts journal' place is same reads)
only_output users text (Err WantOfMemory) reads transcripts journal' is same = refl

pub only_departs : (users : Option (List ℕ)) (text : List ℕ) (result : Result PlainPrinted PrintedRefused) → ReadsText users text result → (place : ℕ) → DepartsAt users text place → MatchResult result (λ _. ⊥) (λ why. (why ≡ Departs place) ⊎ (why ≡ WantOfMemory))
only_departs users text (Ok printed) reads place departs = nowhere users text printed.transcripts printed.journal place reads.0 reads.1 departs
only_departs users text (Err (Departs other)) reads place departs = inl (ap Departs (departs_once users text other place reads departs))
only_departs users text (Err WantOfMemory) reads place departs = inr refl
