-- What lines say is what they are the lines of, and may be printed so far.
use Rattle.std.proofs.Common.{◌≡◌, ℕ, ◌+◌, ◌<◌, ◌≤◌, Bool, true, false, eqb, List, [], ◌∷◌, ◌++◌, Option, Some, None, length, map, refl, sym, ap, ◌∙◌, subst, arith, append-nil, append_assoc, length-append}
use Rattle.std.proofs.lemmas.Bool.{and_parts, eqb-true, false≢true, ltb-true}
use Rattle.std.proofs.lemmas.List.{length-map, map-append}
use Rattle.std.proofs.lemmas.List.Concat.{flat_map-append}
use Rattle.std.proofs.lemmas.List.Elements.{All-nil, All-push, All-append, All-cons, All-head, All-tail, All-from_recursion, recursion_from_All}
use Rattle.std.specs.List.{All, flat_map, slice_get}
use Rattle.std.specs.Option.{option_map_or}
use Rattle.apl_arrays.specs.Ascending.{Ascend}
use Rattle.apl_arrays.specs.Glyph.{IsGlyph}
use Rattle.line_text.specs.Lines.{content, end_line, heading, line_text, lines_text}
use Rattle.sv_events.specs.Entry.{PlainEntry}
use Rattle.sv_journal.specs.EntryText.{entry_text}
use Rattle.sv_journal.specs.IsEntry.{IsEntry}
use Rattle.sv_journal.specs.Output.{PlainTranscript, entry_lines, journal_lines, output_lines, output_text, transcript_lines}
use Rattle.printed_text.specs.Draft.{PlainDraft, PlainSection, start, of_user, of_entries, ended, AreSound, IsSound, are_all, entries_in, is_above, is_at_end, is_next, is_next_place, longer, may_stand, nothing_read, said, takes_headings, text_before, transcripts_so_far, transcripts_with, user_so_far, with_line}
use Rattle.printed_text.specs.MayBePrinted.{AreEntries, AreUsers, IsShown, MayBePrinted}
use Rattle.printed_text.specs.Line.{IsOutputLine, IsUserNumber, PlainLine, end, entry, journal, journal_line, line_glyphs, shown, user}

-- transcripts that are whole, and a section
abbrev pub at : List PlainTranscript → PlainSection → PlainDraft
at transcripts section = record { transcripts = transcripts; section = section }

-- ---- the lines of what was said

abbrev section_lines : PlainSection → List (List ℕ)
section_lines start = []
section_lines (of_user one) = []
section_lines (of_entries entries) = journal_line ∷ entry_lines 1 entries
section_lines (ended entries) = journal_lines entries

abbrev shown_by : List PlainTranscript → List (List ℕ)
shown_by transcripts = flat_map transcript_lines transcripts

abbrev draft_lines : PlainDraft → List (List ℕ)
draft_lines draft = shown_by (transcripts_so_far draft) ++ section_lines draft.section

-- one transcript more
one_more : (all : List PlainTranscript) (one : PlainTranscript) → shown_by (all ++ one ∷ []) ≡ shown_by all ++ transcript_lines one
one_more all one = flat_map-append transcript_lines all (one ∷ []) ∙ ap (λ (lines : List (List ℕ)). shown_by all ++ lines) (append-nil (transcript_lines one))

begun : (all : List PlainTranscript) (number : ℕ) → shown_by (all ++ record { user = number; lines = [] } ∷ []) ++ [] ≡ (shown_by all ++ []) ++ heading number ∷ []
begun all number =
    append-nil (shown_by (all ++ record { user = number; lines = [] } ∷ [])) ∙ (one_more all (record { user = number; lines = [] }) ∙ ap (λ (lines : List (List ℕ)). lines ++ heading number ∷ []) (sym (append-nil (shown_by all))))

longer_lines : (one : PlainTranscript) (line : List ℕ) → transcript_lines (record { user = one.user; lines = one.lines ++ line ∷ [] }) ≡ transcript_lines one ++ content line ∷ []
longer_lines one line = ap (λ (lines : List (List ℕ)). heading one.user ∷ lines) (map-append content one.lines (line ∷ []))

shown_more : (transcripts : List PlainTranscript) (one : PlainTranscript) (line : List ℕ) → shown_by (transcripts ++ record { user = one.user; lines = one.lines ++ line ∷ [] } ∷ []) ++ [] ≡ (shown_by (transcripts ++ one ∷ []) ++ []) ++ content line ∷ []
shown_more transcripts one line =
    append-nil (shown_by (transcripts ++ record { user = one.user; lines = one.lines ++ line ∷ [] } ∷ []))
    ∙ (one_more transcripts (record { user = one.user; lines = one.lines ++ line ∷ [] })
    ∙ (ap (λ (lines : List (List ℕ)). shown_by transcripts ++ lines) (longer_lines one line)
    ∙ (sym (append_assoc (shown_by transcripts) (transcript_lines one) (content line ∷ []))
    ∙ ap (λ (lines : List (List ℕ)). lines ++ content line ∷ []) (sym (append-nil (shown_by (transcripts ++ one ∷ [])) ∙ one_more transcripts one)))))

opened : (all : List PlainTranscript) → shown_by all ++ journal_line ∷ [] ≡ (shown_by all ++ []) ++ journal_line ∷ []
opened all = ap (λ (lines : List (List ℕ)). lines ++ journal_line ∷ []) (sym (append-nil (shown_by all)))

-- the line of one entry more
numbered_more : (place : ℕ) (entries : List PlainEntry) (e : PlainEntry) → entry_lines place (entries ++ e ∷ []) ≡ entry_lines place entries ++ entry_text (place + length entries) e ∷ []
numbered_more place [] e = ap (λ (n : ℕ). entry_text n e ∷ []) (let same : place ≡ place + 0 = omega arith in same)
numbered_more place (first ∷ rest) e =
    ap (λ (lines : List (List ℕ)). entry_text place first ∷ lines)
    (numbered_more (place + 1) rest e
    ∙ ap (λ (n : ℕ). entry_lines (place + 1) rest ++ entry_text n e ∷ []) (let same : place + 1 + length rest ≡ place + length (first ∷ rest) = omega arith in same))

entered : (transcripts : List PlainTranscript) (entries : List PlainEntry) (place : ℕ) (e : PlainEntry) → place ≡ length entries + 1
    → shown_by transcripts ++ journal_line ∷ entry_lines 1 (entries ++ e ∷ []) ≡ (shown_by transcripts ++ journal_line ∷ entry_lines 1 entries) ++ entry_text place e ∷ []
entered transcripts entries place e is =
    let here : 1 + length entries ≡ place = omega (arith, is) in
    ap (λ (lines : List (List ℕ)). shown_by transcripts ++ journal_line ∷ lines) (numbered_more 1 entries e ∙ ap (λ (n : ℕ). entry_lines 1 entries ++ entry_text n e ∷ []) here)
    ∙ sym (append_assoc (shown_by transcripts) (journal_line ∷ entry_lines 1 entries) (entry_text place e ∷ []))

lines_more : (users : Option (List ℕ)) (transcripts : List PlainTranscript) (section : PlainSection) (line : PlainLine) → may_stand users (at transcripts section) line ≡ true
    → draft_lines (with_line (at transcripts section) line) ≡ draft_lines (at transcripts section) ++ line_glyphs line ∷ []
lines_more users transcripts start (user number) may = begun transcripts number
lines_more users transcripts (of_user one) (user number) may = begun (transcripts ++ one ∷ []) number
lines_more users transcripts (of_entries entries) (user number) may = absurd (false≢true may)
lines_more users transcripts (ended entries) (user number) may = absurd (false≢true may)
lines_more users transcripts start (shown line) may = absurd (false≢true may)
lines_more users transcripts (of_user one) (shown line) may = shown_more transcripts one line
lines_more users transcripts (of_entries entries) (shown line) may = absurd (false≢true may)
lines_more users transcripts (ended entries) (shown line) may = absurd (false≢true may)
lines_more users transcripts start journal may = opened transcripts
lines_more users transcripts (of_user one) journal may = opened (transcripts ++ one ∷ [])
lines_more users transcripts (of_entries entries) journal may = absurd (false≢true may)
lines_more users transcripts (ended entries) journal may = absurd (false≢true may)
lines_more users transcripts start (entry place e) may = absurd (false≢true may)
lines_more users transcripts (of_user one) (entry place e) may = absurd (false≢true may)
lines_more users transcripts (of_entries entries) (entry place e) may = entered transcripts entries place e (eqb-true place (length entries + 1) may)
lines_more users transcripts (ended entries) (entry place e) may = absurd (false≢true may)
lines_more users transcripts start end may = absurd (false≢true may)
lines_more users transcripts (of_user one) end may = absurd (false≢true may)
lines_more users transcripts (of_entries entries) end may = sym (append_assoc (shown_by transcripts) (journal_line ∷ entry_lines 1 entries) (end_line ∷ []))
lines_more users transcripts (ended entries) end may = absurd (false≢true may)

-- the bytes of lines are those of what they say
said_lines : (users : Option (List ℕ)) (before : List PlainLine) → AreSound users before → text_before before ≡ lines_text (draft_lines (said before))
said_lines users [] sound = refl
said_lines users (line ∷ before) sound =
    let draft : PlainDraft = said before in
    ap (λ (front : List ℕ). front ++ line_text (line_glyphs line)) (said_lines users before sound.1)
    ∙ (sym (flat_map-append line_text (draft_lines draft) (line_glyphs line ∷ []) ∙ ap (λ (behind : List ℕ). lines_text (draft_lines draft) ++ behind) (append-nil (line_text (line_glyphs line))))
    ∙ ap lines_text (sym (lines_more users draft.transcripts draft.section line sound.0.place)))

ended_lines : (transcripts : List PlainTranscript) (section : PlainSection) → is_at_end section ≡ true → draft_lines (at transcripts section) ≡ output_lines transcripts (entries_in section)
ended_lines transcripts start over = absurd (false≢true over)
ended_lines transcripts (of_user one) over = absurd (false≢true over)
ended_lines transcripts (of_entries entries) over = absurd (false≢true over)
ended_lines transcripts (ended entries) over = refl

-- behind the end they are the bytes of an output
pub ended_text : (users : Option (List ℕ)) (before : List PlainLine) → AreSound users before → is_at_end (said before).section ≡ true → text_before before ≡ output_text (said before).transcripts (entries_in (said before).section)
ended_text users before sound over = said_lines users before sound ∙ ap lines_text (ended_lines (said before).transcripts (said before).section over)

-- ---- what was said may be printed

abbrev users_of : List PlainTranscript → List ℕ
users_of transcripts = map (λ (one : PlainTranscript). one.user) transcripts

-- so many of the users came; or their numbers ascend
abbrev CameSoFar : Option (List ℕ) → List ℕ → Type 0
CameSoFar (Some users) numbers = (rest : List ℕ) × (users ≡ numbers ++ rest)
CameSoFar None numbers = Ascend numbers

abbrev IfStart : PlainSection → Type 0 → Type 0
IfStart start fact = fact
IfStart _ fact = Unit {0}

record Keeps (users : Option (List ℕ)) (draft : PlainDraft) : Type 0 where
  numbers : CameSoFar users (users_of (transcripts_so_far draft))
  none : IfStart draft.section (draft.transcripts ≡ [])
  whole : takes_headings draft.section ≡ false → AreUsers users (users_of (transcripts_so_far draft))
  shown_ : All IsShown (transcripts_so_far draft)
  entries : AreEntries 1 (entries_in draft.section)

-- one user more

get_behind : (front rest : List ℕ) → slice_get (front ++ rest) (length front) ≡ slice_get rest 0
get_behind [] rest = refl
get_behind (x ∷ front) rest = get_behind front rest

next_named : (front rest : List ℕ) (number : ℕ) → option_map_or (λ (one : ℕ). eqb one number) (slice_get rest 0) false ≡ true → (left : List ℕ) × (front ++ rest ≡ (front ++ number ∷ []) ++ left)
next_named front [] number is = absurd (false≢true is)
next_named front (x ∷ left) number is =
    (left, ap (λ (one : ℕ). front ++ one ∷ left) (eqb-true x number is) ∙ sym (append_assoc front (number ∷ []) left))

ascend_more : (front : List ℕ) (last number : ℕ) → Ascend (front ++ last ∷ []) → last < number → Ascend ((front ++ last ∷ []) ++ number ∷ [])
ascend_more [] last number ascend above = (above, tt)
ascend_more (x ∷ []) last number ascend above = (ascend.0, (above, tt))
ascend_more (x ∷ y ∷ front) last number ascend above = (ascend.0, ascend_more (y ∷ front) last number ascend.1 above)

users_push : (all : List PlainTranscript) (one : PlainTranscript) → users_of (all ++ one ∷ []) ≡ users_of all ++ one.user ∷ []
users_push all one = map-append (λ (t : PlainTranscript). t.user) all (one ∷ [])

came_named : (users : List ℕ) (all : List PlainTranscript) (last : Option ℕ) (number : ℕ) → CameSoFar (Some users) (users_of all) → is_next (Some users) (length all) last number ≡ true → CameSoFar (Some users) (users_of all ++ number ∷ [])
came_named users all last number came next =
    let count : length all ≡ length (users_of all) = sym (length-map all (λ (t : PlainTranscript). t.user)) in
    let there : slice_get users (length all) ≡ slice_get came.0 0 = ap (λ (list : List ℕ). slice_get list (length all)) came.1 ∙ (ap (slice_get (users_of all ++ came.0)) count ∙ get_behind (users_of all) came.0) in
    let found = next_named (users_of all) came.0 number (ap (λ (o : Option ℕ). option_map_or (λ (one : ℕ). eqb one number) o false) (sym there) ∙ next) in
    (found.0, came.1 ∙ found.1)

came_first : (users : Option (List ℕ)) (transcripts : List PlainTranscript) (number : ℕ) → transcripts ≡ [] → CameSoFar users (users_of transcripts) → is_next users (length transcripts) None number ≡ true → CameSoFar users (users_of transcripts ++ number ∷ [])
came_first (Some users) transcripts number none came next = came_named users transcripts None number came next
came_first None transcripts number none came next = subst (λ (list : List PlainTranscript). Ascend (users_of list ++ number ∷ [])) (sym none) tt

came_behind : (users : Option (List ℕ)) (transcripts : List PlainTranscript) (one : PlainTranscript) (number : ℕ) → CameSoFar users (users_of (transcripts ++ one ∷ [])) → is_next users (length (transcripts ++ one ∷ [])) (Some one.user) number ≡ true
    → CameSoFar users (users_of (transcripts ++ one ∷ []) ++ number ∷ [])
came_behind (Some users) transcripts one number came next = came_named users (transcripts ++ one ∷ []) (Some one.user) number came next
came_behind None transcripts one number came next =
    subst (λ (list : List ℕ). Ascend (list ++ number ∷ [])) (sym (users_push transcripts one))
    (ascend_more (users_of transcripts) one.user number (subst Ascend (users_push transcripts one) came) (ltb-true one.user number next))

-- all users came
no_rest : (front rest : List ℕ) → length (front ++ rest) ≡ length front → rest ≡ []
no_rest front [] same = refl
no_rest front (x ∷ rest) same = absurd (omega (arith, same, length-append front (x ∷ rest)))

all_came : (users : Option (List ℕ)) (all : List PlainTranscript) → CameSoFar users (users_of all) → are_all users (length all) ≡ true → AreUsers users (users_of all)
all_came (Some users) all came are =
    let count : length users ≡ length (users_of all) = eqb-true (length users) (length all) are ∙ sym (length-map all (λ (t : PlainTranscript). t.user)) in
    let none : came.0 ≡ [] = no_rest (users_of all) came.0 (sym (ap length came.1) ∙ count) in
    sym (came.1 ∙ (ap (λ (rest : List ℕ). users_of all ++ rest) none ∙ append-nil (users_of all)))
all_came None all came are = came

-- one entry more
entries_more : (place : ℕ) (entries : List PlainEntry) (e : PlainEntry) → AreEntries place entries → IsEntry (place + length entries) e → AreEntries place (entries ++ e ∷ [])
entries_more place [] e are is = (subst (λ (n : ℕ). IsEntry n e) (let same : place + 0 ≡ place = omega arith in same) is, tt)
entries_more place (first ∷ rest) e are is =
    (are.0, entries_more (place + 1) rest e are.1 (subst (λ (n : ℕ). IsEntry n e) (let same : place + length (first ∷ rest) ≡ place + 1 + length rest = omega arith in same) is))

begins_user : (users : Option (List ℕ)) (all : List PlainTranscript) (number : ℕ) → IsUserNumber number → CameSoFar users (users_of all ++ number ∷ []) → All IsShown all → Keeps users (at all (of_user (record { user = number; lines = [] })))
begins_user users all number is came each = record {
  numbers = subst (CameSoFar users) (sym (users_push all (record { user = number; lines = [] }))) came;
  none = tt;
  whole = λ no. absurd (false≢true (sym no));
  shown_ = All-push IsShown all (record { user = number; lines = [] }) each (record { number = is; lines = All-nil (λ (line : List ℕ). All IsGlyph line) });
  entries = tt;
}

opens : (users : Option (List ℕ)) (all : List PlainTranscript) → CameSoFar users (users_of all) → are_all users (length all) ≡ true → All IsShown all → Keeps users (at all (of_entries []))
opens users all came are each = record { numbers = came; none = tt; whole = λ _. all_came users all came are; shown_ = each; entries = tt }

last_shown : (transcripts : List PlainTranscript) (one : PlainTranscript) → All IsShown (transcripts ++ one ∷ []) → All IsShown transcripts × IsShown one
last_shown [] one each = (All-nil IsShown, All-head IsShown one [] each)
last_shown (first ∷ rest) one each =
    let inner = last_shown rest one (All-tail IsShown first (rest ++ one ∷ []) each) in
    (All-cons IsShown first rest (All-head IsShown first (rest ++ one ∷ []) each) inner.0, inner.1)

keeps_more : (users : Option (List ℕ)) (transcripts : List PlainTranscript) (section : PlainSection) (line : PlainLine) → IsOutputLine line → may_stand users (at transcripts section) line ≡ true → Keeps users (at transcripts section) → Keeps users (with_line (at transcripts section) line)
keeps_more users transcripts start (user number) is may k = begins_user users transcripts number is (came_first users transcripts number k.none k.numbers may) k.shown_
keeps_more users transcripts (of_user one) (user number) is may k = begins_user users (transcripts ++ one ∷ []) number is (came_behind users transcripts one number k.numbers may) k.shown_
keeps_more users transcripts (of_entries entries) (user number) is may k = absurd (false≢true may)
keeps_more users transcripts (ended entries) (user number) is may k = absurd (false≢true may)
keeps_more users transcripts start (shown line) is may k = absurd (false≢true may)
keeps_more users transcripts (of_user one) (shown line) is may k =
    let longer_one : PlainTranscript = record { user = one.user; lines = one.lines ++ line ∷ [] } in
    let parts = last_shown transcripts one k.shown_ in
    record {
      numbers = subst (CameSoFar users) (users_push transcripts one ∙ sym (users_push transcripts longer_one)) k.numbers;
      none = tt;
      whole = λ no. absurd (false≢true (sym no));
      shown_ = All-push IsShown transcripts longer_one parts.0 (record { number = parts.1.number; lines = All-push (λ (l : List ℕ). All IsGlyph l) one.lines line parts.1.lines is });
      entries = tt;
    }
keeps_more users transcripts (of_entries entries) (shown line) is may k = absurd (false≢true may)
keeps_more users transcripts (ended entries) (shown line) is may k = absurd (false≢true may)
keeps_more users transcripts start journal is may k = opens users transcripts k.numbers may k.shown_
keeps_more users transcripts (of_user one) journal is may k = opens users (transcripts ++ one ∷ []) k.numbers may k.shown_
keeps_more users transcripts (of_entries entries) journal is may k = absurd (false≢true may)
keeps_more users transcripts (ended entries) journal is may k = absurd (false≢true may)
keeps_more users transcripts start (entry place e) is may k = absurd (false≢true may)
keeps_more users transcripts (of_user one) (entry place e) is may k = absurd (false≢true may)
keeps_more users transcripts (of_entries entries) (entry place e) is may k =
    let here : place ≡ 1 + length entries = let same : place ≡ length entries + 1 = eqb-true place (length entries + 1) may in omega (arith, same) in
    record { numbers = k.numbers; none = tt; whole = k.whole; shown_ = k.shown_; entries = entries_more 1 entries e k.entries (subst (λ (n : ℕ). IsEntry n e) here is) }
keeps_more users transcripts (ended entries) (entry place e) is may k = absurd (false≢true may)
keeps_more users transcripts start end is may k = absurd (false≢true may)
keeps_more users transcripts (of_user one) end is may k = absurd (false≢true may)
keeps_more users transcripts (of_entries entries) end is may k = record { numbers = k.numbers; none = tt; whole = k.whole; shown_ = k.shown_; entries = k.entries }
keeps_more users transcripts (ended entries) end is may k = absurd (false≢true may)

keeps_nothing : (users : Option (List ℕ)) → Keeps users nothing_read
keeps_nothing (Some users) = record { numbers = (users, refl); none = refl; whole = λ no. absurd (false≢true (sym no)); shown_ = All-nil IsShown; entries = tt }
keeps_nothing None = record { numbers = tt; none = refl; whole = λ no. absurd (false≢true (sym no)); shown_ = All-nil IsShown; entries = tt }

keeps_all : (users : Option (List ℕ)) (before : List PlainLine) → AreSound users before → Keeps users (said before)
keeps_all users [] sound = keeps_nothing users
keeps_all users (line ∷ before) sound = keeps_more users (said before).transcripts (said before).section line sound.0.form sound.0.place (keeps_all users before sound.1)

printed_at_end : (users : Option (List ℕ)) (transcripts : List PlainTranscript) (section : PlainSection) → is_at_end section ≡ true → Keeps users (at transcripts section) → MayBePrinted users transcripts (entries_in section)
printed_at_end users transcripts start over k = absurd (false≢true over)
printed_at_end users transcripts (of_user one) over k = absurd (false≢true over)
printed_at_end users transcripts (of_entries entries) over k = absurd (false≢true over)
printed_at_end users transcripts (ended entries) over k = record { named = k.whole refl; shown = k.shown_; entries = k.entries }

-- behind the end what was said may be printed
pub ended_is_printed : (users : Option (List ℕ)) (before : List PlainLine) → AreSound users before → is_at_end (said before).section ≡ true → MayBePrinted users (said before).transcripts (entries_in (said before).section)
ended_is_printed users before sound over = printed_at_end users (said before).transcripts (said before).section over (keeps_all users before sound)
