-- The lines of an output may stand there, one behind another, and say it.
use Rattle.std.proofs.Common.{◌≡◌, ℕ, ◌+◌, ◌<◌, Bool, true, false, eqb, List, [], ◌∷◌, ◌++◌, Option, Some, None, length, map, refl, sym, ap, ap₂, ◌∙◌, subst, arith, append-nil, append_assoc, length-append}
use Rattle.std.proofs.lemmas.Bool.{and_from, eq-eqb, lt-ltb}
use Rattle.std.proofs.lemmas.List.{length-map, map-append}
use Rattle.std.proofs.lemmas.List.Elements.{All-head, All-tail, recursion_from_All}
use Rattle.std.specs.List.{All, AllByRecursion, flat_map, slice_get}
use Rattle.std.specs.Option.{option_map_or}
use Rattle.apl_arrays.specs.Ascending.{Ascend}
use Rattle.apl_arrays.specs.Glyph.{IsGlyph}
use Rattle.line_text.specs.Lines.{content, lines_text}
use Rattle.line_text.proofs.GlyphTexts.{Glyphs}
use Rattle.sv_events.specs.Entry.{PlainEntry}
use Rattle.sv_journal.specs.EntryText.{entry_text}
use Rattle.sv_journal.specs.Output.{PlainTranscript, entry_lines, journal_lines, output_lines, output_text, transcript_lines}
use Rattle.printed_text.specs.Draft.{PlainDraft, PlainSection, start, of_user, of_entries, ended, IsSound, are_all, is_above, is_next, may_stand, nothing_read, takes_headings, transcripts_so_far, user_so_far, with_line}
use Rattle.printed_text.specs.MayBePrinted.{AreEntries, AreUsers, IsShown, MayBePrinted}
use Rattle.printed_text.specs.Line.{PlainLine, user, shown, journal, entry, end, line_glyphs}
use Rattle.printed_text.proofs.Drafts.{at}
use Rattle.printed_text.proofs.Walks.{SoundFrom, after, bytes_of}

-- ---- the lines of an output

abbrev user_lines_of : PlainTranscript → List PlainLine
user_lines_of one = user one.user ∷ map (λ (line : List ℕ). shown line) one.lines

abbrev entries_from : ℕ → List PlainEntry → List PlainLine
entries_from place [] = []
entries_from place (e ∷ entries) = entry place e ∷ entries_from (place + 1) entries

abbrev pub lines_of : List PlainTranscript → List PlainEntry → List PlainLine
lines_of transcripts entries = flat_map user_lines_of transcripts ++ (journal ∷ (entries_from 1 entries ++ end ∷ []))

shown_glyphs : (lines : List (List ℕ)) → map line_glyphs (map (λ (line : List ℕ). shown line) lines) ≡ map content lines
shown_glyphs [] = refl
shown_glyphs (line ∷ lines) = ap (λ (others : List (List ℕ)). content line ∷ others) (shown_glyphs lines)

users_glyphs : (transcripts : List PlainTranscript) → map line_glyphs (flat_map user_lines_of transcripts) ≡ flat_map transcript_lines transcripts
users_glyphs [] = refl
users_glyphs (one ∷ others) =
    map-append line_glyphs (user_lines_of one) (flat_map user_lines_of others)
    ∙ ap₂ (λ (front rest : List (List ℕ)). front ++ rest) (ap (λ (lines : List (List ℕ)). line_glyphs (user one.user) ∷ lines) (shown_glyphs one.lines)) (users_glyphs others)

entries_glyphs : (place : ℕ) (entries : List PlainEntry) → map line_glyphs (entries_from place entries) ≡ entry_lines place entries
entries_glyphs place [] = refl
entries_glyphs place (e ∷ entries) = ap (λ (others : List (List ℕ)). entry_text place e ∷ others) (entries_glyphs (place + 1) entries)

journal_glyphs : (entries : List PlainEntry) → map line_glyphs (journal ∷ (entries_from 1 entries ++ end ∷ [])) ≡ journal_lines entries
journal_glyphs entries =
    ap (λ (others : List (List ℕ)). line_glyphs journal ∷ others) (map-append line_glyphs (entries_from 1 entries) (end ∷ []) ∙ ap (λ (lines : List (List ℕ)). lines ++ line_glyphs end ∷ []) (entries_glyphs 1 entries))

-- their bytes are its text
pub lines_text_of : (transcripts : List PlainTranscript) (entries : List PlainEntry) → bytes_of (lines_of transcripts entries) ≡ output_text transcripts entries
lines_text_of transcripts entries =
    ap lines_text (map-append line_glyphs (flat_map user_lines_of transcripts) (journal ∷ (entries_from 1 entries ++ end ∷ []))
    ∙ ap₂ (λ (front rest : List (List ℕ)). front ++ rest) (users_glyphs transcripts) (journal_glyphs entries))

module _ (users : Option (List ℕ)) where
  -- ---- lines lead from one draft to another

  pub record Leads (draft : PlainDraft) (lines : List PlainLine) (next : PlainDraft) : Type 0 where
    pub sound : SoundFrom users draft lines
    pub there : after draft lines ≡ next

  nowhere : (draft : PlainDraft) → Leads draft [] draft
  nowhere draft = record { sound = tt; there = refl }

  leads_first : (draft next : PlainDraft) (line : PlainLine) (lines : List PlainLine) → IsSound users draft line → Leads (with_line draft line) lines next → Leads draft (line ∷ lines) next
  leads_first draft next line lines sound more = record { sound = (sound, more.sound); there = more.there }

  leads_on : (draft middle next : PlainDraft) (lines more : List PlainLine) → Leads draft lines middle → Leads middle more next → Leads draft (lines ++ more) next
  leads_on draft middle next [] more a b = subst (λ (some : PlainDraft). Leads some more next) (sym a.there) b
  leads_on draft middle next (line ∷ lines) more a b = leads_first draft next line (lines ++ more) a.sound.0 (leads_on (with_line draft line) middle next lines more (record { sound = a.sound.1; there = a.there }) b)

  leads_to : (draft next other : PlainDraft) (lines : List PlainLine) → Leads draft lines next → next ≡ other → Leads draft lines other
  leads_to draft next other lines a e = subst (Leads draft lines) e a

  -- ---- what users saw

  seen : ℕ → List (List ℕ) → PlainTranscript
  seen number lines = record { user = number; lines = lines }

  shown_lead : (all : List PlainTranscript) (number : ℕ) (front lines : List (List ℕ)) → AllByRecursion Glyphs lines
      → Leads (at all (of_user (record { user = number; lines = front }))) (map (λ (line : List ℕ). shown line) lines) (at all (of_user (record { user = number; lines = front ++ lines })))
  shown_lead all number front [] each =
      leads_to _ _ _ [] (nowhere (at all (of_user (record { user = number; lines = front })))) (ap (λ (lines : List (List ℕ)). at all (of_user (record { user = number; lines = lines }))) (sym (append-nil front)))
  shown_lead all number front (line ∷ lines) each =
      let here : PlainDraft = at all (of_user (record { user = number; lines = front })) in
      let sound : IsSound users here (shown line) = record { form = each.0; place = refl } in
      leads_first here _ (shown line) (map (λ (l : List ℕ). shown l) lines) sound
      (leads_to _ _ _ (map (λ (l : List ℕ). shown l) lines) (shown_lead all number (front ++ line ∷ []) lines each.1)
      (ap (λ (some : List (List ℕ)). at all (of_user (record { user = number; lines = some }))) (append_assoc front (line ∷ []) lines)))

  abbrev users_of : List PlainTranscript → List ℕ
  users_of transcripts = map (λ (one : PlainTranscript). one.user) transcripts

  -- these users may follow behind those
  abbrev MayFollow : Option (List ℕ) → List PlainTranscript → Option ℕ → List PlainTranscript → Type 0
  MayFollow (Some named) all last more = named ≡ users_of all ++ users_of more
  MayFollow None all last [] = Unit {0}
  MayFollow None all last (one ∷ more) = (is_above last one.user ≡ true) × Ascend (one.user ∷ users_of more)

  get_behind : (front rest : List ℕ) (number : ℕ) → slice_get (front ++ number ∷ rest) (length front) ≡ Some number
  get_behind [] rest number = refl
  get_behind (x ∷ front) rest number = get_behind front rest number

  next_is : (some : Option (List ℕ)) (all : List PlainTranscript) (last : Option ℕ) (one : PlainTranscript) (more : List PlainTranscript) → MayFollow some all last (one ∷ more) → is_next some (length all) last one.user ≡ true
  next_is (Some named) all last one more follow =
      let count : length all ≡ length (users_of all) = sym (length-map all (λ (t : PlainTranscript). t.user)) in
      let there : slice_get named (length all) ≡ Some one.user =
      ap (λ (list : List ℕ). slice_get list (length all)) follow ∙ (ap (slice_get (users_of all ++ one.user ∷ users_of more)) count ∙ get_behind (users_of all) (users_of more) one.user) in
      ap (λ (o : Option ℕ). option_map_or (λ (n : ℕ). eqb n one.user) o false) there ∙ eq-eqb one.user one.user refl
  next_is None all last one more follow = follow.0

  follow_on : (some : Option (List ℕ)) (all : List PlainTranscript) (last : Option ℕ) (one : PlainTranscript) (more : List PlainTranscript) → MayFollow some all last (one ∷ more) → MayFollow some (all ++ one ∷ []) (Some one.user) more
  follow_on (Some named) all last one more follow =
      follow ∙ (sym (append_assoc (users_of all) (one.user ∷ []) (users_of more)) ∙ ap (λ (front : List ℕ). front ++ users_of more) (sym (map-append (λ (t : PlainTranscript). t.user) all (one ∷ []))))
  follow_on None all last one [] follow = tt
  follow_on None all last one (two ∷ more) follow = (lt-ltb one.user two.user follow.1.0, follow.1.1)

  -- users lead to a draft that has them all
  record Reach (draft : PlainDraft) (lines : List PlainLine) (all : List PlainTranscript) : Type 0 where
    next : PlainDraft
    leads : Leads draft lines next
    has : transcripts_so_far next ≡ all
    takes : takes_headings next.section ≡ true

  user_leads : (draft : PlainDraft) (all : List PlainTranscript) (one : PlainTranscript) → transcripts_so_far draft ≡ all → takes_headings draft.section ≡ true → IsShown one → is_next users (length all) (user_so_far draft.section) one.user ≡ true → Leads draft (user_lines_of one) (at all (of_user one))
  user_leads draft all one has takes is next =
      let place : may_stand users draft (user one.user) ≡ true =
      and_from (takes_headings draft.section) (is_next users (length (transcripts_so_far draft)) (user_so_far draft.section) one.user) takes
      (ap (λ (list : List PlainTranscript). is_next users (length list) (user_so_far draft.section) one.user) has ∙ next) in
      let sound : IsSound users draft (user one.user) = record { form = is.number; place = place } in
      leads_first draft _ (user one.user) (map (λ (l : List ℕ). shown l) one.lines) sound
      (subst (λ (list : List PlainTranscript). Leads (at list (of_user (record { user = one.user; lines = [] }))) (map (λ (l : List ℕ). shown l) one.lines) (at all (of_user one))) (sym has)
      (shown_lead all one.user [] one.lines (recursion_from_All Glyphs one.lines is.lines)))

  users_reach : (draft : PlainDraft) (all more : List PlainTranscript) → transcripts_so_far draft ≡ all → takes_headings draft.section ≡ true → MayFollow users all (user_so_far draft.section) more → AllByRecursion IsShown more → Reach draft (flat_map user_lines_of more) (all ++ more)
  users_reach draft all [] has takes follow each = record { next = draft; leads = nowhere draft; has = has ∙ sym (append-nil all); takes = takes }
  users_reach draft all (one ∷ more) has takes follow each =
      let first = user_leads draft all one has takes each.0 (next_is users all (user_so_far draft.section) one more follow) in
      let rest = users_reach (at all (of_user one)) (all ++ one ∷ []) more refl refl (follow_on users all (user_so_far draft.section) one more follow) each.1 in
      record {
        next = rest.next;
        leads = leads_on draft (at all (of_user one)) rest.next (user_lines_of one) (flat_map user_lines_of more) first rest.leads;
        has = rest.has ∙ append_assoc all (one ∷ []) more;
        takes = rest.takes;
      }

  -- ---- entries

  entries_lead : (all : List PlainTranscript) (front entries : List PlainEntry) (place : ℕ) → place ≡ length front + 1 → AreEntries place entries → Leads (at all (of_entries front)) (entries_from place entries) (at all (of_entries (front ++ entries)))
  entries_lead all front [] place here are = leads_to _ _ _ [] (nowhere (at all (of_entries front))) (ap (λ (some : List PlainEntry). at all (of_entries some)) (sym (append-nil front)))
  entries_lead all front (e ∷ entries) place here are =
      let sound : IsSound users (at all (of_entries front)) (entry place e) = record { form = are.0; place = eq-eqb place (length front + 1) here } in
      let further : place + 1 ≡ length (front ++ e ∷ []) + 1 = omega (arith, here, length-append front (e ∷ [])) in
      leads_first (at all (of_entries front)) _ (entry place e) (entries_from (place + 1) entries) sound
      (leads_to _ _ _ (entries_from (place + 1) entries) (entries_lead all (front ++ e ∷ []) entries (place + 1) further are.1) (ap (λ (some : List PlainEntry). at all (of_entries some)) (append_assoc front (e ∷ []) entries)))

  end_leads : (all : List PlainTranscript) (entries : List PlainEntry) → Leads (at all (of_entries entries)) (end ∷ []) (at all (ended entries))
  end_leads all entries = leads_first (at all (of_entries entries)) _ end [] (record { form = tt; place = refl }) (nowhere (at all (ended entries)))

  all_are : (some : Option (List ℕ)) (all : List PlainTranscript) → AreUsers some (users_of all) → are_all some (length all) ≡ true
  all_are (Some named) all are = eq-eqb (length named) (length all) (sym (ap length are) ∙ length-map all (λ (t : PlainTranscript). t.user))
  all_are None all are = refl

  journal_leads : (draft : PlainDraft) (all : List PlainTranscript) (entries : List PlainEntry) → transcripts_so_far draft ≡ all → takes_headings draft.section ≡ true → AreUsers users (users_of all) → AreEntries 1 entries
      → Leads draft (journal ∷ (entries_from 1 entries ++ end ∷ [])) (at all (ended entries))
  journal_leads draft all entries has takes are each =
      let place : may_stand users draft journal ≡ true =
      and_from (takes_headings draft.section) (are_all users (length (transcripts_so_far draft))) takes (ap (λ (list : List PlainTranscript). are_all users (length list)) has ∙ all_are users all are) in
      leads_first draft _ journal (entries_from 1 entries ++ end ∷ []) (record { form = tt; place = place })
      (subst (λ (list : List PlainTranscript). Leads (at list (of_entries [])) (entries_from 1 entries ++ end ∷ []) (at all (ended entries))) (sym has)
      (leads_on (at all (of_entries [])) (at all (of_entries entries)) (at all (ended entries)) (entries_from 1 entries) (end ∷ []) (entries_lead all [] entries 1 refl each) (end_leads all entries)))

  follows_first : (some : Option (List ℕ)) (transcripts : List PlainTranscript) → AreUsers some (users_of transcripts) → MayFollow some [] None transcripts
  follows_first (Some named) transcripts are = sym are
  follows_first None [] are = tt
  follows_first None (one ∷ more) are = (refl, are)

  -- the lines of an output lead from nothing to its end
  pub output_leads : (transcripts : List PlainTranscript) (entries : List PlainEntry) → MayBePrinted users transcripts entries → Leads nothing_read (lines_of transcripts entries) (at transcripts (ended entries))
  output_leads transcripts entries is =
      let reach = users_reach nothing_read [] transcripts refl refl (follows_first users transcripts is.named) (recursion_from_All IsShown transcripts is.shown) in
      leads_on nothing_read reach.next (at transcripts (ended entries)) (flat_map user_lines_of transcripts) (journal ∷ (entries_from 1 entries ++ end ∷ [])) reach.leads
      (journal_leads reach.next transcripts entries reach.has reach.takes is.named is.entries)
