-- The lines of a bundle's page are sound, and say the bundle.
use Rattle.std.proofs.Common.{◌≡◌, ℕ, ℤ, pos, ◌+◌, ◌<◌, ◌≤◌, Bool, true, false, ◌&&◌, List, [], ◌∷◌, ◌++◌, length, map, refl, sym, ap, ◌∙◌, subst, arith, append-nil, append_assoc, length-append}
use Rattle.std.specs.Prelude.{nat_lt, nat_le, not}
use Rattle.std.specs.List.{All, list_all, flat_map}
use Rattle.std.specs.Ordering.{is_lt}
use Rattle.std.proofs.lemmas.Bool.{lt-ltb, le-leb, false≢true}
use Rattle.std.proofs.lemmas.List.{length-map, map-append}
use Rattle.std.proofs.lemmas.List.Concat.{flat_map-append}
use Rattle.std.proofs.lemmas.List.Elements.{All-nil, All-cons, All-head, All-tail}
use Rattle.std.proofs.lemmas.List.Folds.{list_all-append, list_all-map}
use Rattle.apl_arrays.specs.Ascending.{AscendBy}
use Rattle.apl_arrays.specs.FileList.{PlainFile, IsAscending}
use Rattle.apl_arrays.specs.Limits.{most_line_glyphs, most_user_lines, most_users}
use Rattle.apl_arrays.specs.Name.{name_order}
use Rattle.line_text.specs.Lines.{line_text, lines_text}
use Rattle.line_text.proofs.Spans.{both}
use Rattle.bundle_text.specs.Breaks.{IsSound}
use Rattle.bundle_text.specs.Rules.{PlainBundle, IsBundle, IsContent, IsUser, IsFile, is_party}
use Rattle.bundle_text.specs.BundleLine.{PlainLine, input, user, order, file, clock, end, IsBundleLine}
use Rattle.bundle_text.specs.Draft.{PlainDraft, PlainSection, start, of_user, turns, of_file, readings, ended, users_with, files_with, users_so_far, files_of, takes_content, takes_user, turns_may_stand, takes_file, is_at_end, with_line, nothing_read, bundle_of}
use Rattle.bundle_text.specs.Limits.{most_turns, most_files, most_readings}
use Rattle.text_reader.specs.Numeral.{number_of_digits}
use Rattle.bundle_text.specs.Bundle.{Page, Sheet, user_section, file_section, lines_of, file_of, bundle_said_by}
use Rattle.bundle_text.specs.User.{PlainUser}
use Rattle.bundle_text.proofs.Kept.{text_push}
use Rattle.bundle_text.proofs.Walks.{SoundFrom, after}

-- lines that lead from one draft to another
pub record DraftLeads (draft : PlainDraft) (lines : List PlainLine) (next : PlainDraft) : Type 0 where
  pub sound : SoundFrom draft lines
  pub there : after draft lines ≡ next

nowhere : (draft : PlainDraft) → DraftLeads draft [] draft
nowhere draft = record { sound = tt; there = refl }

leads_first : (draft next : PlainDraft) (line : PlainLine) (lines : List PlainLine) → IsSound draft line → DraftLeads (with_line draft line) lines next → DraftLeads draft (line ∷ lines) next
leads_first draft next line lines sound more = record { sound = (sound, more.sound); there = more.there }

leads_on : (draft middle next : PlainDraft) (lines more : List PlainLine) → DraftLeads draft lines middle → DraftLeads middle more next → DraftLeads draft (lines ++ more) next
leads_on draft middle next [] more a b = subst (λ some. DraftLeads some more next) (sym a.there) b
leads_on draft middle next (line ∷ lines) more a b =
    leads_first draft next line (lines ++ more) a.sound.0 (leads_on (with_line draft line) middle next lines more (record { sound = a.sound.1; there = a.there }) b)

leads_to : (draft next other : PlainDraft) (lines : List PlainLine) → DraftLeads draft lines next → next ≡ other → DraftLeads draft lines other
leads_to draft next other lines a e = subst (DraftLeads draft lines) e a

both_true : (a b : Bool) → a ≡ true → b ≡ true → (a && b) ≡ true
both_true a b p q = rw (p, q) refl

-- content lines

abbrev at : List PlainUser → List ℕ → List PlainFile → List ℤ → PlainSection → PlainDraft
at users turned files read section = record { users = users; order = turned; files = files; clock = read; section = section }

user_lines_lead : (users : List PlainUser) (turned : List ℕ) (files : List PlainFile) (read : List ℤ) (number : ℕ) (front lines : List (List ℕ)) → length front + length lines ≤ most_user_lines → All IsContent lines
    → DraftLeads (at users turned files read (of_user (record { number = number; lines = front }))) (map (λ line. input line) lines) (at users turned files read (of_user (record { number = number; lines = front ++ lines })))
user_lines_lead users turned files read number front [] few each =
    leads_to _ _ _ [] (nowhere (at users turned files read (of_user (record { number = number; lines = front })))) (ap (λ (all : List (List ℕ)). at users turned files read (of_user (record { number = number; lines = all }))) (sym (append-nil front)))
user_lines_lead users turned files read number front (line ∷ lines) few each =
    let content = All-head IsContent line lines each in
    let here = at users turned files read (of_user (record { number = number; lines = front })) in
    let sound : IsSound here (input line) = record {
      form = content.glyphs;
      place = refl;
      parties = refl;
      limits = both_true (nat_lt (length front) most_user_lines) (nat_le (length line) most_line_glyphs) (lt-ltb _ _ (omega arith)) (le-leb _ _ content.short);
    } in
    let more = user_lines_lead users turned files read number (front ++ line ∷ []) lines (omega (arith, length-append front (line ∷ []))) (All-tail IsContent line lines each) in
    leads_first here _ (input line) (map (λ l. input l) lines) sound (leads_to _ _ _ (map (λ l. input l) lines) more (ap (λ (all : List (List ℕ)). at users turned files read (of_user (record { number = number; lines = all }))) (append_assoc front (line ∷ []) lines)))

file_lines_lead : (users : List PlainUser) (turned : List ℕ) (files : List PlainFile) (read : List ℤ) (name : List ℕ) (bytes : List ℕ) (lines : List (List ℕ)) → All IsContent lines
    → DraftLeads (at users turned files read (of_file (record { name = name; bytes = bytes }))) (map (λ line. input line) lines) (at users turned files read (of_file (record { name = name; bytes = bytes ++ lines_text lines })))
file_lines_lead users turned files read name bytes [] each =
    leads_to _ _ _ [] (nowhere (at users turned files read (of_file (record { name = name; bytes = bytes })))) (ap (λ (all : List ℕ). at users turned files read (of_file (record { name = name; bytes = all }))) (sym (append-nil bytes)))
file_lines_lead users turned files read name bytes (line ∷ lines) each =
    let content = All-head IsContent line lines each in
    let here = at users turned files read (of_file (record { name = name; bytes = bytes })) in
    let sound : IsSound here (input line) = record { form = content.glyphs; place = refl; parties = refl; limits = le-leb _ _ content.short } in
    let more = file_lines_lead users turned files read name (bytes ++ line_text line) lines (All-tail IsContent line lines each) in
    leads_first here _ (input line) (map (λ l. input l) lines) sound (leads_to _ _ _ (map (λ l. input l) lines) more (ap (λ (all : List ℕ). at users turned files read (of_file (record { name = name; bytes = all }))) (append_assoc bytes (line_text line) (lines_text lines))))

-- what a part of a page leads to: a draft that says this, in such a section
pub record Reach (draft : PlainDraft) (lines : List PlainLine) (ok : PlainSection → Type 0) (bundle : PlainBundle) : Type 0 where
  pub next : PlainDraft
  pub leads : DraftLeads draft lines next
  pub says : bundle_of next ≡ bundle
  pub section : ok next.section

abbrev TakesTurns : PlainSection → Type 0
TakesTurns section = turns_may_stand section ≡ true

abbrev IsOpen : PlainSection → Type 0
IsOpen section = is_at_end section ≡ false

reach_to : (draft : PlainDraft) (lines : List PlainLine) (ok : PlainSection → Type 0) (bundle other : PlainBundle) → Reach draft lines ok bundle → bundle ≡ other → Reach draft lines ok other
reach_to draft lines ok bundle other r e = subst (Reach draft lines ok) e r

reach_on : (draft middle : PlainDraft) (lines more : List PlainLine) (ok : PlainSection → Type 0) (bundle : PlainBundle) → DraftLeads draft lines middle → Reach middle more ok bundle → Reach draft (lines ++ more) ok bundle
reach_on draft middle lines more ok bundle first r = record { next = r.next; leads = leads_on draft middle r.next lines more first r.leads; says = r.says; section = r.section }

-- users

user_leads : (users : List PlainUser) (section : PlainSection) (one : PlainUser) → takes_user section one.number ≡ true → length (users_with users section) < most_users → IsUser one
    → DraftLeads (at users [] [] [] section) (user_section one) (at (users_with users section) [] (files_with [] section) [] (of_user one))
user_leads users section one takes room is =
    let here = at users [] [] [] section in
    let sound : IsSound here (user one.number) = record { form = is.number; place = takes; parties = refl; limits = lt-ltb _ _ room } in
    leads_first here _ (user one.number) (map (λ l. input l) one.lines) sound (user_lines_lead (users_with users section) [] (files_with [] section) [] one.number [] one.lines (omega (arith, is.few)) is.each)

users_reach : (done : List PlainUser) (last : PlainUser) (more : List PlainUser) → AscendBy (λ user. user.number) (last ∷ more) → length done + 1 + length more ≤ most_users → All IsUser more
    → Reach (at done [] [] [] (of_user last)) (flat_map user_section more) TakesTurns (record { users = done ++ last ∷ more; order = []; files = []; clock = [] })
users_reach done last [] ascend few each = record { next = at done [] [] [] (of_user last); leads = nowhere (at done [] [] [] (of_user last)); says = refl; section = refl }
users_reach done last (one ∷ more) ascend few each =
    let first = user_leads done (of_user last) one (lt-ltb _ _ ascend.0) (omega (arith, length-append done (last ∷ []))) (All-head IsUser one more each) in
    let rest = users_reach (done ++ last ∷ []) one more ascend.1 (omega (arith, length-append done (last ∷ []))) (All-tail IsUser one more each) in
    reach_to _ _ TakesTurns _ _ (reach_on _ _ (user_section one) (flat_map user_section more) TakesTurns _ first rest) (ap (λ (all : List PlainUser). record { users = all; order = []; files = []; clock = [] }) (append_assoc done (last ∷ []) (one ∷ more)))

all_users_reach : (users : List PlainUser) → AscendBy (λ user. user.number) users → length users ≤ most_users → All IsUser users
    → Reach nothing_read (flat_map user_section users) TakesTurns (record { users = users; order = []; files = []; clock = [] })
all_users_reach [] ascend few each = record { next = nothing_read; leads = nowhere nothing_read; says = refl; section = refl }
all_users_reach (one ∷ more) ascend few each =
    let first = user_leads [] start one refl (omega arith) (All-head IsUser one more each) in
    let rest = users_reach [] one more ascend (omega arith) (All-tail IsUser one more each) in
    reach_on _ _ (user_section one) (flat_map user_section more) TakesTurns _ first rest

-- turns

abbrev joined : List (List (List ℕ)) → List (List ℕ)
joined lines = flat_map (λ numbers. numbers) lines

turns_reach : (draft : PlainDraft) (orders : List (List (List ℕ))) → turns_may_stand draft.section ≡ true → All IsBundleLine (map (λ numbers. order numbers) orders) → list_all (λ digits. is_party (users_so_far draft) (number_of_digits digits)) (joined orders) ≡ true
    → length draft.order + length (joined orders) ≤ most_turns
    → Reach draft (map (λ numbers. order numbers) orders) TakesTurns (record { users = users_so_far draft; order = draft.order ++ map number_of_digits (joined orders); files = files_of draft; clock = draft.clock })
turns_reach draft [] takes forms parties few = record {
  next = draft;
  leads = nowhere draft;
  says = ap (λ (all : List ℕ). record { users = users_so_far draft; order = all; files = files_of draft; clock = draft.clock }) (sym (append-nil draft.order));
  section = takes;
}
turns_reach draft (numbers ∷ orders) takes forms parties few =
    let test = λ (digits : List ℕ). is_party (users_so_far draft) (number_of_digits digits) in
    let parts = both (list_all test numbers) (list_all test (joined orders)) (sym (list_all-append test numbers (joined orders)) ∙ parties) in
    let longer = length-append numbers (joined orders) in
    let form : IsBundleLine (order numbers) = All-head IsBundleLine (order numbers) (map (λ ns. order ns) orders) forms in
    let sound : IsSound draft (order numbers) = record { form = form; place = takes; parties = parts.0; limits = le-leb _ _ (omega (arith, longer)) } in
    let rest = turns_reach (with_line draft (order numbers)) orders refl (All-tail IsBundleLine (order numbers) (map (λ ns. order ns) orders) forms) parts.1 (omega (arith, longer, length-append draft.order (map number_of_digits numbers), length-map numbers number_of_digits)) in
    let whole : (draft.order ++ map number_of_digits numbers) ++ map number_of_digits (joined orders) ≡ draft.order ++ map number_of_digits (numbers ++ joined orders) =
    append_assoc draft.order (map number_of_digits numbers) (map number_of_digits (joined orders)) ∙ ap (λ (some : List ℕ). draft.order ++ some) (sym (map-append number_of_digits numbers (joined orders))) in
    reach_to _ _ TakesTurns _ _ (record { next = rest.next; leads = leads_first draft rest.next (order numbers) (map (λ ns. order ns) orders) sound rest.leads; says = rest.says; section = rest.section })
    (ap (λ (all : List ℕ). record { users = users_so_far draft; order = all; files = files_of draft; clock = draft.clock }) whole)

-- files

takes_first_file : (section : PlainSection) (name : List ℕ) → turns_may_stand section ≡ true → takes_file section name ≡ true
takes_first_file start name takes = refl
takes_first_file (of_user one) name takes = refl
takes_first_file turns name takes = refl
takes_first_file (of_file one) name takes = absurd (false≢true takes)
takes_first_file readings name takes = absurd (false≢true takes)
takes_first_file ended name takes = absurd (false≢true takes)

file_leads : (draft : PlainDraft) (sheet : Sheet) → takes_file draft.section sheet.name ≡ true → length (files_of draft) < most_files → IsBundleLine (file sheet.name) → All IsContent sheet.lines
    → DraftLeads draft (file_section sheet) (at (users_so_far draft) draft.order (files_of draft) draft.clock (of_file (file_of sheet)))
file_leads draft sheet takes room form short =
    let sound : IsSound draft (file sheet.name) = record { form = form; place = takes; parties = refl; limits = lt-ltb _ _ room } in
    leads_first draft _ (file sheet.name) (map (λ l. input l) sheet.lines) sound (file_lines_lead (users_so_far draft) draft.order (files_of draft) draft.clock sheet.name [] sheet.lines short)

abbrev IsNamed : Sheet → Type 0
IsNamed sheet = IsBundleLine (file sheet.name)

abbrev pub IsShort : Sheet → Type 0
IsShort sheet = All IsContent sheet.lines

files_reach : (users : List PlainUser) (turned : List ℕ) (done : List PlainFile) (read : List ℤ) (last : PlainFile) (sheets : List Sheet) → IsAscending (last ∷ map file_of sheets) → length done + 1 + length sheets ≤ most_files → All IsNamed sheets → All IsShort sheets
    → Reach (at users turned done read (of_file last)) (flat_map file_section sheets) IsOpen (record { users = users; order = turned; files = done ++ last ∷ map file_of sheets; clock = read })
files_reach users turned done read last [] ascend few named short = record { next = at users turned done read (of_file last); leads = nowhere (at users turned done read (of_file last)); says = refl; section = refl }
files_reach users turned done read last (sheet ∷ sheets) ascend few named short =
    let first = file_leads (at users turned done read (of_file last)) sheet ascend.0 (omega (arith, length-append done (last ∷ []))) (All-head IsNamed sheet sheets named) (All-head IsShort sheet sheets short) in
    let rest = files_reach users turned (done ++ last ∷ []) read (file_of sheet) sheets ascend.1 (omega (arith, length-append done (last ∷ []))) (All-tail IsNamed sheet sheets named) (All-tail IsShort sheet sheets short) in
    reach_to _ _ IsOpen _ _ (reach_on _ _ (file_section sheet) (flat_map file_section sheets) IsOpen _ first rest) (ap (λ (all : List PlainFile). record { users = users; order = turned; files = all; clock = read }) (append_assoc done (last ∷ []) (map file_of (sheet ∷ sheets))))

opens : (section : PlainSection) → turns_may_stand section ≡ true → is_at_end section ≡ false
opens start takes = refl
opens (of_user one) takes = refl
opens turns takes = refl
opens (of_file one) takes = refl
opens readings takes = refl
opens ended takes = absurd (false≢true takes)

all_files_reach : (draft : PlainDraft) (sheets : List Sheet) → turns_may_stand draft.section ≡ true → files_of draft ≡ [] → IsAscending (map file_of sheets) → length sheets ≤ most_files → All IsNamed sheets → All IsShort sheets
    → Reach draft (flat_map file_section sheets) IsOpen (record { users = users_so_far draft; order = draft.order; files = map file_of sheets; clock = draft.clock })
all_files_reach draft [] takes none ascend few named short = record {
  next = draft;
  leads = nowhere draft;
  says = ap (λ (all : List PlainFile). record { users = users_so_far draft; order = draft.order; files = all; clock = draft.clock }) none;
  section = opens draft.section takes;
}
all_files_reach draft (sheet ∷ sheets) takes none ascend few named short =
    let first = file_leads draft sheet (takes_first_file draft.section sheet.name takes) (omega (arith, ap length none)) (All-head IsNamed sheet sheets named) (All-head IsShort sheet sheets short) in
    let rest = files_reach (users_so_far draft) draft.order [] draft.clock (file_of sheet) sheets ascend (omega arith) (All-tail IsNamed sheet sheets named) (All-tail IsShort sheet sheets short) in
    let at_none = subst (λ (files : List PlainFile). DraftLeads draft (file_section sheet) (at (users_so_far draft) draft.order files draft.clock (of_file (file_of sheet)))) none first in
    reach_on draft (at (users_so_far draft) draft.order [] draft.clock (of_file (file_of sheet))) (file_section sheet) (flat_map file_section sheets) IsOpen _ at_none rest

-- readings

clocks_reach : (draft : PlainDraft) (clocks : List (List (List ℕ))) → is_at_end draft.section ≡ false → All IsBundleLine (map (λ numbers. clock numbers) clocks) → length draft.clock + length (joined clocks) ≤ most_readings
    → Reach draft (map (λ numbers. clock numbers) clocks) IsOpen (record { users = users_so_far draft; order = draft.order; files = files_of draft; clock = draft.clock ++ map (λ digits. pos (number_of_digits digits)) (joined clocks) })
clocks_reach draft [] is_open forms few = record {
  next = draft;
  leads = nowhere draft;
  says = ap (λ (all : List ℤ). record { users = users_so_far draft; order = draft.order; files = files_of draft; clock = all }) (sym (append-nil draft.clock));
  section = is_open;
}
clocks_reach draft (numbers ∷ clocks) is_open forms few =
    let read = λ (digits : List ℕ). pos (number_of_digits digits) in
    let longer = length-append numbers (joined clocks) in
    let sound : IsSound draft (clock numbers) = record { form = All-head IsBundleLine (clock numbers) (map (λ ns. clock ns) clocks) forms; place = ap not is_open; parties = refl; limits = le-leb _ _ (omega (arith, longer)) } in
    let rest = clocks_reach (with_line draft (clock numbers)) clocks refl (All-tail IsBundleLine (clock numbers) (map (λ ns. clock ns) clocks) forms) (omega (arith, longer, length-append draft.clock (map read numbers), length-map numbers read)) in
    let whole : (draft.clock ++ map read numbers) ++ map read (joined clocks) ≡ draft.clock ++ map read (numbers ++ joined clocks) =
    append_assoc draft.clock (map read numbers) (map read (joined clocks)) ∙ ap (λ (some : List ℤ). draft.clock ++ some) (sym (map-append read numbers (joined clocks))) in
    reach_to _ _ IsOpen _ _ (record { next = rest.next; leads = leads_first draft rest.next (clock numbers) (map (λ ns. clock ns) clocks) sound rest.leads; says = rest.says; section = rest.section })
    (ap (λ (all : List ℤ). record { users = users_so_far draft; order = draft.order; files = files_of draft; clock = all }) whole)

-- the page

all_front : {A : Type 0} (P : A → Type 0) (xs ys : List A) → All P (xs ++ ys) → All P xs
all_front P [] ys all = All-nil P
all_front P (x ∷ xs) ys all = All-cons P x xs (All-head P x (xs ++ ys) all) (all_front P xs ys (All-tail P x (xs ++ ys) all))

all_behind : {A : Type 0} (P : A → Type 0) (xs ys : List A) → All P (xs ++ ys) → All P ys
all_behind P [] ys all = all
all_behind P (x ∷ xs) ys all = all_behind P xs ys (All-tail P x (xs ++ ys) all)

named_sheets : (sheets : List Sheet) → All IsFile (map file_of sheets) → All IsNamed sheets
named_sheets [] each = All-nil IsNamed
named_sheets (sheet ∷ sheets) each =
    All-cons IsNamed sheet sheets (All-head IsFile (file_of sheet) (map file_of sheets) each).name (named_sheets sheets (All-tail IsFile (file_of sheet) (map file_of sheets) each))

abbrev pub IsOver : PlainSection → Type 0
IsOver section = is_at_end section ≡ true

end_reach : (draft : PlainDraft) → is_at_end draft.section ≡ false → Reach draft (end ∷ []) IsOver (bundle_of draft)
end_reach draft is_open =
    let sound : IsSound draft end = record { form = tt; place = ap not is_open; parties = refl; limits = refl } in
    record { next = with_line draft end; leads = leads_first draft (with_line draft end) end [] sound (nowhere (with_line draft end)); says = refl; section = refl }

-- the lines of a page that says a bundle are sound and end, and say it
pub page_reach : (page : Page) → IsBundle (bundle_said_by page) → All IsBundleLine (lines_of page) → All IsShort page.files → Reach nothing_read (lines_of page) IsOver (bundle_said_by page)
page_reach page rules forms short =
    let front = flat_map user_section page.users in
    let middle = map (λ (ns : List (List ℕ)). order ns) page.orders in
    let papers = flat_map file_section page.files in
    let read = map (λ (ns : List (List ℕ)). clock ns) page.clocks in
    let same : lines_of page ≡ front ++ (middle ++ (papers ++ (read ++ end ∷ []))) =
    append_assoc ((front ++ middle) ++ papers) read (end ∷ []) ∙ (append_assoc (front ++ middle) papers (read ++ end ∷ []) ∙ append_assoc front middle (papers ++ (read ++ end ∷ []))) in
    let turned = all_behind IsBundleLine front (middle ++ (papers ++ (read ++ end ∷ []))) (subst (All IsBundleLine) same forms) in
    let filed = all_behind IsBundleLine middle (papers ++ (read ++ end ∷ [])) turned in
    let timed = all_behind IsBundleLine papers (read ++ end ∷ []) filed in
    let a = all_users_reach page.users rules.ascending rules.few rules.each in
    let users : users_so_far a.next ≡ page.users = ap (λ (b : PlainBundle). b.users) a.says in
    let parties : list_all (λ digits. is_party (users_so_far a.next) (number_of_digits digits)) (joined page.orders) ≡ true =
    subst (λ (us : List PlainUser). list_all (λ digits. is_party us (number_of_digits digits)) (joined page.orders) ≡ true) (sym users) (sym (list_all-map (is_party page.users) number_of_digits (joined page.orders)) ∙ rules.parties) in
    let b = turns_reach a.next page.orders a.section (all_front IsBundleLine middle (papers ++ (read ++ end ∷ [])) turned) parties (omega (arith, rules.few_turns, length-map (joined page.orders) number_of_digits, ap (λ (b : PlainBundle). length b.order) a.says)) in
    let none : files_of b.next ≡ [] = ap (λ (some : PlainBundle). some.files) (b.says) ∙ ap (λ (some : PlainBundle). some.files) a.says in
    let c = all_files_reach b.next page.files b.section none rules.names_ascend (omega (arith, rules.few_files, length-map page.files file_of)) (named_sheets page.files rules.each_file) short in
    let d = clocks_reach c.next page.clocks c.section (all_front IsBundleLine read (end ∷ []) timed) (omega (arith, rules.few_readings, length-map (joined page.clocks) (λ digits. pos (number_of_digits digits)), ap (λ (some : PlainBundle). length some.clock) c.says, ap (λ (some : PlainBundle). length some.clock) b.says, ap (λ (some : PlainBundle). length some.clock) a.says)) in
    let last = end_reach d.next d.section in
    let turned_page : bundle_of b.next ≡ record { users = page.users; order = map number_of_digits (joined page.orders); files = []; clock = [] } =
    b.says ∙ ap (λ (some : PlainBundle). record { users = some.users; order = some.order ++ map number_of_digits (joined page.orders); files = some.files; clock = some.clock }) a.says in
    let filed_page : bundle_of c.next ≡ record { users = page.users; order = map number_of_digits (joined page.orders); files = map file_of page.files; clock = [] } =
    c.says ∙ ap (λ (some : PlainBundle). record { users = some.users; order = some.order; files = map file_of page.files; clock = some.clock }) turned_page in
    let says : bundle_of d.next ≡ bundle_said_by page =
    d.says ∙ ap (λ (some : PlainBundle). record { users = some.users; order = some.order; files = some.files; clock = some.clock ++ map (λ digits. pos (number_of_digits digits)) (joined page.clocks) }) filed_page in
    subst (λ (lines : List PlainLine). Reach nothing_read lines IsOver (bundle_said_by page)) (sym same)
    (reach_on nothing_read a.next front (middle ++ (papers ++ (read ++ end ∷ []))) IsOver (bundle_said_by page) a.leads
    (reach_on a.next b.next middle (papers ++ (read ++ end ∷ [])) IsOver (bundle_said_by page) b.leads
    (reach_on b.next c.next papers (read ++ end ∷ []) IsOver (bundle_said_by page) c.leads
    (reach_on c.next d.next read (end ∷ []) IsOver (bundle_said_by page) d.leads (reach_to d.next (end ∷ []) IsOver (bundle_of d.next) (bundle_said_by page) last says)))))
