-- Sound lines that end are the text of the bundle that they say.
use Rattle.std.proofs.Common.{◌≡◌, ◌⊎◌, ℕ, ℤ, Bool, true, false, List, [], ◌∷◌, ◌++◌, length, map, refl, sym, ap, ◌∙◌, subst, ⊎_elim, inl, inr}
use Rattle.std.specs.List.{All, flat_map}
use Rattle.std.proofs.lemmas.Bool.{leb-true, false≢true}
use Rattle.std.specs.Prelude.{not}
use Rattle.std.proofs.lemmas.List.{map-append}
use Rattle.std.proofs.lemmas.List.Elements.{All-nil, All-push}
use Rattle.apl_arrays.specs.FileList.{PlainFile}
use Rattle.apl_arrays.specs.Limits.{most_line_glyphs}
use Rattle.line_text.specs.Lines.{line_text, lines_text}
use Rattle.bundle_text.specs.Breaks.{IsSound, AreSound, text_before}
use Rattle.bundle_text.specs.Rules.{IsContent}
use Rattle.bundle_text.specs.BundleLine.{PlainLine, input, user, order, file, clock, end, IsBundleLine, line_glyphs}
use Rattle.bundle_text.specs.Draft.{PlainDraft, PlainSection, start, of_user, turns, of_file, readings, ended, users_with, files_with, users_so_far, takes_content, takes_user, turns_may_stand, takes_file, is_at_end, longer, with_line, said, bundle_of}
use Rattle.bundle_text.specs.Bundle.{Page, Sheet, user_section, file_section, lines_of, file_of, bytes_of_lines, BundleText}
use Rattle.bundle_text.specs.User.{PlainUser}
use Rattle.bundle_text.proofs.Kept.{all_changed, text_push, said_is_bundle}
use Rattle.bundle_text.proofs.Bodies.{body, numbers_in, readings_in, numbers_push, readings_push, users_push, sheets_push, user_longer, sheet_longer, body_user, body_turns, body_file, body_clock}

-- what a section says of a page

abbrev NoTurnsYet : PlainSection → List (List (List ℕ)) → Type 0
NoTurnsYet start orders = orders ≡ []
NoTurnsYet (of_user one) orders = orders ≡ []
NoTurnsYet _ orders = Unit {0}

abbrev NoSheetsYet : PlainSection → List Sheet → Type 0
NoSheetsYet start sheets = sheets ≡ []
NoSheetsYet (of_user one) sheets = sheets ≡ []
NoSheetsYet turns sheets = sheets ≡ []
NoSheetsYet _ sheets = Unit {0}

abbrev NoClocksYet : PlainSection → List (List (List ℕ)) → Type 0
NoClocksYet readings clocks = Unit {0}
NoClocksYet ended clocks = Unit {0}
NoClocksYet _ clocks = clocks ≡ []

record EndsWith (files : List PlainFile) (one : PlainFile) (sheets : List Sheet) : Type 0 where
  olds : List Sheet
  last : Sheet
  are : sheets ≡ olds ++ last ∷ []
  before : map file_of olds ≡ files
  same : file_of last ≡ one

abbrev SheetsSay : PlainSection → List PlainFile → List Sheet → Type 0
SheetsSay (of_file one) files sheets = EndsWith files one sheets
SheetsSay _ files sheets = map file_of sheets ≡ files

sheets_say : (section : PlainSection) (files : List PlainFile) (sheets : List Sheet) → SheetsSay section files sheets → map file_of sheets ≡ files_with files section
sheets_say start files sheets say = say
sheets_say (of_user one) files sheets say = say
sheets_say turns files sheets say = say
sheets_say (of_file one) files sheets say =
    ap (map file_of) say.are ∙ map-append file_of say.olds (say.last ∷ []) ∙ rw (say.before, say.same) refl
sheets_say readings files sheets say = say
sheets_say ended files sheets say = say

record IsWritten (users : List PlainUser) (files : List PlainFile) (section : PlainSection) (turned : List ℕ) (read : List ℤ) (before : List PlainLine) : Type 0 where
  orders : List (List (List ℕ))
  sheets : List Sheet
  clocks : List (List (List ℕ))
  text : text_before before ≡ bytes_of_lines (body (users_with users section) orders sheets clocks)
  forms : All IsBundleLine (body (users_with users section) orders sheets clocks)
  says_order : numbers_in orders ≡ turned
  says_files : SheetsSay section files sheets
  says_clock : readings_in clocks ≡ read
  short : All (λ (sheet : Sheet). All IsContent sheet.lines) sheets
  no_turns : NoTurnsYet section orders
  no_sheets : NoSheetsYet section sheets
  no_clocks : NoClocksYet section clocks

lines_push : (lines : List PlainLine) (line : PlainLine) → bytes_of_lines (lines ++ line ∷ []) ≡ bytes_of_lines lines ++ line_text (line_glyphs line)
lines_push lines line =
    ap lines_text (map-append line_glyphs lines (line ∷ [])) ∙ text_push (map line_glyphs lines) (line_glyphs line)

text_grown : (before old new : List PlainLine) (line : PlainLine) → text_before before ≡ bytes_of_lines old → new ≡ old ++ line ∷ [] → text_before (line ∷ before) ≡ bytes_of_lines new
text_grown before old new line text e =
    ap (λ (front : List ℕ). front ++ line_text (line_glyphs line)) text ∙ sym (lines_push old line) ∙ ap bytes_of_lines (sym e)

forms_grown : (old new : List PlainLine) (line : PlainLine) → All IsBundleLine old → IsBundleLine line → new ≡ old ++ line ∷ [] → All IsBundleLine new
forms_grown old new line forms form e = subst (All IsBundleLine) (sym e) (All-push IsBundleLine old line forms form)

-- what is missing yet

bare : (section : PlainSection) (number : ℕ) (orders : List (List (List ℕ))) (sheets : List Sheet) (clocks : List (List (List ℕ))) → takes_user section number ≡ true → NoTurnsYet section orders → NoSheetsYet section sheets → NoClocksYet section clocks
    → (orders ≡ []) × (sheets ≡ []) × (clocks ≡ [])
bare start number orders sheets clocks takes a b c = (a, b, c)
bare (of_user one) number orders sheets clocks takes a b c = (a, b, c)
bare turns number orders sheets clocks takes a b c = absurd (false≢true takes)
bare (of_file one) number orders sheets clocks takes a b c = absurd (false≢true takes)
bare readings number orders sheets clocks takes a b c = absurd (false≢true takes)
bare ended number orders sheets clocks takes a b c = absurd (false≢true takes)

no_papers : (section : PlainSection) (sheets : List Sheet) (clocks : List (List (List ℕ))) → turns_may_stand section ≡ true → NoSheetsYet section sheets → NoClocksYet section clocks → (sheets ≡ []) × (clocks ≡ [])
no_papers start sheets clocks takes b c = (b, c)
no_papers (of_user one) sheets clocks takes b c = (b, c)
no_papers turns sheets clocks takes b c = (b, c)
no_papers (of_file one) sheets clocks takes b c = absurd (false≢true takes)
no_papers readings sheets clocks takes b c = absurd (false≢true takes)
no_papers ended sheets clocks takes b c = absurd (false≢true takes)

no_clock : (section : PlainSection) (name : List ℕ) (clocks : List (List (List ℕ))) → takes_file section name ≡ true → NoClocksYet section clocks → clocks ≡ []
no_clock start name clocks takes c = c
no_clock (of_user one) name clocks takes c = c
no_clock turns name clocks takes c = c
no_clock (of_file one) name clocks takes c = c
no_clock readings name clocks takes c = absurd (false≢true takes)
no_clock ended name clocks takes c = absurd (false≢true takes)

-- one line more

abbrev WrittenBy : PlainDraft → List PlainLine → Type 0
WrittenBy draft before = IsWritten draft.users draft.files draft.section draft.order draft.clock before

user_written : (draft : PlainDraft) (before : List PlainLine) (number : ℕ) → WrittenBy draft before → IsSound draft (user number) → WrittenBy (with_line draft (user number)) (user number ∷ before)
user_written draft before number w sound =
    let next : PlainUser = record { number = number; lines = [] } in
    let none = bare draft.section number w.orders w.sheets w.clocks sound.place w.no_turns w.no_sheets w.no_clocks in
    let old : body (users_so_far draft) w.orders w.sheets w.clocks ≡ body (users_so_far draft) [] [] [] = rw (none.0, none.1, none.2) refl in
    let more = body_user (users_so_far draft) (users_so_far draft ++ next ∷ []) (user number) (users_push (users_so_far draft) next) in
    record {
      orders = [];
      sheets = [];
      clocks = [];
      text = text_grown before (body (users_so_far draft) [] [] []) (body (users_so_far draft ++ next ∷ []) [] [] []) (user number) (w.text ∙ ap bytes_of_lines old) more;
      forms = forms_grown (body (users_so_far draft) [] [] []) (body (users_so_far draft ++ next ∷ []) [] [] []) (user number) (subst (All IsBundleLine) old w.forms) sound.form more;
      says_order = ap numbers_in (sym none.0) ∙ w.says_order;
      says_files = ap (map file_of) (sym none.1) ∙ sheets_say draft.section draft.files w.sheets w.says_files;
      says_clock = ap readings_in (sym none.2) ∙ w.says_clock;
      short = All-nil (λ (sheet : Sheet). All IsContent sheet.lines);
      no_turns = refl;
      no_sheets = refl;
      no_clocks = refl;
    }

turns_written : (draft : PlainDraft) (before : List PlainLine) (numbers : List (List ℕ)) → WrittenBy draft before → IsSound draft (order numbers) → WrittenBy (with_line draft (order numbers)) (order numbers ∷ before)
turns_written draft before numbers w sound =
    let none = no_papers draft.section w.sheets w.clocks sound.place w.no_sheets w.no_clocks in
    let old : body (users_so_far draft) w.orders w.sheets w.clocks ≡ body (users_so_far draft) w.orders [] [] = rw (none.0, none.1) refl in
    let more = body_turns (users_so_far draft) w.orders numbers in
    record {
      orders = w.orders ++ numbers ∷ [];
      sheets = [];
      clocks = [];
      text = text_grown before (body (users_so_far draft) w.orders [] []) (body (users_so_far draft) (w.orders ++ numbers ∷ []) [] []) (order numbers) (w.text ∙ ap bytes_of_lines old) more;
      forms = forms_grown (body (users_so_far draft) w.orders [] []) (body (users_so_far draft) (w.orders ++ numbers ∷ []) [] []) (order numbers) (subst (All IsBundleLine) old w.forms) sound.form more;
      says_order = numbers_push w.orders numbers draft.order w.says_order;
      says_files = ap (map file_of) (sym none.0) ∙ sheets_say draft.section draft.files w.sheets w.says_files;
      says_clock = ap readings_in (sym none.1) ∙ w.says_clock;
      short = All-nil (λ (sheet : Sheet). All IsContent sheet.lines);
      no_turns = tt;
      no_sheets = refl;
      no_clocks = refl;
    }

file_written : (draft : PlainDraft) (before : List PlainLine) (name : List ℕ) → WrittenBy draft before → IsSound draft (file name) → WrittenBy (with_line draft (file name)) (file name ∷ before)
file_written draft before name w sound =
    let next : Sheet = record { name = name; lines = [] } in
    let none = no_clock draft.section name w.clocks sound.place w.no_clocks in
    let old : body (users_so_far draft) w.orders w.sheets w.clocks ≡ body (users_so_far draft) w.orders w.sheets [] = rw none refl in
    let more = body_file (users_so_far draft) w.orders w.sheets (w.sheets ++ next ∷ []) (file name) (sheets_push w.sheets next) in
    record {
      orders = w.orders;
      sheets = w.sheets ++ next ∷ [];
      clocks = [];
      text = text_grown before (body (users_so_far draft) w.orders w.sheets []) (body (users_so_far draft) w.orders (w.sheets ++ next ∷ []) []) (file name) (w.text ∙ ap bytes_of_lines old) more;
      forms = forms_grown (body (users_so_far draft) w.orders w.sheets []) (body (users_so_far draft) w.orders (w.sheets ++ next ∷ []) []) (file name) (subst (All IsBundleLine) old w.forms) sound.form more;
      says_order = w.says_order;
      says_files = record { olds = w.sheets; last = next; are = refl; before = sheets_say draft.section draft.files w.sheets w.says_files; same = refl };
      says_clock = ap readings_in (sym none) ∙ w.says_clock;
      short = All-push (λ (sheet : Sheet). All IsContent sheet.lines) w.sheets next w.short (All-nil IsContent);
      no_turns = tt;
      no_sheets = tt;
      no_clocks = refl;
    }

clock_written : (draft : PlainDraft) (before : List PlainLine) (numbers : List (List ℕ)) → WrittenBy draft before → IsSound draft (clock numbers) → WrittenBy (with_line draft (clock numbers)) (clock numbers ∷ before)
clock_written draft before numbers w sound =
    let more = body_clock (users_so_far draft) w.orders w.sheets w.clocks numbers in
    record {
      orders = w.orders;
      sheets = w.sheets;
      clocks = w.clocks ++ numbers ∷ [];
      text = text_grown before (body (users_so_far draft) w.orders w.sheets w.clocks) (body (users_so_far draft) w.orders w.sheets (w.clocks ++ numbers ∷ [])) (clock numbers) w.text more;
      forms = forms_grown (body (users_so_far draft) w.orders w.sheets w.clocks) (body (users_so_far draft) w.orders w.sheets (w.clocks ++ numbers ∷ [])) (clock numbers) w.forms sound.form more;
      says_order = w.says_order;
      says_files = sheets_say draft.section draft.files w.sheets w.says_files;
      says_clock = readings_push w.clocks numbers draft.clock w.says_clock;
      short = w.short;
      no_turns = tt;
      no_sheets = tt;
      no_clocks = tt;
    }

input_of_user : (users : List PlainUser) (files : List PlainFile) (one : PlainUser) (turned : List ℕ) (read : List ℤ) (before : List PlainLine) (line : List ℕ) → IsWritten users files (of_user one) turned read before → IsBundleLine (input line)
    → IsWritten users files (of_user (record { number = one.number; lines = one.lines ++ line ∷ [] })) turned read (input line ∷ before)
input_of_user users files one turned read before line w form =
    let next : PlainUser = record { number = one.number; lines = one.lines ++ line ∷ [] } in
    let old : body (users ++ one ∷ []) w.orders w.sheets w.clocks ≡ body (users ++ one ∷ []) [] [] [] = rw (w.no_turns, w.no_sheets, w.no_clocks) refl in
    let more = body_user (users ++ one ∷ []) (users ++ next ∷ []) (input line) (user_longer users one line) in
    record {
      orders = [];
      sheets = [];
      clocks = [];
      text = text_grown before (body (users ++ one ∷ []) [] [] []) (body (users ++ next ∷ []) [] [] []) (input line) (w.text ∙ ap bytes_of_lines old) more;
      forms = forms_grown (body (users ++ one ∷ []) [] [] []) (body (users ++ next ∷ []) [] [] []) (input line) (subst (All IsBundleLine) old w.forms) form more;
      says_order = ap numbers_in (sym w.no_turns) ∙ w.says_order;
      says_files = ap (map file_of) (sym w.no_sheets) ∙ w.says_files;
      says_clock = ap readings_in (sym w.no_clocks) ∙ w.says_clock;
      short = All-nil (λ (sheet : Sheet). All IsContent sheet.lines);
      no_turns = refl;
      no_sheets = refl;
      no_clocks = refl;
    }

input_of_file : (users : List PlainUser) (files : List PlainFile) (one : PlainFile) (turned : List ℕ) (read : List ℤ) (before : List PlainLine) (line : List ℕ) → IsWritten users files (of_file one) turned read before → IsContent line
    → IsWritten users files (of_file (record { name = one.name; bytes = one.bytes ++ line_text line })) turned read (input line ∷ before)
input_of_file users files one turned read before line w content =
    let last = w.says_files.last in
    let olds = w.says_files.olds in
    let next : Sheet = record { name = last.name; lines = last.lines ++ line ∷ [] } in
    let old : body users w.orders w.sheets w.clocks ≡ body users w.orders (olds ++ last ∷ []) [] = rw (w.says_files.are, w.no_clocks) refl in
    let more = body_file users w.orders (olds ++ last ∷ []) (olds ++ next ∷ []) (input line) (sheet_longer olds last line) in
    let short : All (λ (sheet : Sheet). All IsContent sheet.lines) (olds ++ last ∷ []) = subst (All (λ (sheet : Sheet). All IsContent sheet.lines)) w.says_files.are w.short in
    record {
      orders = w.orders;
      sheets = olds ++ next ∷ [];
      clocks = [];
      text = text_grown before (body users w.orders (olds ++ last ∷ []) []) (body users w.orders (olds ++ next ∷ []) []) (input line) (w.text ∙ ap bytes_of_lines old) more;
      forms = forms_grown (body users w.orders (olds ++ last ∷ []) []) (body users w.orders (olds ++ next ∷ []) []) (input line) (subst (All IsBundleLine) old w.forms) content.glyphs more;
      says_order = w.says_order;
      says_files = record {
        olds = olds;
        last = next;
        are = refl;
        before = w.says_files.before;
        same = ap (λ (bytes : List ℕ). record { name = last.name; bytes = bytes }) (text_push last.lines line) ∙ ap (λ (some : PlainFile). record { name = some.name; bytes = some.bytes ++ line_text line }) w.says_files.same;
      };
      says_clock = ap readings_in (sym w.no_clocks) ∙ w.says_clock;
      short = all_changed (λ (sheet : Sheet). All IsContent sheet.lines) olds last next short (λ each. All-push IsContent last.lines line each content);
      no_turns = tt;
      no_sheets = tt;
      no_clocks = refl;
    }

input_written : (users : List PlainUser) (turned : List ℕ) (files : List PlainFile) (read : List ℤ) (section : PlainSection) (before : List PlainLine) (line : List ℕ) → IsWritten users files section turned read before
    → IsSound (record { users = users; order = turned; files = files; clock = read; section = section }) (input line)
    → WrittenBy (with_line (record { users = users; order = turned; files = files; clock = read; section = section }) (input line)) (input line ∷ before)
input_written users turned files read start before line w sound = absurd (false≢true sound.place)
input_written users turned files read (of_user one) before line w sound = input_of_user users files one turned read before line w sound.form
input_written users turned files read turns before line w sound = absurd (false≢true sound.place)
input_written users turned files read (of_file one) before line w sound =
    input_of_file users files one turned read before line w (record { glyphs = sound.form; short = leb-true (length line) most_line_glyphs sound.limits })
input_written users turned files read readings before line w sound = absurd (false≢true sound.place)
input_written users turned files read ended before line w sound = absurd (false≢true sound.place)

-- lines before the end

open_before : (section : PlainSection) → takes_content section ≡ true → is_at_end section ≡ false
open_before start takes = refl
open_before (of_user one) takes = refl
open_before turns takes = refl
open_before (of_file one) takes = refl
open_before readings takes = refl
open_before ended takes = absurd (false≢true takes)

user_open : (section : PlainSection) (number : ℕ) → takes_user section number ≡ true → is_at_end section ≡ false
user_open start number takes = refl
user_open (of_user one) number takes = refl
user_open turns number takes = refl
user_open (of_file one) number takes = refl
user_open readings number takes = refl
user_open ended number takes = absurd (false≢true takes)

turns_open : (section : PlainSection) → turns_may_stand section ≡ true → is_at_end section ≡ false
turns_open start takes = refl
turns_open (of_user one) takes = refl
turns_open turns takes = refl
turns_open (of_file one) takes = refl
turns_open readings takes = refl
turns_open ended takes = absurd (false≢true takes)

file_open : (section : PlainSection) (name : List ℕ) → takes_file section name ≡ true → is_at_end section ≡ false
file_open start name takes = refl
file_open (of_user one) name takes = refl
file_open turns name takes = refl
file_open (of_file one) name takes = refl
file_open readings name takes = refl
file_open ended name takes = absurd (false≢true takes)

pub longer_open : (section : PlainSection) (line : List ℕ) → takes_content section ≡ true → is_at_end (longer section line) ≡ false
longer_open start line takes = refl
longer_open (of_user one) line takes = refl
longer_open turns line takes = refl
longer_open (of_file one) line takes = refl
longer_open readings line takes = refl
longer_open ended line takes = absurd (false≢true takes)

not_open : (b : Bool) → not b ≡ true → b ≡ false
not_open true e = absurd (false≢true e)
not_open false e = refl

written : (before : List PlainLine) → AreSound before → is_at_end (said before).section ≡ false → WrittenBy (said before) before
written [] sound open_ = record {
  orders = [];
  sheets = [];
  clocks = [];
  text = refl;
  forms = All-nil IsBundleLine;
  says_order = refl;
  says_files = refl;
  says_clock = refl;
  short = All-nil (λ (sheet : Sheet). All IsContent sheet.lines);
  no_turns = refl;
  no_sheets = refl;
  no_clocks = refl;
}
written (input line ∷ before) sound open_ =
    let draft = said before in
    input_written draft.users draft.order draft.files draft.clock draft.section before line (written before sound.1 (open_before draft.section sound.0.place)) sound.0
written (user number ∷ before) sound open_ = user_written (said before) before number (written before sound.1 (user_open (said before).section number sound.0.place)) sound.0
written (order numbers ∷ before) sound open_ = turns_written (said before) before numbers (written before sound.1 (turns_open (said before).section sound.0.place)) sound.0
written (file name ∷ before) sound open_ = file_written (said before) before name (written before sound.1 (file_open (said before).section name sound.0.place)) sound.0
written (clock numbers ∷ before) sound open_ = clock_written (said before) before numbers (written before sound.1 (not_open (is_at_end (said before).section) sound.0.place)) sound.0
written (end ∷ before) sound open_ = absurd (false≢true (sym open_))

-- the page of lines that end

page_of : (draft : PlainDraft) (before : List PlainLine) → WrittenBy draft before → Page
page_of draft before w = record { users = users_so_far draft; orders = w.orders; files = w.sheets; clocks = w.clocks }

ends_body : (draft : PlainDraft) (before : List PlainLine) (w : WrittenBy draft before) → lines_of (page_of draft before w) ≡ body (users_so_far draft) w.orders w.sheets w.clocks ++ end ∷ []
unfolding page_of
ends_body draft before w = refl

ended_text : (before : List PlainLine) (sound : AreSound (end ∷ before)) (bytes : List ℕ) → (bytes ≡ text_before (end ∷ before)) ⊎ (bytes ++ 10 ∷ [] ≡ text_before (end ∷ before)) → BundleText bytes (bundle_of (said (end ∷ before)))
unfolding page_of
ended_text before sound bytes text =
    let draft = said before in
    let w = written before sound.1 (not_open (is_at_end draft.section) sound.0.place) in
    let old = body (users_so_far draft) w.orders w.sheets w.clocks in
    let whole : text_before (end ∷ before) ≡ bytes_of_lines (lines_of (page_of draft before w)) = text_grown before old (lines_of (page_of draft before w)) end w.text (ends_body draft before w) in
    record {
      rules = said_is_bundle (end ∷ before) sound;
      page = page_of draft before w;
      says = rw (w.says_order, w.says_clock, sheets_say draft.section draft.files w.sheets w.says_files) refl;
      forms = forms_grown old (lines_of (page_of draft before w)) end w.forms tt (ends_body draft before w);
      short = w.short;
      text = ⊎_elim (λ e. inl (e ∙ whole)) (λ e. inr (e ∙ whole)) text;
    }

-- lines that end are the text of what they say
pub text_of_said : (before : List PlainLine) → AreSound before → is_at_end (said before).section ≡ true → (bytes : List ℕ) → (bytes ≡ text_before before) ⊎ (bytes ++ 10 ∷ [] ≡ text_before before) → BundleText bytes (bundle_of (said before))
text_of_said [] sound over bytes text = absurd (false≢true over)
text_of_said (input line ∷ before) sound over bytes text = absurd (false≢true (sym (longer_open (said before).section line sound.0.place) ∙ over))
text_of_said (user number ∷ before) sound over bytes text = absurd (false≢true over)
text_of_said (order numbers ∷ before) sound over bytes text = absurd (false≢true over)
text_of_said (file name ∷ before) sound over bytes text = absurd (false≢true over)
text_of_said (clock numbers ∷ before) sound over bytes text = absurd (false≢true over)
text_of_said (end ∷ before) sound over bytes text = ended_text before sound bytes text
