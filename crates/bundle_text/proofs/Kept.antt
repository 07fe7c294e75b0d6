-- What sound lines say keeps the rules of bundles.
use Rattle.std.proofs.Common.{◌≡◌, ℕ, ℤ, pos, ◌+◌, ◌<◌, ◌≤◌, Bool, true, false, ◌&&◌, ◌||◌, eqb, List, [], ◌∷◌, ◌++◌, length, map, refl, sym, ap, ◌∙◌, subst, arith, length-append, append-nil}
use Rattle.std.specs.Prelude.{◌==◌, nat_lt, nat_le, IsTrue}
use Rattle.std.specs.List.{All, list_all, list_any, flat_map}
use Rattle.std.specs.Ordering.{is_lt}
use Rattle.std.proofs.lemmas.Bool.{ltb-true, leb-true, false≢true}
use Rattle.std.proofs.lemmas.List.{length-map, map-append}
use Rattle.std.proofs.lemmas.List.Concat.{flat_map-append}
use Rattle.std.proofs.lemmas.List.Elements.{All-nil, All-push, All-pop, All-append, All-map, All-head, All-tail}
use Rattle.std.proofs.lemmas.List.Folds.{list_all-append, list_all-map, list_any-append}
use Rattle.apl_arrays.specs.Ascending.{AscendBy}
use Rattle.apl_arrays.specs.File.{IsFileName}
use Rattle.apl_arrays.specs.FileList.{PlainFile, IsAscending}
use Rattle.apl_arrays.specs.Glyph.{IsGlyph}
use Rattle.apl_arrays.specs.Limits.{most_line_glyphs, most_user_lines, most_users}
use Rattle.apl_arrays.specs.Name.{name_order}
use Rattle.line_text.specs.Lines.{line_text, lines_text}
use Rattle.line_text.proofs.Spans.{both}
use Rattle.bundle_text.specs.Breaks.{IsSound, AreSound}
use Rattle.aux_parties.specs.Auxiliaries.{is_auxiliary}
use Rattle.bundle_text.specs.Rules.{PlainBundle, IsBundle, IsContent, IsUser, IsUserNumber, IsFile, IsClockReading, is_party}
use Rattle.bundle_text.specs.BundleLine.{PlainLine, input, user, order, file, clock, end, IsReadingText}
use Rattle.bundle_text.specs.Draft.{PlainDraft, PlainSection, start, of_user, turns, of_file, readings, ended, users_with, files_with, users_so_far, files_of, takes_content, takes_user, turns_may_stand, takes_file, has_room, with_line, said, bundle_of, nothing_read}
use Rattle.bundle_text.specs.Limits.{most_turns, most_files, most_readings}
use Rattle.text_reader.specs.Numeral.{number_of_digits}
use Rattle.bundle_text.specs.User.{PlainUser}

-- the rules, one kind of section after the other

pub record AreUsers (users : List PlainUser) : Type 0 where
  pub few : length users ≤ most_users
  pub ascending : AscendBy (λ user. user.number) users
  pub each : All IsUser users

pub record AreTurns (users : List PlainUser) (order : List ℕ) : Type 0 where
  pub few : length order ≤ most_turns
  pub parties : list_all (is_party users) order ≡ true

pub record AreFiles (files : List PlainFile) : Type 0 where
  pub few : length files ≤ most_files
  pub ascending : IsAscending files
  pub each : All IsFile files

pub record AreReadings (clock : List ℤ) : Type 0 where
  pub few : length clock ≤ most_readings
  pub each : All IsClockReading clock

-- no user stands before the first heading, and no file before that of a file
abbrev pub NoUsersYet : PlainSection → List PlainUser → Type 0
NoUsersYet start users = users ≡ []
NoUsersYet _ users = Unit {0}

abbrev pub NoFilesYet : PlainSection → List PlainFile → Type 0
NoFilesYet start files = files ≡ []
NoFilesYet (of_user one) files = files ≡ []
NoFilesYet turns files = files ≡ []
NoFilesYet _ files = Unit {0}

pub record IsKept (users : List PlainUser) (order : List ℕ) (files : List PlainFile) (clock : List ℤ) (section : PlainSection) : Type 0 where
  pub all_users : AreUsers (users_with users section)
  pub all_turns : AreTurns (users_with users section) order
  pub all_files : AreFiles (files_with files section)
  pub all_readings : AreReadings clock
  pub no_users : NoUsersYet section users
  pub no_files : NoFilesYet section files

-- parties

all_pass : (p q : ℕ → Bool) → ((n : ℕ) → p n ≡ true → q n ≡ true) → (xs : List ℕ) → list_all p xs ≡ true → list_all q xs ≡ true
all_pass p q f [] e = refl
all_pass p q f (x ∷ xs) e =
    let parts = both (p x) (list_all p xs) e in rw (f x parts.0, all_pass p q f xs parts.1) refl

or_more : (a c d : Bool) → (c ≡ true → d ≡ true) → (a || c) ≡ true → (a || d) ≡ true
or_more true c d f e = refl
or_more false c d f e = f e

or_left : (a b : Bool) → a ≡ true → (a || b) ≡ true
or_left a b e = rw e refl

party_more : (users : List PlainUser) (one : PlainUser) (n : ℕ) → is_party users n ≡ true → is_party (users ++ one ∷ []) n ≡ true
party_more users one n e =
    let test = λ (some : PlainUser). some.number == n in
    or_more (is_auxiliary n) (list_any test users) (list_any test (users ++ one ∷ [])) (λ found. list_any-append test users (one ∷ []) ∙ or_left (list_any test users) (list_any test (one ∷ [])) found) e

party_same : (users : List PlainUser) (one : PlainUser) (lines : List (List ℕ)) (n : ℕ) → is_party (users ++ one ∷ []) n ≡ true → is_party (users ++ record { number = one.number; lines = lines } ∷ []) n ≡ true
party_same users one lines n e =
    let test = λ (some : PlainUser). some.number == n in
    let next : PlainUser = record { number = one.number; lines = lines } in
    or_more (is_auxiliary n) (list_any test (users ++ one ∷ [])) (list_any test (users ++ next ∷ [])) (λ found. list_any-append test users (next ∷ []) ∙ (sym (list_any-append test users (one ∷ [])) ∙ found)) e

-- users

ascending_push : (users : List PlainUser) (last next : PlainUser) → AscendBy (λ user. user.number) (users ++ last ∷ []) → last.number < next.number → AscendBy (λ user. user.number) ((users ++ last ∷ []) ++ next ∷ [])
ascending_push [] last next a below = (below, tt)
ascending_push (one ∷ []) last next a below = (a.0, (below, tt))
ascending_push (one ∷ other ∷ users) last next a below = (a.0, ascending_push (other ∷ users) last next a.1 below)

ascending_changed : (users : List PlainUser) (last next : PlainUser) → AscendBy (λ user. user.number) (users ++ last ∷ []) → last.number ≡ next.number → AscendBy (λ user. user.number) (users ++ next ∷ [])
ascending_changed [] last next a same = tt
ascending_changed (one ∷ []) last next a same = (omega (arith, a.0), tt)
ascending_changed (one ∷ other ∷ users) last next a same = (a.0, ascending_changed (other ∷ users) last next a.1 same)

pub all_changed : {A : Type 0} (P : A → Type 0) (xs : List A) (last next : A) → All P (xs ++ last ∷ []) → (P last → P next) → All P (xs ++ next ∷ [])
all_changed P [] last next all kept =
    All-push P [] next (All-nil P) (kept (All-head P last [] all))
all_changed P (x ∷ xs) last next all kept =
    All-append P (x ∷ []) (xs ++ next ∷ []) (All-push P [] x (All-nil P) (All-head P x (xs ++ last ∷ []) all)) (all_changed P xs last next (All-tail P x (xs ++ last ∷ []) all) kept)

new_user : (number : ℕ) → IsUserNumber number → IsUser (record { number = number; lines = [] })
new_user number range = record { number = range; few = omega arith; each = All-nil IsContent }

content_of : (line : List ℕ) → All IsGlyph line → length line ≤ most_line_glyphs → IsContent line
content_of line glyphs short = record { glyphs = glyphs; short = short }

longer_user : (one : PlainUser) (line : List ℕ) → IsContent line → length one.lines < most_user_lines → IsUser one → IsUser (record { number = one.number; lines = one.lines ++ line ∷ [] })
longer_user one line content room is = record {
  number = is.number;
  few = omega (arith, length-append one.lines (line ∷ []));
  each = All-push IsContent one.lines line is.each content;
}

users_begun : (users : List PlainUser) (section : PlainSection) (number : ℕ) → AreUsers (users_with users section) → NoUsersYet section users → IsUserNumber number → takes_user section number ≡ true → length (users_with users section) < most_users
    → AreUsers (users_with users section ++ record { number = number; lines = [] } ∷ [])
users_begun users start number kept none range takes room = record {
  few = omega (arith, length-append users (record { number = number; lines = [] } ∷ []));
  ascending = rw none tt;
  each = All-push IsUser users (record { number = number; lines = [] }) kept.each (new_user number range);
}
users_begun users (of_user last) number kept none range takes room =
    let next : PlainUser = record { number = number; lines = [] } in
    record {
      few = omega (arith, length-append (users ++ last ∷ []) (next ∷ []));
      ascending = ascending_push users last next kept.ascending (ltb-true last.number number takes);
      each = All-push IsUser (users ++ last ∷ []) next kept.each (new_user number range);
    }
users_begun users turns number kept none range takes room = absurd (false≢true takes)
users_begun users (of_file one) number kept none range takes room = absurd (false≢true takes)
users_begun users readings number kept none range takes room = absurd (false≢true takes)
users_begun users ended number kept none range takes room = absurd (false≢true takes)

users_longer : (users : List PlainUser) (one : PlainUser) (line : List ℕ) → AreUsers (users ++ one ∷ []) → IsContent line → length one.lines < most_user_lines
    → AreUsers (users ++ record { number = one.number; lines = one.lines ++ line ∷ [] } ∷ [])
users_longer users one line kept content room =
    let next : PlainUser = record { number = one.number; lines = one.lines ++ line ∷ [] } in
    record {
      few = omega (arith, length-append users (one ∷ []), length-append users (next ∷ []), kept.few);
      ascending = ascending_changed users one next kept.ascending refl;
      each = all_changed IsUser users one next kept.each (longer_user one line content room);
    }

turns_more : (users : List PlainUser) (one : PlainUser) (turned : List ℕ) → AreTurns users turned → AreTurns (users ++ one ∷ []) turned
turns_more users one turned kept = record { few = kept.few; parties = all_pass (is_party users) (is_party (users ++ one ∷ [])) (party_more users one) turned kept.parties }

turns_same : (users : List PlainUser) (one : PlainUser) (lines : List (List ℕ)) (turned : List ℕ) → AreTurns (users ++ one ∷ []) turned → AreTurns (users ++ record { number = one.number; lines = lines } ∷ []) turned
turns_same users one lines turned kept =
    record { few = kept.few; parties = all_pass (is_party (users ++ one ∷ [])) (is_party (users ++ record { number = one.number; lines = lines } ∷ [])) (party_same users one lines) turned kept.parties }

turns_joined : (users : List PlainUser) (turned : List ℕ) (numbers : List (List ℕ)) → AreTurns users turned → list_all (λ digits. is_party users (number_of_digits digits)) numbers ≡ true → length turned + length numbers ≤ most_turns → AreTurns users (turned ++ map number_of_digits numbers)
turns_joined users turned numbers kept parties few = record {
  few = omega (arith, length-append turned (map number_of_digits numbers), length-map numbers number_of_digits);
  parties = list_all-append (is_party users) turned (map number_of_digits numbers) ∙ rw (kept.parties, list_all-map (is_party users) number_of_digits numbers, parties) refl;
}

-- files

files_push : (files : List PlainFile) (last next : PlainFile) → IsAscending (files ++ last ∷ []) → is_lt (name_order last.name next.name) ≡ true → IsAscending ((files ++ last ∷ []) ++ next ∷ [])
files_push [] last next a below = (below, tt)
files_push (one ∷ []) last next a below = (a.0, (below, tt))
files_push (one ∷ other ∷ files) last next a below = (a.0, files_push (other ∷ files) last next a.1 below)

files_changed : (files : List PlainFile) (last : PlainFile) (bytes : List ℕ) → IsAscending (files ++ last ∷ []) → IsAscending (files ++ record { name = last.name; bytes = bytes } ∷ [])
files_changed [] last bytes a = tt
files_changed (one ∷ []) last bytes a = (a.0, tt)
files_changed (one ∷ other ∷ files) last bytes a = (a.0, files_changed (other ∷ files) last bytes a.1)

new_file : (name : List ℕ) → IsFileName name → IsFile (record { name = name; bytes = [] })
new_file name is = record { name = is; lines = []; each = All-nil IsContent; bytes = refl }

pub text_push : (lines : List (List ℕ)) (line : List ℕ) → lines_text (lines ++ line ∷ []) ≡ lines_text lines ++ line_text line
text_push lines line =
    flat_map-append line_text lines (line ∷ []) ∙ ap (λ (last : List ℕ). lines_text lines ++ last) (append-nil (line_text line))

longer_file : (one : PlainFile) (line : List ℕ) → IsContent line → IsFile one → IsFile (record { name = one.name; bytes = one.bytes ++ line_text line })
longer_file one line content is = record {
  name = is.name;
  lines = is.lines ++ line ∷ [];
  each = All-push IsContent is.lines line is.each content;
  bytes = ap (λ (bytes : List ℕ). bytes ++ line_text line) is.bytes ∙ sym (text_push is.lines line);
}

first_file : (files : List PlainFile) (name : List ℕ) → AreFiles files → files ≡ [] → IsFileName name → length files < most_files → AreFiles (files ++ record { name = name; bytes = [] } ∷ [])
first_file files name kept none is room = record {
  few = omega (arith, length-append files (record { name = name; bytes = [] } ∷ []));
  ascending = rw none tt;
  each = All-push IsFile files (record { name = name; bytes = [] }) kept.each (new_file name is);
}

files_begun : (files : List PlainFile) (section : PlainSection) (name : List ℕ) → AreFiles (files_with files section) → NoFilesYet section files → IsFileName name → takes_file section name ≡ true → length (files_with files section) < most_files
    → AreFiles (files_with files section ++ record { name = name; bytes = [] } ∷ [])
files_begun files start name kept none is takes room = first_file files name kept none is room
files_begun files (of_user one) name kept none is takes room = first_file files name kept none is room
files_begun files turns name kept none is takes room = first_file files name kept none is room
files_begun files (of_file last) name kept none is takes room =
    let next : PlainFile = record { name = name; bytes = [] } in
    record {
      few = omega (arith, length-append (files ++ last ∷ []) (next ∷ []));
      ascending = files_push files last next kept.ascending takes;
      each = All-push IsFile (files ++ last ∷ []) next kept.each (new_file name is);
    }
files_begun files readings name kept none is takes room = absurd (false≢true takes)
files_begun files ended name kept none is takes room = absurd (false≢true takes)

files_longer : (files : List PlainFile) (one : PlainFile) (line : List ℕ) → AreFiles (files ++ one ∷ []) → IsContent line → AreFiles (files ++ record { name = one.name; bytes = one.bytes ++ line_text line } ∷ [])
files_longer files one line kept content =
    let next : PlainFile = record { name = one.name; bytes = one.bytes ++ line_text line } in
    record {
      few = omega (arith, length-append files (one ∷ []), length-append files (next ∷ []), kept.few);
      ascending = files_changed files one (one.bytes ++ line_text line) kept.ascending;
      each = all_changed IsFile files one next kept.each (longer_file one line content);
    }

-- readings

readings_of : (numbers : List (List ℕ)) → All IsReadingText numbers → All IsClockReading (map (λ digits. pos (number_of_digits digits)) numbers)
readings_of [] each = All-nil IsClockReading
readings_of (digits ∷ numbers) each =
    All-append IsClockReading (pos (number_of_digits digits) ∷ []) (map (λ digits. pos (number_of_digits digits)) numbers) (All-push IsClockReading [] (pos (number_of_digits digits)) (All-nil IsClockReading) (All-head IsReadingText digits numbers each).small) (readings_of numbers (All-tail IsReadingText digits numbers each))

readings_joined : (read : List ℤ) (numbers : List (List ℕ)) → AreReadings read → All IsReadingText numbers → length read + length numbers ≤ most_readings → AreReadings (read ++ map (λ digits. pos (number_of_digits digits)) numbers)
readings_joined read numbers kept each few = record {
  few = omega (arith, length-append read (map (λ digits. pos (number_of_digits digits)) numbers), length-map numbers (λ digits. pos (number_of_digits digits)));
  each = All-append IsClockReading read (map (λ digits. pos (number_of_digits digits)) numbers) kept.each (readings_of numbers each);
}

-- one line more

abbrev KeptBy : PlainDraft → Type 0
KeptBy draft = IsKept draft.users draft.order draft.files draft.clock draft.section

no_files_so_far : (section : PlainSection) (files : List PlainFile) → NoFilesYet section files → turns_may_stand section ≡ true → files_with files section ≡ []
no_files_so_far start files none takes = none
no_files_so_far (of_user one) files none takes = none
no_files_so_far turns files none takes = none
no_files_so_far (of_file one) files none takes = absurd (false≢true takes)
no_files_so_far readings files none takes = absurd (false≢true takes)
no_files_so_far ended files none takes = absurd (false≢true takes)

no_files_for_users : (section : PlainSection) (files : List PlainFile) (number : ℕ) → NoFilesYet section files → takes_user section number ≡ true → files_with files section ≡ []
no_files_for_users start files number none takes = none
no_files_for_users (of_user one) files number none takes = none
no_files_for_users turns files number none takes = absurd (false≢true takes)
no_files_for_users (of_file one) files number none takes = absurd (false≢true takes)
no_files_for_users readings files number none takes = absurd (false≢true takes)
no_files_for_users ended files number none takes = absurd (false≢true takes)

input_kept : (users : List PlainUser) (turned : List ℕ) (files : List PlainFile) (read : List ℤ) (section : PlainSection) (line : List ℕ) → IsKept users turned files read section → IsSound (record { users = users; order = turned; files = files; clock = read; section = section }) (input line)
    → KeptBy (with_line (record { users = users; order = turned; files = files; clock = read; section = section }) (input line))
input_kept users turned files read start line kept sound = absurd (false≢true sound.place)
input_kept users turned files read (of_user one) line kept sound =
    let limits = both (nat_lt (length one.lines) most_user_lines) (nat_le (length line) most_line_glyphs) sound.limits in
    let content = content_of line sound.form (leb-true (length line) most_line_glyphs limits.1) in
    record {
      all_users = users_longer users one line kept.all_users content (ltb-true (length one.lines) most_user_lines limits.0);
      all_turns = turns_same users one (one.lines ++ line ∷ []) turned kept.all_turns;
      all_files = kept.all_files;
      all_readings = kept.all_readings;
      no_users = tt;
      no_files = kept.no_files;
    }
input_kept users turned files read turns line kept sound = absurd (false≢true sound.place)
input_kept users turned files read (of_file one) line kept sound =
    let content = content_of line sound.form (leb-true (length line) most_line_glyphs sound.limits) in
    record {
      all_users = kept.all_users;
      all_turns = kept.all_turns;
      all_files = files_longer files one line kept.all_files content;
      all_readings = kept.all_readings;
      no_users = tt;
      no_files = tt;
    }
input_kept users turned files read readings line kept sound = absurd (false≢true sound.place)
input_kept users turned files read ended line kept sound = absurd (false≢true sound.place)

kept_with : (draft : PlainDraft) (line : PlainLine) → KeptBy draft → IsSound draft line → KeptBy (with_line draft line)
kept_with draft (input line) kept sound = input_kept draft.users draft.order draft.files draft.clock draft.section line kept sound
kept_with draft (user number) kept sound = record {
  all_users = users_begun draft.users draft.section number kept.all_users kept.no_users sound.form sound.place (ltb-true (length (users_so_far draft)) most_users sound.limits);
  all_turns = turns_more (users_so_far draft) (record { number = number; lines = [] }) draft.order kept.all_turns;
  all_files = kept.all_files;
  all_readings = kept.all_readings;
  no_users = tt;
  no_files = no_files_for_users draft.section draft.files number kept.no_files sound.place;
}
kept_with draft (order numbers) kept sound = record {
  all_users = kept.all_users;
  all_turns = turns_joined (users_so_far draft) draft.order numbers kept.all_turns sound.parties (leb-true (length draft.order + length numbers) most_turns sound.limits);
  all_files = kept.all_files;
  all_readings = kept.all_readings;
  no_users = tt;
  no_files = no_files_so_far draft.section draft.files kept.no_files sound.place;
}
kept_with draft (file name) kept sound = record {
  all_users = kept.all_users;
  all_turns = kept.all_turns;
  all_files = files_begun draft.files draft.section name kept.all_files kept.no_files sound.form sound.place (ltb-true (length (files_of draft)) most_files sound.limits);
  all_readings = kept.all_readings;
  no_users = tt;
  no_files = tt;
}
kept_with draft (clock numbers) kept sound = record {
  all_users = kept.all_users;
  all_turns = kept.all_turns;
  all_files = kept.all_files;
  all_readings = readings_joined draft.clock numbers kept.all_readings sound.form.1 (leb-true (length draft.clock + length numbers) most_readings sound.limits);
  no_users = tt;
  no_files = tt;
}
kept_with draft end kept sound = record {
  all_users = kept.all_users;
  all_turns = kept.all_turns;
  all_files = kept.all_files;
  all_readings = kept.all_readings;
  no_users = tt;
  no_files = tt;
}

nothing_kept : KeptBy nothing_read
nothing_kept = record {
  all_users = record { few = omega arith; ascending = tt; each = All-nil IsUser };
  all_turns = record { few = omega arith; parties = refl };
  all_files = record { few = omega arith; ascending = tt; each = All-nil IsFile };
  all_readings = record { few = omega arith; each = All-nil IsClockReading };
  no_users = refl;
  no_files = refl;
}

pub said_is_kept : (before : List PlainLine) → AreSound before → KeptBy (said before)
said_is_kept [] sound = nothing_kept
said_is_kept (line ∷ before) sound = kept_with (said before) line (said_is_kept before sound.1) sound.0

-- what sound lines say is a bundle
pub said_is_bundle : (before : List PlainLine) → AreSound before → IsBundle (bundle_of (said before))
said_is_bundle before sound =
    let kept = said_is_kept before sound in
    record {
      few = kept.all_users.few;
      ascending = kept.all_users.ascending;
      each = kept.all_users.each;
      few_turns = kept.all_turns.few;
      parties = kept.all_turns.parties;
      few_files = kept.all_files.few;
      names_ascend = kept.all_files.ascending;
      each_file = kept.all_files.each;
      few_readings = kept.all_readings.few;
      readings = kept.all_readings.each;
    }
