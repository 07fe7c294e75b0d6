-- What lines say, and where a line may stand behind others.
use Rattle.std.specs.Prelude.{ℕ, ℤ, pos, ◌≡◌, ◌+◌, ◌&&◌, Bool, true, false, not, IsTrue, nat_lt, nat_le, List, [], ◌∷◌, ◌++◌, length, map}
use Rattle.std.specs.List.{list_all}
use Rattle.std.specs.Ordering.{is_lt}
use Rattle.apl_arrays.specs.FileList.{PlainFile}
use Rattle.apl_arrays.specs.Limits.{most_line_glyphs, most_user_lines, most_users}
use Rattle.apl_arrays.specs.Name.{name_order}
use Rattle.line_text.specs.Lines.{line_text}
use Rattle.bundle_text.specs.Rules.{PlainBundle, is_party}
use Rattle.bundle_text.specs.BundleLine.{PlainLine, input, user, order, file, clock, end, IsBundleLine}
use Rattle.bundle_text.specs.Limits.{most_turns, most_files, most_readings}
use Rattle.text_reader.specs.Numeral.{number_of_digits}
use Rattle.bundle_text.specs.User.{PlainUser}

-- what the last heading began: nothing yet, the lines of a user so far, turns, a file's bytes so far, readings, or the end
pub data PlainSection : Type 0 where
  start : PlainSection
  of_user : PlainUser → PlainSection
  turns : PlainSection
  of_file : PlainFile → PlainSection
  readings : PlainSection
  ended : PlainSection

-- what lines say: the users and the files that are whole, turns, readings, and what the last heading began
pub record PlainDraft : Type 0 where
  pub users : List PlainUser
  pub order : List ℕ
  pub files : List PlainFile
  pub clock : List ℤ
  pub section : PlainSection

-- no line says anything
abbrev pub nothing_read : PlainDraft
nothing_read = record { users = []; order = []; files = []; clock = []; section = start }

-- users, and the one whose lines come
abbrev pub users_with : List PlainUser → PlainSection → List PlainUser
users_with users (of_user one) = users ++ one ∷ []
users_with users _ = users

-- files, and the one whose lines come
abbrev pub files_with : List PlainFile → PlainSection → List PlainFile
files_with files (of_file one) = files ++ one ∷ []
files_with files _ = files

-- all users so far
abbrev pub users_so_far : PlainDraft → List PlainUser
users_so_far draft = users_with draft.users draft.section

-- all files so far
abbrev pub files_of : PlainDraft → List PlainFile
files_of draft = files_with draft.files draft.section

-- where a content line may stand: under the heading of a user or of a file
abbrev pub takes_content : PlainSection → Bool
takes_content (of_user one) = true
takes_content (of_file one) = true
takes_content _ = false

-- where a user may stand: at the front, or behind a user of a lower number
abbrev pub takes_user : PlainSection → ℕ → Bool
takes_user start number = true
takes_user (of_user last) number = nat_lt last.number number
takes_user _ number = false

-- where turns may stand: at the front, behind users, or behind turns
abbrev pub turns_may_stand : PlainSection → Bool
turns_may_stand start = true
turns_may_stand (of_user one) = true
turns_may_stand turns = true
turns_may_stand _ = false

-- where a file may stand: where turns may, or behind a file whose name is before its own
abbrev pub takes_file : PlainSection → List ℕ → Bool
takes_file (of_file last) name = is_lt (name_order last.name name)
takes_file readings name = false
takes_file ended name = false
takes_file _ name = true

-- the end was read
abbrev pub is_at_end : PlainSection → Bool
is_at_end ended = true
is_at_end _ = false

-- where a line may stand
abbrev pub may_stand : PlainSection → PlainLine → Bool
may_stand section (input line) = takes_content section
may_stand section (user number) = takes_user section number
may_stand section (order numbers) = turns_may_stand section
may_stand section (file name) = takes_file section name
may_stand section (clock numbers) = not (is_at_end section)
may_stand section end = not (is_at_end section)

-- an order names parties alone
abbrev pub names_parties : List PlainUser → PlainLine → Bool
names_parties users (order numbers) = list_all (λ digits. is_party users (number_of_digits digits)) numbers
names_parties users _ = true

-- a user has room for one line more
abbrev pub has_room : PlainSection → Bool
has_room (of_user one) = nat_lt (length one.lines) most_user_lines
has_room _ = true

-- no limit is passed with this line
abbrev pub line_keeps_limits : PlainDraft → PlainLine → Bool
line_keeps_limits draft (input line) = has_room draft.section && nat_le (length line) most_line_glyphs
line_keeps_limits draft (user number) = nat_lt (length (users_so_far draft)) most_users
line_keeps_limits draft (order numbers) = nat_le (length draft.order + length numbers) most_turns
line_keeps_limits draft (file name) = nat_lt (length (files_of draft)) most_files
line_keeps_limits draft (clock numbers) = nat_le (length draft.clock + length numbers) most_readings
line_keeps_limits draft end = true

-- a section with one content line more
abbrev pub longer : PlainSection → List ℕ → PlainSection
longer (of_user one) line = of_user (record { number = one.number; lines = one.lines ++ line ∷ [] })
longer (of_file one) line = of_file (record { name = one.name; bytes = one.bytes ++ line_text line })
longer section line = section

-- a section begins, so that the one before it is whole
abbrev pub section_begun : PlainDraft → PlainSection → PlainDraft
section_begun draft section = record { users = users_so_far draft; order = draft.order; files = files_of draft; clock = draft.clock; section = section }

-- what lines say with one line more
abbrev pub with_line : PlainDraft → PlainLine → PlainDraft
with_line draft (input line) = record draft { section = longer draft.section line }
with_line draft (user number) = section_begun draft (of_user (record { number = number; lines = [] }))
with_line draft (order numbers) = record (section_begun draft turns) { order = draft.order ++ map number_of_digits numbers }
with_line draft (file name) = section_begun draft (of_file (record { name = name; bytes = [] }))
with_line draft (clock numbers) = record (section_begun draft readings) { clock = draft.clock ++ map (λ digits. pos (number_of_digits digits)) numbers }
with_line draft end = section_begun draft ended

-- what lines say, the last one first
abbrev pub said : List PlainLine → PlainDraft
said [] = nothing_read
said (line ∷ before) = with_line (said before) line

-- the bundle of what was said
abbrev pub bundle_of : PlainDraft → PlainBundle
bundle_of draft = record { users = users_so_far draft; order = draft.order; files = files_of draft; clock = draft.clock }
