-- A bundle as it is written, and the grammar: which bytes are the text of which bundle.
use Rattle.std.specs.Prelude.{◌≡◌, ◌⊎◌, ℕ, pos, ◌<◌, IsTrue, List, [], ◌∷◌, ◌++◌, length, map, All}
use Rattle.std.specs.List.{flat_map}
use Rattle.apl_arrays.specs.FileList.{PlainFile}
use Rattle.line_text.specs.Lines.{line_feed, lines_text}
pub use Rattle.bundle_text.specs.Rules.{PlainBundle, IsBundle}
use Rattle.bundle_text.specs.Rules.{IsContent}
use Rattle.bundle_text.specs.BundleLine.{PlainLine, input, user, order, file, clock, end, IsBundleLine, line_glyphs}
use Rattle.text_reader.specs.Numeral.{number_of_digits}
use Rattle.bundle_text.specs.User.{PlainUser}

-- a file as it is written: its name and its lines
pub record Sheet : Type 0 where
  pub name : List ℕ
  pub lines : List (List ℕ)

-- a bundle as it is written: users, lines of turns, files, lines of readings; the numbers by their digits
pub record Page : Type 0 where
  pub users : List PlainUser
  pub orders : List (List (List ℕ))
  pub files : List Sheet
  pub clocks : List (List (List ℕ))

-- the heading of a user and its lines
abbrev pub user_section : PlainUser → List PlainLine
user_section one = user one.number ∷ map (λ line. input line) one.lines

-- the heading of a file and its lines
abbrev pub file_section : Sheet → List PlainLine
file_section sheet = file sheet.name ∷ map (λ line. input line) sheet.lines

-- the lines of a page: users, turns, files, readings, and the end
abbrev pub lines_of : Page → List PlainLine
lines_of page =
    flat_map user_section page.users ++ map (λ numbers. order numbers) page.orders ++ flat_map file_section page.files
    ++ map (λ numbers. clock numbers) page.clocks ++ end ∷ []

-- a file's bytes are its lines, each with its line feed
abbrev pub file_of : Sheet → PlainFile
file_of sheet = record { name = sheet.name; bytes = lines_text sheet.lines }

-- the bundle that a page says: the numbers of several lines are taken in order
abbrev pub bundle_said_by : Page → PlainBundle
bundle_said_by page = record {
  users = page.users;
  order = map number_of_digits (flat_map (λ numbers. numbers) page.orders);
  files = map file_of page.files;
  clock = map (λ digits. pos (number_of_digits digits)) (flat_map (λ numbers. numbers) page.clocks);
}

-- the bytes of lines, each with its line feed
abbrev pub bytes_of_lines : List PlainLine → List ℕ
bytes_of_lines lines = lines_text (map line_glyphs lines)

-- the bytes are the text of this bundle: of a page that says it, each line in its form, the lines of files no longer than
-- those of users; the last line feed may be missing
pub record BundleText (bytes : List ℕ) (bundle : PlainBundle) : Type 0 where
  pub rules : IsBundle bundle
  pub page : Page
  pub says : bundle_said_by page ≡ bundle
  pub forms : All IsBundleLine (lines_of page)
  pub short : All (λ sheet. All IsContent sheet.lines) page.files
  pub text : (bytes ≡ bytes_of_lines (lines_of page)) ⊎ (bytes ++ line_feed ∷ [] ≡ bytes_of_lines (lines_of page))

-- the bytes are the text of no bundle
abbrev pub IsNoBundle : List ℕ → Type 0
IsNoBundle bytes = (bundle : PlainBundle) → ¬ BundleText bytes bundle
