-- What a bundle is.
use Rattle.std.specs.Prelude.{◌≡◌, ℕ, ℤ, pos, negsuc, ◌<◌, ◌≤◌, ◌^◌, ◌||◌, ◌==◌, Bool, List, [], ◌∷◌, length, All, IsTrue}
use Rattle.std.specs.List.{list_all, list_any}
use Rattle.apl_arrays.specs.Ascending.{AscendBy}
use Rattle.apl_arrays.specs.File.{IsFileName}
use Rattle.apl_arrays.specs.FileList.{PlainFile, IsAscending}
use Rattle.apl_arrays.specs.Glyph.{IsGlyph}
use Rattle.apl_arrays.specs.Limits.{most_line_glyphs, most_user_lines, most_users}
use Rattle.apl_arrays.specs.Parties.{first_user, last_user}
use Rattle.aux_parties.specs.Auxiliaries.{is_auxiliary}
use Rattle.line_text.specs.Lines.{lines_text}
use Rattle.bundle_text.specs.Limits.{most_turns, most_files, most_readings, greatest_reading}
use Rattle.bundle_text.specs.User.{PlainUser}

-- a bundle as plain data
pub record PlainBundle : Type 0 where
  pub users : List PlainUser
  pub order : List ℕ
  pub files : List PlainFile
  pub clock : List ℤ

-- the glyphs of a content line: 1,000 at the most
pub record IsContent (line : List ℕ) : Type 0 where
  pub glyphs : All IsGlyph line
  pub short : length line ≤ most_line_glyphs

-- the number of a user: 1001 to 1999
abbrev pub IsUserNumber : ℕ → Type 0
IsUserNumber number = (first_user ≤ number) × (number ≤ last_user)

-- a user's number, and 10,000 lines at the most
pub record IsUser (user : PlainUser) : Type 0 where
  pub number : IsUserNumber user.number
  pub few : length user.lines ≤ most_user_lines
  pub each : All IsContent user.lines

-- the number of a party that takes turns: an auxiliary, or one of the users
abbrev pub is_party : List PlainUser → ℕ → Bool
is_party users number = is_auxiliary number || list_any (λ user. user.number == number) users

-- a file's name, and its bytes: lines, each with its line feed
pub record IsFile (file : PlainFile) : Type 0 where
  pub name : IsFileName file.name
  pub lines : List (List ℕ)
  pub each : All IsContent lines
  pub bytes : file.bytes ≡ lines_text lines

-- a reading of the clock: 0 to 9223372036854775807
abbrev pub IsClockReading : ℤ → Type 0
IsClockReading (pos n) = n ≤ greatest_reading
IsClockReading (negsuc n) = ⊥

-- what the rules ask of a bundle
pub record IsBundle (bundle : PlainBundle) : Type 0 where
  pub few : length bundle.users ≤ most_users
  pub ascending : AscendBy (λ user. user.number) bundle.users
  pub each : All IsUser bundle.users
  pub few_turns : length bundle.order ≤ most_turns
  pub parties : IsTrue (list_all (is_party bundle.users) bundle.order)
  pub few_files : length bundle.files ≤ most_files
  pub names_ascend : IsAscending bundle.files
  pub each_file : All IsFile bundle.files
  pub few_readings : length bundle.clock ≤ most_readings
  pub readings : All IsClockReading bundle.clock
