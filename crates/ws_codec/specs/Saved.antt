-- Saved bytes as a whole: what they are read as, and which field breaks a rule first.
use Rattle.std.specs.Prelude.{◌≡◌, ◌-◌, ◌==◌, ◌||◌, [], ℕ, List, Option, Some, None, Result, Ok, Err, length, if◌then◌else◌}
use Rattle.apl_workspace.specs.Meaning.{NameTable}
use Rattle.apl_workspace.specs.Workspace.{PlainWorkspace}
use Rattle.apl_workspace.specs.declared.remake.Remake.{Remake}
use Rattle.ws_codec.specs.Fields.{read_byte, read_same}
use Rattle.ws_codec.specs.Kept.{workspace_of}
use Rattle.ws_codec.specs.Objects.{read_objects}
use Rattle.ws_codec.specs.Offers.{read_offers}
use Rattle.ws_codec.specs.Reading.{Reader, ◌>>=◌, keeps}
use Rattle.ws_codec.specs.SavedText.{magic}
use Rattle.ws_codec.specs.declared.saved.CodecRefused.{CodecRefused}
use Rattle.ws_codec.specs.declared.saved.CodecRefused.TheVariants.{BadBytes, WantOfMemory}
use Rattle.ws_codec.specs.declared.saved.Saved.{Saved}
use Rattle.ws_codec.specs.declared.saved.SavedRule.{SavedRule}
use Rattle.ws_codec.specs.declared.saved.SavedRule.TheVariants.{Magic, Rest, Version}
use Rattle.ws_codec.specs.declared.unread.Flaw.{Flaw}

-- what saved bytes hold: a workspace, and the offers that are to be made again
pub record PlainSaved : Type 0 where
  pub workspace : PlainWorkspace
  pub remakes : List Remake

-- the same of a value of the program
abbrev pub plain_saved : Saved → PlainSaved
plain_saved saved = record { workspace = saved.workspace; remakes = saved.remakes.items }

-- a workspace of these names, and these offers
abbrev pub saved_of : NameTable → List Remake → PlainSaved
saved_of table offers = record { workspace = workspace_of table; remakes = offers }

-- the bytes in front, and the version
unfoldable pub read_version : Reader ℕ
read_version rest = do
  front ← read_same magic rest
  right ← keeps front.0 Magic (length rest)
  version ← read_byte front.1
  known ← keeps (version.0 == 1 || version.0 == 2) Version (length front.1)
  Ok version

-- the offers of a version: the first has none
unfoldable pub offers_of_version : ℕ → NameTable → Reader (List Remake)
offers_of_version version table rest = if version == 1 then Ok ([], rest) else read_offers table rest

-- objects and offers to the end of the bytes
unfoldable pub read_saved : List ℕ → Result PlainSaved Flaw
read_saved bytes = do
  version ← read_version bytes
  objects ← read_objects version.1
  offers ← offers_of_version version.0 objects.0 objects.1
  ended ← keeps (length offers.1 == 0) Rest (length offers.1)
  Ok (saved_of objects.0 offers.0)

-- where bytes of this length break a rule, and which
abbrev pub flaw_place : ℕ → Flaw → ℕ × SavedRule
flaw_place count flaw = (count - flaw.left, flaw.rule)

-- a reading of bytes of this length, with the place of the rule that is broken counted from their front
abbrev pub reading_placed : ℕ → Result PlainSaved Flaw → Result PlainSaved (ℕ × SavedRule)
reading_placed count (Ok found) = Ok found
reading_placed count (Err flaw) = Err (flaw_place count flaw)

-- what bytes are read as, else the offset of the first field that breaks a rule, and the rule
abbrev pub saved_reading : List ℕ → Result PlainSaved (ℕ × SavedRule)
saved_reading bytes = reading_placed (length bytes) (read_saved bytes)

-- what is wrong in a reading
abbrev pub fault_of : Result PlainSaved (ℕ × SavedRule) → Option (ℕ × SavedRule)
fault_of (Ok found) = None
fault_of (Err fault) = Some fault

-- the offset of the first field that breaks a rule, and the rule, where one is broken
abbrev pub spoils : List ℕ → Option (ℕ × SavedRule)
spoils bytes = fault_of (saved_reading bytes)

-- why bytes are refused: a field breaks a rule, or memory ran out
abbrev pub IsRefusal : CodecRefused → List ℕ → Type 0
IsRefusal (BadBytes offset rule) bytes = spoils bytes ≡ Some (offset, rule)
IsRefusal WantOfMemory bytes = Unit {0}

-- a call found what bytes are read as, or why they are refused
abbrev pub ReadsSaved : Result Saved CodecRefused → List ℕ → Type 0
ReadsSaved (Ok saved) bytes = saved_reading bytes ≡ Ok (plain_saved saved)
ReadsSaved (Err why) bytes = IsRefusal why bytes
