-- The commands, each a row: its word, what may stand behind it, and what it leads to.
use Rattle.std.specs.Prelude.{ℕ, List, [], ◌∷◌, Option, codes}
use Rattle.std.specs.Option.{option_or}
use Rattle.apl_workspace.specs.Listing.{names_asked}
use Rattle.apl_workspace.specs.Workspace.{PlainWorkspace}
use Rattle.apl_workspace.specs.declared.what.What.TheVariants.{Functions, Variables}
use Rattle.ws_commands.specs.Command.{PlainCommand}
use Rattle.ws_commands.specs.Library.{copying, dropping, listing_library, loading, saving}
use Rattle.ws_commands.specs.Names.{clearing, erasing, identifying, ending_session, listing}
use Rattle.ws_commands.specs.Step.{Step, does, named}
use Rattle.ws_commands.specs.declared.word.Need.{Need}
use Rattle.ws_commands.specs.declared.word.Need.TheVariants.{No, May, Must}
use Rattle.ws_commands.specs.declared.word.CommandWord.{CommandWord}
use Rattle.ws_commands.specs.declared.word.CommandWord.TheVariants as word

-- a row: how the word is written, whether the name of a workspace and names of objects stand behind it, and what the command leads to on a workspace with this id
pub record CommandRow : Type 0 where
  pub text : List ℕ
  pub workspace : Need
  pub objects : Need
  pub step : PlainCommand → PlainWorkspace → Option (List ℕ) → Step

-- all words
abbrev pub all_words : List CommandWord
all_words = word.Clear ∷ word.Save ∷ word.Load ∷ word.CopyFrom ∷ word.Remove ∷ word.Lib ∷ word.Fns ∷ word.Vars ∷ word.Erase ∷ word.Wsid ∷ word.Off ∷ []

-- the row of a word
abbrev pub row_of_word : CommandWord → CommandRow
row_of_word word.Clear = record { text = codes ")CLEAR"; workspace = No; objects = No; step = λ command w id. does (clearing w) }
row_of_word word.Save = record { text = codes ")SAVE"; workspace = May; objects = No; step = λ command w id. saving (option_or command.workspace id) w }
row_of_word word.Load = record { text = codes ")LOAD"; workspace = Must; objects = No; step = λ command w id. named command.workspace (λ name. loading name w) }
row_of_word word.CopyFrom = record { text = codes ")COPY"; workspace = Must; objects = May; step = λ command w id. named command.workspace (λ name. copying name command.objects w) }
row_of_word word.Remove = record { text = codes ")DROP"; workspace = Must; objects = No; step = λ command w id. named command.workspace dropping }
row_of_word word.Lib = record { text = codes ")LIB"; workspace = No; objects = No; step = λ command w id. listing_library }
row_of_word word.Fns = record { text = codes ")FNS"; workspace = No; objects = No; step = λ command w id. does (listing (names_asked Functions w)) }
row_of_word word.Vars = record { text = codes ")VARS"; workspace = No; objects = No; step = λ command w id. does (listing (names_asked Variables w)) }
row_of_word word.Erase = record { text = codes ")ERASE"; workspace = No; objects = Must; step = λ command w id. does (erasing command.objects w) }
row_of_word word.Wsid = record { text = codes ")WSID"; workspace = May; objects = No; step = λ command w id. does (identifying command.workspace id) }
row_of_word word.Off = record { text = codes ")OFF"; workspace = No; objects = No; step = λ command w id. does ending_session }
