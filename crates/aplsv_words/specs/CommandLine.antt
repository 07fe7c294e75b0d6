-- The table as a command line of the parser.
use Rattle.std.specs.Prelude.{◌≡◌, true, false, ℕ, Bool, List, [], Option, Some, None, codes, map, if◌then◌else◌}
use Rattle.clap.specs.Walk.{Rule}
use Rattle.clap.specs.Simple.{App, new_rule, new_shape}
use Rattle.clap.specs.declared.builder.action.ArgAction.TheVariants.{SetTrue}
use Rattle.clap.specs.declared.builder.value_parser.ValueParser.TheVariants.{NonEmptyString}
use Rattle.clap.specs.declared.error.kind.ErrorKind.{ErrorKind}
use Rattle.clap.specs.declared.error.kind.ErrorKind.TheVariants.{OutOfMemory}
use Rattle.aplsv_words.specs.Table.{Word}
use Rattle.aplsv_words.specs.declared.words.WordsRefused.{WordsRefused}
use Rattle.aplsv_words.specs.declared.words.WordsRefused.TheVariants as refused

-- the argument of a word without a value
abbrev pub flag_rule : List ℕ → Rule
flag_rule name = record (new_rule name) { long = Some name; action = Some SetTrue }

-- the argument of a word with a value, which is not empty
abbrev pub value_rule : List ℕ → Rule
value_rule name = record (new_rule name) { long = Some name; parser = Some NonEmptyString }

-- the argument of a word
abbrev pub rule_of_word : Word → Rule
rule_of_word word = if word.takes_value then value_rule word.name else flag_rule word.name

-- the command with these words, in which the first word is no name of the program and none asks for help
abbrev pub command_of : List Word → App
command_of words = record {
  top = record (new_shape (codes "aplsv")) { rules = map rule_of_word words; no_binary_name = true; disable_help_flag = true };
  subs = [];
}

-- the flag stands exactly where it has the text `true`; without use it has none, or `false`
abbrev pub IsFlagOf : Option (List ℕ) → Bool → Type 0
IsFlagOf told flag = (told ≡ None → flag ≡ false) × (told ≡ Some (codes "true") → flag ≡ true) × (told ≡ Some (codes "false") → flag ≡ false)

-- an error that is none of memory is one of the words
abbrev pub refusal_of : ErrorKind → WordsRefused
refusal_of OutOfMemory = refused.WantOfMemory
refusal_of _ = refused.Usage
