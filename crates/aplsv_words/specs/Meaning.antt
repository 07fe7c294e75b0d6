-- What the words of a command line mean.
use Rattle.std.specs.Prelude.{◌≡◌, ◌≤◌, ◌⊎◌, ◌==◌, ◌&&◌, ◌||◌, ◌++◌, Bool, true, false, ℕ, List, [], ◌∷◌, Option, Some, None, find, is_some, length, nat_lt, codes, decimal, option_map}
use Rattle.std.specs.List.{list_all, list_any}
use Rattle.std.specs.Option.{option_and_then, option_map_or}
use Rattle.std.specs.Str.{bytes_eq}
use Rattle.aplsv_words.specs.Table.{Word, table}
use Rattle.aplsv_words.specs.declared.words.Words.{Words}
use Rattle.aplsv_words.specs.declared.written.Written.{Written}

-- a text, by its bytes
abbrev pub Text : Type 0
Text = List ℕ

-- a name that was written, with its value if it has one
pub record Setting : Type 0 where
  pub name : Text
  pub value : Option Text

-- the text begins with a hyphen
abbrev pub begins_with_hyphen : Text → Bool
begins_with_hyphen [] = false
begins_with_hyphen (byte ∷ text) = byte == 45

-- a name behind two hyphens
abbrev pub hyphened : Text → Text
hyphened name = 45 ∷ 45 ∷ name

-- a name and its value in one word, with `=` between them
abbrev pub as_one_word : Text → Text → Text
as_one_word name value = hyphened name ++ 61 ∷ value

-- the words begin with a name and its value, and these are left: a name alone stands behind its hyphens; a value follows it in the same word, or is the next word, which then does not begin with a hyphen
abbrev pub BeginsWith : Text → Option Text → List Text → List Text → Type 0
BeginsWith name None words left = words ≡ hyphened name ∷ left
BeginsWith name (Some value) words left =
    (words ≡ as_one_word name value ∷ left) ⊎ ((begins_with_hyphen value ≡ false) × (words ≡ hyphened name ∷ value ∷ left))

-- the words are these settings, one after another
abbrev pub Spell : List Setting → List Text → Type 0
Spell [] words = words ≡ []
Spell (setting ∷ settings) words = (left : List Text) × BeginsWith setting.name setting.value words left × Spell settings left

-- the setting has this name
abbrev pub is_named : Text → Setting → Bool
is_named name setting = bytes_eq setting.name name

-- one of the settings has this name
abbrev pub has_setting : Text → List Setting → Bool
has_setting name settings = list_any (is_named name) settings

-- each name stands once
abbrev pub NamesDiffer : List Setting → Type 0
NamesDiffer [] = Unit {0}
NamesDiffer (setting ∷ settings) = (has_setting setting.name settings ≡ false) × NamesDiffer settings

-- a word takes a value that is not empty exactly where it takes one
abbrev pub value_fits : Bool → Option Text → Bool
value_fits true (Some value) = nat_lt 0 (length value)
value_fits true None = false
value_fits false (Some value) = false
value_fits false None = true

-- the word of a name among some words
abbrev pub word_of : List Word → Text → Option Word
word_of words name = find (λ word. bytes_eq word.name name) words

-- the setting is one of these words with what it takes
abbrev pub is_known : List Word → Setting → Bool
is_known words setting = option_map_or (λ word. value_fits word.takes_value setting.value) (word_of words setting.name) false

-- the settings are of these words, and each name stands once
pub record AreFine (words : List Word) (settings : List Setting) : Type 0 where
  pub known : list_all (is_known words) settings ≡ true
  pub once : NamesDiffer settings

-- the value that was written for a name
abbrev pub value_written_for : Text → List Setting → Option Text
value_written_for name settings = option_and_then (λ setting. setting.value) (find (is_named name) settings)

-- what words say: a field for each word of the table, and a value as it was written
pub record Said : Type 0 where
  pub replay : Bool
  pub workers : Option Text
  pub library : Option Text
  pub text : Option Text
  pub clock : Bool
  pub load : Option Text
  pub components : Bool
  pub relay : Bool

-- what was read
abbrev pub said_in : Written → Said
said_in written = record {
  replay = written.replay;
  workers = option_map (λ count. count.now) written.workers;
  library = option_map (λ place. place.now) written.library;
  text = option_map (λ place. place.now) written.text;
  clock = written.clock;
  load = option_map (λ count. count.now) written.load;
  components = written.components;
  relay = written.relay;
}

-- what settings say
abbrev pub said_by : List Setting → Said
said_by settings = record {
  replay = has_setting (codes "replay") settings;
  workers = value_written_for (codes "workers") settings;
  library = value_written_for (codes "library") settings;
  text = value_written_for (codes "text") settings;
  clock = has_setting (codes "clock") settings;
  load = value_written_for (codes "load") settings;
  components = has_setting (codes "components") settings;
  relay = has_setting (codes "relay") settings;
}

-- the words say this: they are settings of the table, in any order and each once
pub record Say (words : List Text) (said : Said) : Type 0 where
  pub settings : List Setting
  pub spelled : Spell settings words
  pub fine : AreFine table settings
  pub says : said_by settings ≡ said

-- what words ask for: a field for each word of the table
pub record Asked : Type 0 where
  pub replay : Bool
  pub workers : Option ℕ
  pub library : Option Text
  pub text : Option Text
  pub clock : Bool
  pub load : Option ℕ
  pub components : Bool
  pub relay : Bool

-- what was understood
abbrev pub asked_by : Words → Asked
asked_by words = record {
  replay = words.replay;
  workers = words.workers;
  library = option_map (λ place. place.now) words.library;
  text = option_map (λ place. place.now) words.text;
  clock = words.clock;
  load = words.load;
  components = words.components;
  relay = words.relay;
}

-- the text is this count: its decimal digits, from 1 to a most, so without a sign and without a zero at the front
pub record IsCount (most : ℕ) (text : Text) (n : ℕ) : Type 0 where
  pub digits : text ≡ decimal n
  pub some : 1 ≤ n
  pub few : n ≤ most

-- it is none
abbrev pub NoCount : ℕ → Text → Type 0
NoCount most text = (n : ℕ) → ¬ IsCount most text n

-- a count is written where one is asked for, and else none
abbrev pub CountsAs : ℕ → Option Text → Option ℕ → Type 0
CountsAs most None None = Unit {0}
CountsAs most None (Some n) = ⊥
CountsAs most (Some text) None = ⊥
CountsAs most (Some text) (Some n) = IsCount most text n

-- nothing can be asked for by what was written
abbrev pub NothingCounts : ℕ → Option Text → Type 0
NothingCounts most written = (count : Option ℕ) → ¬ CountsAs most written count

-- two of three hold
abbrev pub two_of : Bool → Bool → Bool → Bool
two_of first second third = (first && second) || (first && third) || (second && third)

-- what is said asks for this: the same of each word, from 1 to 34 workers and a load of 1 to 100,000 by their counts, and no two of a replay, workers and a load together
pub record AsksFor (said : Said) (asked : Asked) : Type 0 where
  pub replay : asked.replay ≡ said.replay
  pub library : asked.library ≡ said.library
  pub text : asked.text ≡ said.text
  pub clock : asked.clock ≡ said.clock
  pub workers : CountsAs 34 said.workers asked.workers
  pub load : CountsAs 100000 said.load asked.load
  pub components : asked.components ≡ said.components
  pub relay : asked.relay ≡ said.relay
  pub single : two_of asked.replay (is_some asked.workers) (is_some asked.load) ≡ false

-- the words mean this: they say what asks for it
pub record Means (words : List Text) (asked : Asked) : Type 0 where
  pub said : Said
  pub say : Say words said
  pub asks : AsksFor said asked
