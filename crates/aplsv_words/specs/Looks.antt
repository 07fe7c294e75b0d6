-- What words ask of a printed output.
use Rattle.std.specs.Prelude.{◌≡◌, ℕ, Bool, true, false, List, Option, Some, None, codes, option_map}
use Rattle.aplsv_words.specs.Meaning.{AreFine, CountsAs, Setting, Spell, Text, has_setting, value_written_for}
use Rattle.aplsv_words.specs.Table.{look_table}
use Rattle.aplsv_words.specs.declared.look.Look.{Look}
use Rattle.aplsv_words.specs.declared.look.Look.TheVariants.{Picture, Why}
use Rattle.aplsv_words.specs.declared.look_written.LookWritten.{LookWritten}

-- the greatest place of an entry that a word may have
abbrev pub greatest_place : ℕ
greatest_place = 18446744073709551615

-- what such words say: a field for each word of their table, and a value as it was written
pub record LookSaid : Type 0 where
  pub picture : Bool
  pub from : Option Text
  pub to : Option Text
  pub why : Option Text

-- what was read
abbrev pub look_said_in : LookWritten → LookSaid
look_said_in written = record {
  picture = written.picture;
  from = option_map (λ place. place.now) written.from;
  to = option_map (λ place. place.now) written.to;
  why = option_map (λ place. place.now) written.why;
}

-- what settings say
abbrev pub look_said_by : List Setting → LookSaid
look_said_by settings = record {
  picture = has_setting (codes "picture") settings;
  from = value_written_for (codes "from") settings;
  to = value_written_for (codes "to") settings;
  why = value_written_for (codes "why") settings;
}

-- the words say this: they are settings of the table, in any order and each once
pub record SayToLook (words : List Text) (said : LookSaid) : Type 0 where
  pub settings : List Setting
  pub spelled : Spell settings words
  pub fine : AreFine look_table settings
  pub says : look_said_by settings ≡ said

-- what is said asks for this: a picture from one place to another, where these are written; or why one entry is what it is, and nothing else
abbrev pub AsksToLook : LookSaid → Look → Type 0
AsksToLook said (Picture from to) = (said.picture ≡ true) × (said.why ≡ None) × CountsAs greatest_place said.from from × CountsAs greatest_place said.to to
AsksToLook said (Why place) = (said.picture ≡ false) × (said.from ≡ None) × (said.to ≡ None) × CountsAs greatest_place said.why (Some place)

-- the words mean this look: they say what asks for it
pub record MeanToLook (words : List Text) (look : Look) : Type 0 where
  pub said : LookSaid
  pub say : SayToLook words said
  pub asks : AsksToLook said look

-- words that mean no look
abbrev pub MeanNoLook : List Text → Type 0
MeanNoLook words = (look : Look) → ¬ MeanToLook words look

-- words mean one look and no other
abbrev pub LooksHaveOneMeaning : Type 0
LooksHaveOneMeaning = (words : List Text) (look other : Look) → MeanToLook words look → MeanToLook words other → look ≡ other
