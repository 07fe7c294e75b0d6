-- Words at work: those that mean something by their settings, and those that mean nothing by what the parser makes of them.
use Rattle.std.proofs.Common.{◌≡◌, true, List, ◌∷◌, refl, sym, ◌∙◌}
use Rattle.std.specs.List.{list_any}
use Rattle.clap.specs.Faults.{fault_of}
use Rattle.clap.specs.Kinds.{Kinds}
use Rattle.clap.specs.declared.error.kind.ErrorKind.{ErrorKind}
use Rattle.aplsv_words.specs.CommandLine.{command_of}
use Rattle.aplsv_words.specs.Laws.{MeanNothing}
use Rattle.aplsv_words.specs.Meaning.{AreFine, Asked, AsksFor, Means, Say, Setting, Spell, Text, said_by}
use Rattle.aplsv_words.specs.Stray.{is_stray}
use Rattle.aplsv_words.specs.Table.{table}
use Rattle.aplsv_words.proofs.Getters.{spelled_are_taken}
use Rattle.aplsv_words.proofs.Parses.{strays_say_nothing}
use Rattle.aplsv_words.proofs.Walks.{no_kinds, words_are_a_table}

-- words that spell settings say what these do
pub say_by : (texts : List Text) (settings : List Setting) → Spell settings texts → AreFine table settings → Say texts (said_by settings)
say_by texts settings spelled fine = record { settings = settings; spelled = spelled; fine = fine; says = refl }

-- and mean what that asks for
pub means_by : (texts : List Text) (settings : List Setting) (asked : Asked) → Spell settings texts → AreFine table settings → AsksFor (said_by settings) asked → Means texts asked
means_by texts settings asked spelled fine asks = record { said = said_by settings; say = say_by texts settings spelled fine; asks = asks }

-- words at which the parser has a fault
pub faults_mean_nothing : (texts : List Text) (k : ErrorKind) (ks : Kinds) → fault_of (command_of table) texts ≡ k ∷ ks → MeanNothing texts
faults_mean_nothing texts k ks faults asked means = no_kinds k ks (sym faults ∙ spelled_are_taken table words_are_a_table texts means.say.settings means.say.spelled means.say.fine)

-- and words of which one is a stray one
pub a_stray_means_nothing : (texts : List Text) → list_any is_stray texts ≡ true → MeanNothing texts
a_stray_means_nothing texts stray asked means = strays_say_nothing texts means.said stray means.say
