-- What a parse tells of what words say.
use Rattle.std.proofs.Common.{◌≡◌, true, false, List, [], sym, ap, subst, ◌∙◌, inl, inr, codes}
use Rattle.std.specs.List.{list_any}
use Rattle.std.proofs.lemmas.Bool.{both_ways}
use Rattle.clap.specs.Faults.{fault_of, is_simple_and_free}
use Rattle.clap.specs.Kinds.{HasKind, IsAmong}
use Rattle.clap.specs.Matches.{first_value, found_of, one_text}
use Rattle.clap.specs.Simple.{App, HasMatchesOf}
use Rattle.clap.specs.Values.{kind_of}
use Rattle.clap.specs.declared.error.Error.{Error}
use Rattle.clap.specs.declared.parser.matches.ArgMatches.{ArgMatches}
use Rattle.aplsv_words.specs.CommandLine.{IsFlagOf, command_of, refusal_of}
use Rattle.aplsv_words.specs.Table.{Word, table}
use Rattle.aplsv_words.specs.Meaning.{AreFine, Said, Say, Setting, Spell, Text, said_in}
use Rattle.aplsv_words.specs.Stray.{is_stray}
use Rattle.aplsv_words.specs.declared.written.Written.{Written}
use Rattle.aplsv_words.specs.declared.words.WordsRefused.TheVariants as refused
use Rattle.aplsv_words.proofs.Getters.{one_meaning, read_is_said, spelled_are_taken, taken_is_free}
use Rattle.aplsv_words.proofs.Lexing.{spelled_strays_not}
use Rattle.aplsv_words.proofs.Readings.{read_are_spelled}
use Rattle.aplsv_words.proofs.Walks.{IsTable, words_are_a_table}

-- words of which one is a stray one spell nothing
pub strays_spell_nothing : (words : List Word) → IsTable words → (texts : List Text) (settings : List Setting) → list_any is_stray texts ≡ true → Spell settings texts → AreFine words settings → ⊥
strays_spell_nothing words t texts settings stray spelled fine = both_ways (list_any is_stray texts) (spelled_strays_not words t.names settings texts fine.known spelled) stray

-- and say nothing
pub strays_say_nothing : (texts : List Text) (said : Said) → list_any is_stray texts ≡ true → Say texts said → ⊥
strays_say_nothing texts said stray say = strays_spell_nothing table words_are_a_table texts say.settings stray say.spelled say.fine

-- words say one thing
pub said_once : (texts : List Text) (said other : Said) → Say texts said → Say texts other → said ≡ other
said_once texts said other one another =
    sym one.says ∙ (one_meaning texts one.settings another.settings one.spelled one.fine another.spelled another.fine ∙ another.says)

module _ (words : List Word) (t : IsTable words) (app : App) (is : app ≡ command_of words) (texts : List Text) where
  -- the parser tells its faults
  simple : is_simple_and_free app ≡ true
  simple = ap is_simple_and_free is ∙ t.free

  -- words that it takes spell settings
  pub taken_spell : list_any is_stray texts ≡ false → (is_simple_and_free app ≡ true → fault_of app texts ≡ []) → (settings : List Setting) × Spell settings texts × AreFine words settings
  taken_spell fit free = read_are_spelled words texts fit (taken_is_free words t texts (subst (λ (a : App). fault_of a texts ≡ []) is (free simple)))

  -- where words spell settings a parse fails for want of memory alone
  pub spelling_fails_for_memory : (e : Error) → (is_simple_and_free app ≡ true → HasKind (fault_of app texts) e) → (settings : List Setting) → Spell settings texts → AreFine words settings → refusal_of (kind_of e) ≡ refused.WantOfMemory
  spelling_fails_for_memory e fails settings spelled fine = by (subst (λ (a : App). HasKind (fault_of a texts) e) is (fails simple)) where
    by : HasKind (fault_of (command_of words) texts) e → refusal_of (kind_of e) ≡ refused.WantOfMemory
    by (inl memory) = ap refusal_of memory
    by (inr among) = absurd (subst (IsAmong (kind_of e)) (spelled_are_taken words t texts settings spelled fine) among)

module _ (app : App) (is : app ≡ command_of table) (texts : List Text) where
  module _ (m : ArgMatches) (written : Written) (fit : list_any is_stray texts ≡ false) (has : HasMatchesOf app texts m) (free : is_simple_and_free app ≡ true → fault_of app texts ≡ [])
      (replay : IsFlagOf (one_text (found_of m) (codes "replay")) written.replay) (workers : (said_in written).workers ≡ first_value (found_of m) (codes "workers")) (library : (said_in written).library ≡ first_value (found_of m) (codes "library"))
      (text : (said_in written).text ≡ first_value (found_of m) (codes "text")) (clock : IsFlagOf (one_text (found_of m) (codes "clock")) written.clock)
      (load : (said_in written).load ≡ first_value (found_of m) (codes "load"))
      (components : IsFlagOf (one_text (found_of m) (codes "components")) written.components) (relay : IsFlagOf (one_text (found_of m) (codes "relay")) written.relay) where
    -- what is read of a parse is what the words say
    pub read_is_what_words_say : Say texts (said_in written)
    read_is_what_words_say =
        let read = taken_spell table words_are_a_table app is texts fit free in
        record {
          settings = read.0;
          spelled = read.1;
          fine = read.2;
          says = read_is_said m written texts read.0 (subst (λ (a : App). HasMatchesOf a texts m) is has) read.1 read.2 replay workers library text clock load components relay;
        }

    pub read_is_all_that_is_said : (said : Said) → Say texts said → said_in written ≡ said
    read_is_all_that_is_said said say = said_once texts (said_in written) said read_is_what_words_say say

  module _ (e : Error) (fails : is_simple_and_free app ≡ true → HasKind (fault_of app texts) e) where
    -- where words say something a parse fails for want of memory alone
    pub saying_fails_for_memory : (said : Said) → Say texts said → refusal_of (kind_of e) ≡ refused.WantOfMemory
    saying_fails_for_memory said say = spelling_fails_for_memory table words_are_a_table app is texts e fails say.settings say.spelled say.fine

    pub refused_says_nothing : refusal_of (kind_of e) ≡ refused.Usage → (said : Said) → ¬ Say texts said
    refused_says_nothing usage said say = let memory = saying_fails_for_memory said say in absurd cc
