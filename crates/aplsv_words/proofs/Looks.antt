-- What a parse tells of the look that words ask for, and that they ask for one.
use Rattle.std.proofs.Common.{◌≡◌, ◌<◌, ◌^◌, ◌||◌, ◌∷◌, ◌∙◌, ℕ, Bool, true, false, List, [], Option, Some, None, is_some, codes, refl, sym, ap, ap₂, subst, arith}
use Rattle.std.specs.List.{list_any}
use Rattle.std.proofs.lemmas.Bool.{true≢false}
use Rattle.std.proofs.lemmas.Option.{none-some, same_Some}
use Rattle.clap.specs.Faults.{fault_of, is_simple_and_free}
use Rattle.clap.specs.Kinds.{HasKind, Kinds}
use Rattle.clap.specs.Matches.{first_value, found_of, one_text}
use Rattle.clap.specs.Simple.{App, HasMatchesOf}
use Rattle.clap.specs.Values.{kind_of}
use Rattle.clap.specs.declared.error.Error.{Error}
use Rattle.clap.specs.declared.error.kind.ErrorKind.{ErrorKind}
use Rattle.clap.specs.declared.parser.matches.ArgMatches.{ArgMatches}
use Rattle.aplsv_words.specs.CommandLine.{IsFlagOf, command_of, refusal_of}
use Rattle.aplsv_words.specs.Looks.{AsksToLook, LookSaid, MeanNoLook, MeanToLook, SayToLook, greatest_place, look_said_by, look_said_in}
use Rattle.aplsv_words.specs.Meaning.{AreFine, CountsAs, NoCount, NothingCounts, Setting, Spell, Text, has_setting, value_written_for}
use Rattle.aplsv_words.specs.Stray.{is_stray}
use Rattle.aplsv_words.specs.Table.{look_table}
use Rattle.aplsv_words.specs.declared.look.Look.{Look}
use Rattle.aplsv_words.specs.declared.look.Look.TheVariants.{Picture, Why}
use Rattle.aplsv_words.specs.declared.look_written.LookWritten.{LookWritten}
use Rattle.aplsv_words.specs.declared.words.WordsRefused.TheVariants as refused
use Rattle.aplsv_words.proofs.Counts.{counted_once, no_count_counts}
use Rattle.aplsv_words.proofs.Getters.{flag_read, same_flag, same_value, spelled_are_taken, value_read}
use Rattle.aplsv_words.proofs.Parses.{spelling_fails_for_memory, strays_spell_nothing, taken_spell}
use Rattle.aplsv_words.proofs.Walks.{looks_are_a_table, no_kinds}

-- ---- what is said

abbrev looks_as : Bool → Option Text → Option Text → Option Text → LookSaid
looks_as picture from to why = record { picture = picture; from = from; to = to; why = why }

looks_alike : (a b : Bool) (c d e f g h : Option Text) → a ≡ b → c ≡ d → e ≡ f → g ≡ h → looks_as a c e g ≡ looks_as b d f h
looks_alike a b c d e f g h p q r s = λ i. looks_as (p i) (q i) (r i) (s i)

-- words that spell two lists of settings say the same
one_look_said : (texts : List Text) (settings others : List Setting) → Spell settings texts → AreFine look_table settings → Spell others texts → AreFine look_table others → look_said_by settings ≡ look_said_by others
one_look_said texts settings others spelled fine spells good =
    let values = same_value look_table looks_are_a_table texts settings others spelled fine spells good in
    looks_alike (has_setting (codes "picture") settings) (has_setting (codes "picture") others) (value_written_for (codes "from") settings) (value_written_for (codes "from") others)
    (value_written_for (codes "to") settings) (value_written_for (codes "to") others) (value_written_for (codes "why") settings) (value_written_for (codes "why") others)
    (same_flag look_table looks_are_a_table texts settings others spelled fine spells good (codes "picture") refl) (values (codes "from") refl refl) (values (codes "to") refl refl) (values (codes "why") refl refl)

-- words say one thing
pub look_said_once : (texts : List Text) (said other : LookSaid) → SayToLook texts said → SayToLook texts other → said ≡ other
look_said_once texts said other one another =
    sym one.says ∙ (one_look_said texts one.settings another.settings one.spelled one.fine another.spelled another.fine ∙ another.says)

-- words of which one is a stray one say nothing
pub strays_say_no_look : (texts : List Text) (said : LookSaid) → list_any is_stray texts ≡ true → SayToLook texts said → ⊥
strays_say_no_look texts said stray say = strays_spell_nothing look_table looks_are_a_table texts say.settings stray say.spelled say.fine

module _ (app : App) (is : app ≡ command_of look_table) (texts : List Text) where
  module _ (m : ArgMatches) (written : LookWritten) (fit : list_any is_stray texts ≡ false) (has : HasMatchesOf app texts m) (free : is_simple_and_free app ≡ true → fault_of app texts ≡ [])
      (picture : IsFlagOf (one_text (found_of m) (codes "picture")) written.picture) (from : (look_said_in written).from ≡ first_value (found_of m) (codes "from"))
      (to : (look_said_in written).to ≡ first_value (found_of m) (codes "to")) (why : (look_said_in written).why ≡ first_value (found_of m) (codes "why")) where
    read_says : (settings : List Setting) → Spell settings texts → AreFine look_table settings → look_said_by settings ≡ look_said_in written
    read_says settings spelled fine =
        let matches = subst (λ (a : App). HasMatchesOf a texts m) is has in
        let values = value_read look_table looks_are_a_table texts settings spelled fine m matches in
        sym (looks_alike written.picture (has_setting (codes "picture") settings) (look_said_in written).from (value_written_for (codes "from") settings) (look_said_in written).to (value_written_for (codes "to") settings)
        (look_said_in written).why (value_written_for (codes "why") settings)
        (flag_read look_table looks_are_a_table texts settings spelled fine m matches (codes "picture") refl written.picture picture)
        (values (codes "from") refl refl (look_said_in written).from from) (values (codes "to") refl refl (look_said_in written).to to) (values (codes "why") refl refl (look_said_in written).why why))

    -- what is read of a parse is what the words say
    pub read_is_the_look_said : SayToLook texts (look_said_in written)
    read_is_the_look_said =
        let read = taken_spell look_table looks_are_a_table app is texts fit free in
        record { settings = read.0; spelled = read.1; fine = read.2; says = read_says read.0 read.1 read.2 }

    pub read_is_all_the_look : (said : LookSaid) → SayToLook texts said → look_said_in written ≡ said
    read_is_all_the_look said say = look_said_once texts (look_said_in written) said read_is_the_look_said say

  module _ (e : Error) (fails : is_simple_and_free app ≡ true → HasKind (fault_of app texts) e) where
    -- where words say something a parse fails for want of memory alone
    pub look_fails_for_memory : (said : LookSaid) → SayToLook texts said → refusal_of (kind_of e) ≡ refused.WantOfMemory
    look_fails_for_memory said say = spelling_fails_for_memory look_table looks_are_a_table app is texts e fails say.settings say.spelled say.fine

    pub refused_says_no_look : refusal_of (kind_of e) ≡ refused.Usage → (said : LookSaid) → ¬ SayToLook texts said
    refused_says_no_look usage said say = let memory = look_fails_for_memory said say in absurd cc

-- ---- what is asked for

-- places are told apart by their texts
pub places_fit : greatest_place < 2 ^ 64
places_fit = omega arith

same_place : (written : Option Text) (one other : Option ℕ) → CountsAs greatest_place written one → CountsAs greatest_place written other → one ≡ other
same_place = counted_once greatest_place places_fit

-- what is said asks for one look
pub asked_look_once : (said : LookSaid) (look other : Look) → AsksToLook said look → AsksToLook said other → look ≡ other
asked_look_once said (Picture from to) (Picture first last) a b = ap₂ (λ (one other : Option ℕ). Picture one other) (same_place said.from from first a.2 b.2) (same_place said.to to last a.3 b.3)
asked_look_once said (Picture from to) (Why place) a b = absurd (true≢false (sym a.0 ∙ b.0))
asked_look_once said (Why place) (Picture from to) a b = absurd (true≢false (sym b.0 ∙ a.0))
asked_look_once said (Why place) (Why other) a b = ap (λ (one : ℕ). Why one) (same_Some place other (same_place said.why (Some place) (Some other) a.3 b.3))

-- words have one meaning
pub look_means_once : (words : List Text) (look other : Look) → MeanToLook words look → MeanToLook words other → look ≡ other
look_means_once words look other one another =
    let same : one.said ≡ another.said = look_said_once words one.said another.said one.say another.say in
    asked_look_once another.said look other (subst (λ (said : LookSaid). AsksToLook said look) same one.asks) another.asks

-- what words mean is what they say asks for
pub look_means_is_asked : (words : List Text) (said : LookSaid) → SayToLook words said → (look : Look) → MeanToLook words look → AsksToLook said look
look_means_is_asked words said say look means = subst (λ (some : LookSaid). AsksToLook some look) (look_said_once words means.said said means.say say) means.asks

-- one thing beside a reason is asked for by no look
pub no_look_beside : (said : LookSaid) (text : Text) → said.why ≡ Some text → (said.picture || is_some said.from) || is_some said.to ≡ true → (look : Look) → ¬ AsksToLook said look
no_look_beside said text why beside (Picture from to) asks = none-some text (sym asks.1 ∙ why)
no_look_beside said text why beside (Why place) asks = true≢false (sym beside ∙ (λ i. (asks.0 i || is_some (asks.1 i)) || is_some (asks.2 i)))

-- nor is it by a reason for what is no place
pub no_look_at : (said : LookSaid) (text : Text) → said.why ≡ Some text → NoCount greatest_place text → (look : Look) → ¬ AsksToLook said look
no_look_at said text why none (Picture from to) asks = none-some text (sym asks.1 ∙ why)
no_look_at said text why none (Why place) asks = no_count_counts greatest_place text none (Some place) (subst (λ (o : Option Text). CountsAs greatest_place o (Some place)) why asks.3)

-- without a reason and a picture nothing is
pub no_look_without : (said : LookSaid) → said.why ≡ None → said.picture ≡ false → (look : Look) → ¬ AsksToLook said look
no_look_without said why picture (Picture from to) asks = true≢false (sym asks.0 ∙ picture)
no_look_without said why picture (Why place) asks = subst (λ (o : Option Text). CountsAs greatest_place o (Some place)) why asks.3

-- nor where a place of a picture is none
pub no_look_from : (said : LookSaid) → said.why ≡ None → NothingCounts greatest_place said.from → (look : Look) → ¬ AsksToLook said look
no_look_from said why none (Picture from to) asks = none from asks.2
no_look_from said why none (Why place) asks = subst (λ (o : Option Text). CountsAs greatest_place o (Some place)) why asks.3

pub no_look_to : (said : LookSaid) → said.why ≡ None → NothingCounts greatest_place said.to → (look : Look) → ¬ AsksToLook said look
no_look_to said why none (Picture from to) asks = none to asks.3
no_look_to said why none (Why place) asks = subst (λ (o : Option Text). CountsAs greatest_place o (Some place)) why asks.3

-- ---- words at work

-- words that spell settings mean what these ask for
pub looks_by : (texts : List Text) (settings : List Setting) (look : Look) → Spell settings texts → AreFine look_table settings → AsksToLook (look_said_by settings) look → MeanToLook texts look
looks_by texts settings look spelled fine asks = record { said = look_said_by settings; say = record { settings = settings; spelled = spelled; fine = fine; says = refl }; asks = asks }

-- and nothing where these ask for nothing
pub asks_no_look : (texts : List Text) (settings : List Setting) → Spell settings texts → AreFine look_table settings → ((look : Look) → ¬ AsksToLook (look_said_by settings) look) → MeanNoLook texts
asks_no_look texts settings spelled fine none look means =
    none look (look_means_is_asked texts (look_said_by settings) (record { settings = settings; spelled = spelled; fine = fine; says = refl }) look means)

-- words at which the parser has a fault
pub faults_mean_no_look : (texts : List Text) (k : ErrorKind) (ks : Kinds) → fault_of (command_of look_table) texts ≡ k ∷ ks → MeanNoLook texts
faults_mean_no_look texts k ks faults look means = no_kinds k ks (sym faults ∙ spelled_are_taken look_table looks_are_a_table texts means.say.settings means.say.spelled means.say.fine)
