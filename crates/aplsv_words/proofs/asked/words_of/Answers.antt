use Rattle.std.proofs.Common.{◌≡◌, ap, map, string_bytes}
use Rattle.std.specs.Prelude.{IfErr, IfOk, IsErrOf, MatchResult}
use Rattle.std.specs.declared.result.Result.{Result}
use Rattle.std.specs.declared.result.Result.TheVariants.{Err, Ok}
use Rattle.aplsv_words.specs.Meaning.{Asked, AsksFor, Said, asked_by, said_in}
use Rattle.aplsv_words.specs.declared.words.Words.{Words}
use Rattle.aplsv_words.specs.declared.words.WordsRefused.{WordsRefused}
use Rattle.aplsv_words.specs.declared.words.WordsRefused.TheVariants as refused
use Rattle.aplsv_words.proofs.Counts.{asked_once, means_is_asked}
use Rattle.aplsv_words.proofs.asked.words_of.Goals as goal

none_asked : {X : Type 0} (r : Result Words WordsRefused) (why : WordsRefused) → IfErr r (λ _. X) → IsErrOf r why → X
none_asked (Ok words) why none is = absurd (cc is)
none_asked (Err refused) why none is = none

all_asked : (r : Result Words WordsRefused) (said : Said) (asked : Asked) → IfOk r (λ words. AsksFor said (asked_by words)) → IfErr r (λ _. (other : Asked) → ¬ AsksFor said other) → AsksFor said asked
    → MatchResult r (λ words. asked_by words ≡ asked) (λ why. why ≡ refused.WantOfMemory)
all_asked (Ok words) said asked read none asks = asked_once said (asked_by words) asked read asks
all_asked (Err why) said asked read none asks = absurd (none asked asks)

pub returns-in-Ok-clause-usage : goal.returns-in-Ok-clause-usage
returns-in-Ok-clause-usage c = λ usage asked means.
    none_asked c.words_by.result refused.Usage c.words_by.ensures.none usage asked (means_is_asked (map string_bytes c.args.args.now) (said_in c.in-Ok.written) c.in-Ok.ensures.says asked means)

pub returns-in-Ok-clause-only : goal.returns-in-Ok-clause-only
returns-in-Ok-clause-only c = λ asked means.
    all_asked c.words_by.result (said_in c.in-Ok.written) asked c.words_by.ensures.asks c.words_by.ensures.none
    (means_is_asked (map string_bytes c.args.args.now) (said_in c.in-Ok.written) c.in-Ok.ensures.says asked means)

pub returns-in-Err-clause-usage : goal.returns-in-Err-clause-usage
returns-in-Err-clause-usage c = λ usage asked means.
    let same : c.in-Err.refused ≡ refused.Usage = cc usage in
    c.in-Err.ensures.usage (ap (λ (why : WordsRefused). Err why) same) means.said means.say

pub returns-in-Err-clause-only : goal.returns-in-Err-clause-only
returns-in-Err-clause-only c = λ asked means. c.in-Err.ensures.only means.said means.say
