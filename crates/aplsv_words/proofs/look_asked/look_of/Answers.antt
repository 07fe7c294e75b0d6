use Rattle.std.proofs.Common.{◌≡◌, ap, map, string_bytes}
use Rattle.std.specs.Prelude.{IfErr, IfOk, IsErrOf, MatchResult}
use Rattle.std.specs.declared.result.Result.{Result}
use Rattle.std.specs.declared.result.Result.TheVariants.{Err, Ok}
use Rattle.aplsv_words.specs.Looks.{AsksToLook, LookSaid, look_said_in}
use Rattle.aplsv_words.specs.declared.look.Look.{Look}
use Rattle.aplsv_words.specs.declared.words.WordsRefused.{WordsRefused}
use Rattle.aplsv_words.specs.declared.words.WordsRefused.TheVariants as refused
use Rattle.aplsv_words.proofs.Looks.{asked_look_once, look_means_is_asked}
use Rattle.aplsv_words.proofs.look_asked.look_of.Goals as goal

none_asked : {X : Type 0} (r : Result Look WordsRefused) (why : WordsRefused) → IfErr r (λ _. X) → IsErrOf r why → X
none_asked (Ok look) why none is = absurd (cc is)
none_asked (Err refused) why none is = none

all_asked : (r : Result Look WordsRefused) (said : LookSaid) (look : Look) → IfOk r (λ read. AsksToLook said read) → IfErr r (λ _. (other : Look) → ¬ AsksToLook said other) → AsksToLook said look
    → MatchResult r (λ read. read ≡ look) (λ why. why ≡ refused.WantOfMemory)
all_asked (Ok read) said look asked none asks = asked_look_once said read look asked asks
all_asked (Err why) said look asked none asks = absurd (none look asks)

pub returns-in-Ok-clause-usage : goal.returns-in-Ok-clause-usage
returns-in-Ok-clause-usage c = λ usage look means.
    none_asked c.look_by.result refused.Usage c.look_by.ensures.none usage look (look_means_is_asked (map string_bytes c.args.args.now) (look_said_in c.in-Ok.written) c.in-Ok.ensures.says look means)

pub returns-in-Ok-clause-only : goal.returns-in-Ok-clause-only
returns-in-Ok-clause-only c = λ look means.
    all_asked c.look_by.result (look_said_in c.in-Ok.written) look c.look_by.ensures.asks c.look_by.ensures.none
    (look_means_is_asked (map string_bytes c.args.args.now) (look_said_in c.in-Ok.written) c.in-Ok.ensures.says look means)

pub returns-in-Err-clause-usage : goal.returns-in-Err-clause-usage
returns-in-Err-clause-usage c = λ usage look means.
    let same : c.in-Err.refused ≡ refused.Usage = cc usage in
    c.in-Err.ensures.usage (ap (λ (why : WordsRefused). Err why) same) means.said means.say

pub returns-in-Err-clause-only : goal.returns-in-Err-clause-only
returns-in-Err-clause-only c = λ look means. c.in-Err.ensures.only means.said means.say
