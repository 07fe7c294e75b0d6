use Rattle.std.proofs.Common.{map, string_bytes, sym, subst}
use Rattle.aplsv_top.specs.Checks.{AskCheck}
use Rattle.aplsv.proofs.checked.Goals as goal

pub returns-clause-causes : goal.returns-clause-causes
returns-clause-causes g c = λ ask. c.aplsv_check_words.ensures.causes (subst (λ words. AskCheck (map string_bytes words)) (sym c.behind_name.ensures) ask)

pub returns-clause-usage : goal.returns-clause-usage
returns-clause-usage g c = (
  λ is ask. c.aplsv_check_words.ensures.usage.0 is (subst (λ words. AskCheck (map string_bytes words)) (sym c.behind_name.ensures) ask),
  λ none. c.aplsv_check_words.ensures.usage.1 (λ ask. none (subst (λ words. AskCheck (map string_bytes words)) c.behind_name.ensures ask)),
)

pub returns-clause-unread : goal.returns-clause-unread
returns-clause-unread g c = λ is. (c.aplsv_check_words.ensures.unread (c.aplsv_check_words.ensures.usage.0 is)).0

pub returns-clause-complete : goal.returns-clause-complete
returns-clause-complete g c = λ ask. c.aplsv_check_words.ensures.complete (subst (λ words. AskCheck (map string_bytes words)) (sym c.behind_name.ensures) ask)
