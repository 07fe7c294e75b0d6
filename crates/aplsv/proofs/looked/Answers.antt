use Rattle.std.proofs.Common.{map, string_bytes, sym, subst}
use Rattle.aplsv_words.specs.Looks.{MeanToLook}
use Rattle.aplsv.proofs.looked.Goals as goal

pub returns-clause-causes : goal.returns-clause-causes
returns-clause-causes g c = λ look means.
    c.aplsv_look_words.ensures.causes look (subst (λ words. MeanToLook (map string_bytes words) look) (sym c.behind_name.ensures) means)

pub returns-clause-usage : goal.returns-clause-usage
returns-clause-usage g c = λ is look means.
    c.aplsv_look_words.ensures.usage is look (subst (λ words. MeanToLook (map string_bytes words) look) (sym c.behind_name.ensures) means)

pub returns-clause-meaningless : goal.returns-clause-meaningless
returns-clause-meaningless g c = λ none.
    c.aplsv_look_words.ensures.meaningless (λ look means. none look (subst (λ words. MeanToLook (map string_bytes words) look) c.behind_name.ensures means))

pub returns-clause-unread : goal.returns-clause-unread
returns-clause-unread g c = λ none.
    c.aplsv_look_words.ensures.unread (λ look means. none look (subst (λ words. MeanToLook (map string_bytes words) look) c.behind_name.ensures means))

pub returns-clause-complete : goal.returns-clause-complete
returns-clause-complete g c = λ look means.
    c.aplsv_look_words.ensures.complete look (subst (λ words. MeanToLook (map string_bytes words) look) (sym c.behind_name.ensures) means)
