use Rattle.std.proofs.Common.{map, string_bytes, sym, subst}
use Rattle.aplsv_words.specs.Meaning.{Means}
use Rattle.aplsv_top.specs.Words.{HaveMeaning}
use Rattle.aplsv.proofs.run.Goals as goal

pub returns-clause-load : goal.returns-clause-load
returns-clause-load g c = λ asked means.
    c.aplsv.ensures.load asked (subst (λ words. Means (map string_bytes words) asked) (sym c.behind_name.ensures) means)

pub returns-clause-causes : goal.returns-clause-causes
returns-clause-causes g c = λ asked means.
    c.aplsv.ensures.causes asked (subst (λ words. Means (map string_bytes words) asked) (sym c.behind_name.ensures) means)

pub returns-clause-usage : goal.returns-clause-usage
returns-clause-usage g c = λ is ask.
    c.aplsv.ensures.usage is (subst (λ words. HaveMeaning (map string_bytes words)) (sym c.behind_name.ensures) ask)

pub returns-clause-meaningless : goal.returns-clause-meaningless
returns-clause-meaningless g c = λ none.
    c.aplsv.ensures.meaningless (λ ask. none (subst (λ words. HaveMeaning (map string_bytes words)) c.behind_name.ensures ask))

pub returns-clause-complete : goal.returns-clause-complete
returns-clause-complete g c = λ ask.
    c.aplsv.ensures.complete (subst (λ words. HaveMeaning (map string_bytes words)) (sym c.behind_name.ensures) ask)

pub returns-clause-unread : goal.returns-clause-unread
returns-clause-unread g c = λ none.
    c.aplsv.ensures.unread (λ ask. none (subst (λ words. HaveMeaning (map string_bytes words)) c.behind_name.ensures ask))

pub returns-clause-refused : goal.returns-clause-refused
returns-clause-refused g c = λ is. c.aplsv.ensures.unread (c.aplsv.ensures.usage is)
