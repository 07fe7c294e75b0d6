use Rattle.std.proofs.Common.{sym, ◌∙◌}
use Rattle.apl_search.proofs.DigitLemmas.{lacks_by_least, none_lacks_without_least}
use Rattle.apl_search.proofs.encoding.lacks_digit.Goals as goal

pub returns-then-contains : goal.returns-then-contains
returns-then-contains c =
    c.least_lacks.ensures ∙ lacks_by_least c.args.bases.now c.args.numbers.now c.read_all.ensures c.read_all-2.ensures (sym c.contains.ensures.value ∙ c.if-contains.true)

pub returns-else-contains : goal.returns-else-contains
returns-else-contains c =
    c.if-contains.false ∙ none_lacks_without_least c.args.bases.now c.args.numbers.now c.read_all.ensures c.read_all-2.ensures (sym c.contains.ensures.value ∙ c.if-contains.false)
