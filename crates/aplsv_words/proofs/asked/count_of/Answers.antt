use Rattle.std.proofs.Common.{◌≡◌, ◌≤◌, arith, get_or, subst, sym}
use Rattle.std.proofs.lemmas.Option.{get_or_from_slice_get}
use Rattle.aplsv_words.specs.Meaning.{NoCount, Text}
use Rattle.aplsv_words.proofs.Counts.{low_counts_not, nothing_there}
use Rattle.aplsv_words.proofs.asked.count_of.Goals as goal

pub returns-else-first-gt48 : goal.returns-else-first-gt48
returns-else-first-gt48 c =
    let got : get_or c.as_bytes.result.now 0 0 ≡ c.in-Some.first.now = get_or_from_slice_get c.as_bytes.result.now 0 c.in-Some.first.now 0 (sym c.in-Some.ensures.value) in
    low_counts_not c.args.most (omega (arith, c.requires)) c.args.text.now (subst (λ (text : Text). get_or text 0 0 ≤ 48) c.as_bytes.ensures.value (omega (arith, got, c.if-first-gt48.false)))

pub returns-in-None : goal.returns-in-None
returns-in-None c = subst (NoCount c.args.most) c.as_bytes.ensures.value (nothing_there c.args.most (omega (arith, c.requires)) c.as_bytes.result.now (sym c.in-None.ensures.value))
