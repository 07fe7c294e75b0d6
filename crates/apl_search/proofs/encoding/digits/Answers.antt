use Rattle.std.proofs.Common.{◌≡◌, ℕ, length, subst, ◌∙◌, arith}
use Rattle.apl_search.specs.Encode.{AreBefore}
use Rattle.apl_search.proofs.DigitLemmas.{columns_made}
use Rattle.apl_search.proofs.encoding.digits.Goals as goal

pub returns-clause-items : goal.returns-clause-items
returns-clause-items c =
    let done : c.loop-column.column ≡ length c.args.numbers.now = omega arith in
    c.from.ensures ∙ columns_made c.args.bases.now c.args.numbers.now c.loop-column.digits.items c.loop-column.invariant.len c.requires.all
    (subst (λ (k : ℕ). AreBefore c.args.bases.now c.args.numbers.now c.loop-column.digits.items k) done c.loop-column.invariant.items)
