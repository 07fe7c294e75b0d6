use Rattle.std.proofs.Common.{◌≡◌, ℕ, false, List, length, sym, subst, ◌∙◌}
use Rattle.apl_items.specs.Axis.{axis_of, lacks_axis}
use Rattle.apl_structure.proofs.ReverseLemmas.{reversed_is}
use Rattle.apl_structure.proofs.reversal.reverse.Goals as goal

pub returns-in_ok-reversed-clause-answer : goal.returns-in_ok-reversed-clause-answer
returns-in_ok-reversed-clause-answer c =
    let rank = c.shape-rank.ensures.value in
    let named : lacks_axis (length c.args.b.now.shape) c.args.axis ≡ false = subst (λ (xs : List ℕ). lacks_axis (length xs) c.args.axis ≡ false) rank (sym c.lacks_axis.ensures ∙ c.if-lacks_axis.false) in
    let used = subst (λ (xs : List ℕ). c.axis_of.result ≡ axis_of (length xs) c.args.way c.args.axis) rank c.axis_of.ensures.value in
    reversed_is c.args.b.now c.in_ok-reversed.field-0 c.args.way c.args.axis c.axis_of.result named used c.in_ok-reversed.ensures
