use Rattle.std.proofs.Common.{◌≡◌, ◌∙◌, List, ℕ, false, length, sym, ap, arith}
use Rattle.apl_items.specs.Axis.{axis_of, lacks_axis}
use Rattle.apl_operators.proofs.LineLemmas.{along_an_axis}
use Rattle.apl_operators.proofs.reducing.reduce.Goals as goal

pub returns-else-rank-eq0 : goal.returns-else-rank-eq0
returns-else-rank-eq0 c =
    let rank : length c.shape-rank.result.now ≡ length c.args.b.now.shape = ap (λ (s : List ℕ). length s) c.shape-rank.ensures.value in
    let named : lacks_axis (length c.args.b.now.shape) c.args.axis ≡ false = ap (λ (n : ℕ). lacks_axis n c.args.axis) (sym rank) ∙ sym c.if-lacks_axis.ensures in
    along_an_axis c.args.f c.args.b.now c.args.way c.args.axis c.axis_of.result c.reduced_along.result named (omega (arith, rank))
    (c.axis_of.ensures.value ∙ ap (λ (n : ℕ). axis_of n c.args.way c.args.axis) rank) c.reduced_along.ensures
