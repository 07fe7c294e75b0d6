use Rattle.std.proofs.Common.{arith}
use Rattle.apl_items.proofs.ShapeLemmas.{parts_fit}
use Rattle.apl_selection.proofs.strides.stride_at.Goals as goal

pub overflow_cast-result : goal.overflow_cast-result
overflow_cast-result c =
    let parts = parts_fit c.args.shape.now c.args.axis c.requires.fits c.requires.elements c.requires.axis in
    rw c.at.ensures (omega (arith, parts.1.elements))
