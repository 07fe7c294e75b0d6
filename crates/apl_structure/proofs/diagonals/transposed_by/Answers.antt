use Rattle.std.proofs.Common.{ℤ, List, length, subst, sym, ap, ◌∙◌}
use Rattle.apl_arrays.specs.Array.{FitsLimits, numbers_in}
use Rattle.apl_structure.specs.Diagonals.{axes_named, diagonal_shape}
use Rattle.apl_structure.proofs.DiagonalLemmas.{are_axes}
use Rattle.apl_structure.proofs.DiagonalSizes.{diagonal_fits}
use Rattle.apl_structure.proofs.diagonals.transposed_by.Goals as goal

pub moved_by-requires-clause-rank : goal.moved_by-requires-clause-rank
moved_by-requires-clause-rank c = ap (λ (xs : List ℤ). length xs) c.numbers-numbers.ensures ∙ (are_axes c.args.a.now c.args.b.now c.requires).many

pub moved_by-requires-clause-fits : goal.moved_by-requires-clause-fits
moved_by-requires-clause-fits c =
    let numbers : List ℤ = numbers_in c.args.a.now.items in
    subst FitsLimits
    (sym (c.as_slice.ensures.value ∙ c.in_ok-axes.ensures ∙ ap (λ (xs : List ℤ). diagonal_shape (axes_named xs) c.shape.result.now) c.numbers-numbers.ensures ∙ ap (diagonal_shape (axes_named numbers)) c.shape.ensures.value))
    (diagonal_fits numbers c.args.b.now.shape c.shape.ensures.array.fits (are_axes c.args.a.now c.args.b.now c.requires))
