use Rattle.std.proofs.Common.{◌≡◌, ◌∙◌, List, ℕ, get_or, rules, sym, ap, subst, arith}
use Rattle.std.proofs.lemmas.Grind.{common_steps}
use Rattle.apl_arrays.specs.Array.{FitsLimits}
use Rattle.apl_items.specs.Axis.{without}
use Rattle.apl_operators.proofs.LineLemmas.{shape_without, without_fits, without_items}
use Rattle.apl_operators.proofs.reducing.reduced_along.Goals as goal

pub returns-then-axes-axis-eq0 : goal.returns-then-axes-axis-eq0
returns-then-axes-axis-eq0 c =
    let shape : c.as_slice.result.now ≡ without c.args.axis c.args.b.now.shape = first_of (search rules, grind (arith, common_steps), grind (arith, common_steps, shape_without)) in
    let none : get_or c.args.b.now.shape c.args.axis 0 ≡ 0 = ap (λ (s : List ℕ). get_or s c.args.axis 0) (sym c.shape-axes.ensures.value) ∙ c.if-axes-axis-eq0.true in
    without_items c.args.f c.args.b.now c.args.axis c.as_slice.result.now c.identities.result none shape c.identities.ensures

pub reduced_lines-requires-clause-fits : goal.reduced_lines-requires-clause-fits
reduced_lines-requires-clause-fits c =
    let shape : c.as_slice-else-axes-axis-eq0.result.now ≡ without c.args.axis c.args.b.now.shape = first_of (search rules, grind (arith, common_steps), grind (arith, common_steps, shape_without)) in
    let same : get_or c.shape-axes.result.now c.args.axis 0 ≡ get_or c.args.b.now.shape c.args.axis 0 = ap (λ (s : List ℕ). get_or s c.args.axis 0) c.shape-axes.ensures.value in
    subst FitsLimits (sym shape) (without_fits c.args.axis c.args.b.now.shape c.shape-axes.ensures.array.fits c.requires (omega (arith, same)))
