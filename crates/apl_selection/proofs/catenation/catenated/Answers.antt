use Rattle.std.proofs.Common.{◌≡◌, ℕ, List, is_some, refl, subst, sym, ap, ◌∙◌, arith}
use Rattle.std.proofs.lemmas.Result.{err_from_is_err_and}
use Rattle.apl_arrays.specs.declared.report.Fail.TheVariants as fail
use Rattle.apl_arrays.specs.Array.{item_count, plain_items}
use Rattle.apl_arrays.specs.Shape.{shape_fault}
use Rattle.apl_arrays.proofs.Shapes.{no_fault_fits}
use Rattle.apl_items.specs.Along.{source_count}
use Rattle.apl_items.specs.Extension.{Reaches}
use Rattle.apl_items.specs.Shapes.{split_at}
use Rattle.apl_selection.specs.Catenation.{catenate_faults, catenate_of, catenated, catenated_rank, span_of}
use Rattle.apl_selection.proofs.JoinLemmas.{count_of_join, join_fits, join_too_large, rank_of_join}
use Rattle.apl_selection.proofs.JoinShapeLemmas.{parts_reach}
use Rattle.apl_selection.proofs.FaultLemmas.{none_from, nothing_is_wrong}
use Rattle.apl_selection.proofs.MoveLemmas.{array_of}
use Rattle.apl_selection.proofs.WantLemmas.{array_is_ok, wanting_after}
use Rattle.apl_selection.proofs.catenation.catenated.Goals as goal

pub catenated_shape-axes-requires : goal.catenated_shape-axes-requires
catenated_shape-axes-requires c = c.catenated_axis-along.ensures.inside (nothing_is_wrong (catenate_faults c.args.a.now c.args.b.now c.args.axis) c.requires.none).index

pub catenated_items-requires-clause-axis : goal.catenated_items-requires-clause-axis
catenated_items-requires-clause-axis c =
    let inside = c.catenated_axis-along.ensures.inside (nothing_is_wrong (catenate_faults c.args.a.now c.args.b.now c.args.axis) c.requires.none).index in
    let rank = rank_of_join c.args.a.now c.args.b.now c.catenated_axis-along.result c.as_slice-shape.result.now (c.as_slice-shape.ensures.value ∙ c.catenated_shape-axes.ensures) in
    omega (arith, inside, rank)

pub catenated_items-requires-clause-a_reaches : goal.catenated_items-requires-clause-a_reaches
catenated_items-requires-clause-a_reaches c =
    let a = c.args.a.now in let b = c.args.b.now in let along = c.catenated_axis-along.result in
    let inside = c.catenated_axis-along.ensures.inside (nothing_is_wrong (catenate_faults a b c.args.axis) c.requires.none).index in
    subst (λ (xs : List ℕ). Reaches (item_count a.items) (source_count (split_at xs along) (span_of a.shape (catenated_rank a b) along))) (sym (c.as_slice-shape.ensures.value ∙ c.catenated_shape-axes.ensures))
    (parts_reach a b c.args.axis along c.requires.left c.requires.right c.requires.none c.catenated_axis-along.ensures.value inside).left

pub catenated_items-requires-clause-b_reaches : goal.catenated_items-requires-clause-b_reaches
catenated_items-requires-clause-b_reaches c =
    let a = c.args.a.now in let b = c.args.b.now in let along = c.catenated_axis-along.result in
    let inside = c.catenated_axis-along.ensures.inside (nothing_is_wrong (catenate_faults a b c.args.axis) c.requires.none).index in
    subst (λ (xs : List ℕ). Reaches (item_count b.items) (source_count (split_at xs along) (span_of b.shape (catenated_rank a b) along))) (sym (c.as_slice-shape.ensures.value ∙ c.catenated_shape-axes.ensures))
    (parts_reach a b c.args.axis along c.requires.left c.requires.right c.requires.none c.catenated_axis-along.ensures.value inside).right

pub catenated_items-requires-clause-kinds : goal.catenated_items-requires-clause-kinds
catenated_items-requires-clause-kinds c = (nothing_is_wrong (catenate_faults c.args.a.now c.args.b.now c.args.axis) c.requires.none).domain

pub shaped-requires-clause-whole : goal.shaped-requires-clause-whole
shaped-requires-clause-whole c =
    count_of_join c.args.a.now c.args.b.now c.catenated_axis-along.result c.as_slice-shape.result.now (plain_items c.in_ok-items.items) (c.as_slice-shape.ensures.value ∙ c.catenated_shape-axes.ensures) c.in_ok-items.ensures

pub returns-then-is_some : goal.returns-then-is_some
returns-then-is_some c =
    join_too_large c.args.a.now c.args.b.now c.args.axis c.catenated_axis-along.result c.as_slice-shape.result.now c.requires.none c.catenated_axis-along.ensures.value
    (c.as_slice-shape.ensures.value ∙ c.catenated_shape-axes.ensures) (ap is_some (sym c.shape_fault.ensures) ∙ sym c.is_some.ensures ∙ c.if-is_some.true)

pub returns : goal.returns
returns c =
    join_fits c.args.a.now c.args.b.now c.args.axis c.catenated_axis-along.result c.as_slice-shape.result.now c.in_ok-shaped.field-0 c.requires.none c.catenated_axis-along.ensures.value
    (c.as_slice-shape.ensures.value ∙ c.catenated_shape-axes.ensures) (ap is_some (sym c.shape_fault.ensures) ∙ sym c.is_some.ensures ∙ c.if-is_some.false)
    (c.in_ok-shaped.ensures.array ∙ ap (array_of c.as_slice-shape.result.now) c.in_ok-items.ensures)

pub catenated_items-requires-clause-fits : goal.catenated_items-requires-clause-fits
catenated_items-requires-clause-fits c =
    no_fault_fits c.as_slice-shape.result.now (none_from (shape_fault c.as_slice-shape.result.now) (ap is_some (sym c.shape_fault.ensures) ∙ sym c.is_some.ensures ∙ c.if-is_some.false))

pub shaped-requires-clause-fits : goal.shaped-requires-clause-fits
shaped-requires-clause-fits c =
    no_fault_fits c.as_slice-shape.result.now (none_from (shape_fault c.as_slice-shape.result.now) (ap is_some (sym c.shape_fault.ensures) ∙ sym c.is_some.ensures ∙ c.if-is_some.false))

pub returns-in_err-items : goal.returns-in_err-items
returns-in_err-items c =
    let a = c.args.a.now in let b = c.args.b.now in
    let along = c.catenated_axis-along.result in
    let shape = c.as_slice-shape.result.now in
    let p = err_from_is_err_and c.from_residual.result c.from_residual.ensures.1 in
    let same : p.0 ≡ fail.WantOfMemory = cc p.2 in
    wanting_after c.from_residual.result p.0 (catenate_of a b c.args.axis) p.1 same
    (array_is_ok (catenate_of a b c.args.axis) (array_of shape (catenated a b along).items)
    (join_fits a b c.args.axis along shape (array_of shape (catenated a b along).items) c.requires.none c.catenated_axis-along.ensures.value (c.as_slice-shape.ensures.value ∙ c.catenated_shape-axes.ensures)
    (ap is_some (sym c.shape_fault.ensures) ∙ sym c.is_some.ensures ∙ c.if-is_some.false) refl))

pub returns-in_err-shaped : goal.returns-in_err-shaped
returns-in_err-shaped c =
    let a = c.args.a.now in let b = c.args.b.now in
    let along = c.catenated_axis-along.result in
    let shape = c.as_slice-shape.result.now in
    let p = err_from_is_err_and c.from_residual-in_err-shaped.result c.from_residual-in_err-shaped.ensures.1 in
    let same : p.0 ≡ fail.WantOfMemory = cc p.2 in
    wanting_after c.from_residual-in_err-shaped.result p.0 (catenate_of a b c.args.axis) p.1 same
    (array_is_ok (catenate_of a b c.args.axis) (array_of shape (catenated a b along).items)
    (join_fits a b c.args.axis along shape (array_of shape (catenated a b along).items) c.requires.none c.catenated_axis-along.ensures.value (c.as_slice-shape.ensures.value ∙ c.catenated_shape-axes.ensures)
    (ap is_some (sym c.shape_fault.ensures) ∙ sym c.is_some.ensures ∙ c.if-is_some.false) refl))
