use Rattle.std.proofs.Common.{◌≡◌, ◌≤◌, ℤ, List, is_some, length, refl, subst, sym, ap, ◌∙◌}
use Rattle.std.proofs.lemmas.Result.{err_from_is_err_and}
use Rattle.apl_arrays.specs.declared.report.Fail.TheVariants as fail
use Rattle.apl_arrays.specs.Array.{FitsLimits, element_count, item_count, seen_items}
use Rattle.apl_arrays.specs.Shape.{shape_fault}
use Rattle.apl_selection.proofs.WantLemmas.{array_is_ok, wanting_after}
use Rattle.apl_structure.specs.Lengths.{lengths}
use Rattle.apl_structure.specs.Taking.{take_of, taken}
use Rattle.apl_structure.proofs.LengthLemmas.{lengths_that_fit}
use Rattle.apl_structure.proofs.TakeLemmas.{few_taken, source_fits, source_of, take_fits, take_too_large, taken_is}
use Rattle.apl_structure.proofs.taking.taken.Goals as goal

pub returns-then-pass_limits : goal.returns-then-pass_limits
returns-then-pass_limits c =
    take_too_large c.args.a.now c.args.b.now c.pass_limits.result c.requires
    (c.pass_limits.ensures ∙ ap (λ (xs : List ℤ). is_some (shape_fault (lengths xs))) c.numbers-numbers.ensures) c.if-pass_limits.true

pub taken_items-requires-clause-source : goal.taken_items-requires-clause-source
taken_items-requires-clause-source c =
    let source_is = source_of c.args.a.now c.args.b.now c.len.result c.as_slice-source.result.now (c.len.ensures ∙ ap item_count c.items.ensures.value) (c.as_slice-source.ensures.value ∙ c.in_ok-axes.ensures) in
    subst FitsLimits (sym source_is) (source_fits c.args.a.now c.args.b.now c.items-items.ensures.array c.requires).0

pub taken_items-requires-clause-whole : goal.taken_items-requires-clause-whole
taken_items-requires-clause-whole c =
    let source_is = source_of c.args.a.now c.args.b.now c.len.result c.as_slice-source.result.now (c.len.ensures ∙ ap item_count c.items.ensures.value) (c.as_slice-source.ensures.value ∙ c.in_ok-axes.ensures) in
    ap element_count source_is ∙ (source_fits c.args.a.now c.args.b.now c.items-items.ensures.array c.requires).1 ∙ sym (ap item_count c.items-items.ensures.value)

pub taken_items-requires-clause-fits : goal.taken_items-requires-clause-fits
taken_items-requires-clause-fits c =
    (lengths_that_fit c.numbers-numbers.result.now c.as_slice-shape.result.now (c.as_slice-shape.ensures.value ∙ c.capped-lengths.ensures) (sym c.pass_limits.ensures ∙ c.if-pass_limits.false)).1

pub taken_items-requires-clause-shape : goal.taken_items-requires-clause-shape
taken_items-requires-clause-shape c =
    (lengths_that_fit c.numbers-numbers.result.now c.as_slice-shape.result.now (c.as_slice-shape.ensures.value ∙ c.capped-lengths.ensures) (sym c.pass_limits.ensures ∙ c.if-pass_limits.false)).0

pub returns : goal.returns
returns c =
    let a = c.args.a.now in let b = c.args.b.now in
    let source_is = source_of a b c.len.result c.as_slice-source.result.now (c.len.ensures ∙ ap item_count c.items.ensures.value) (c.as_slice-source.ensures.value ∙ c.in_ok-axes.ensures) in
    let fit = lengths_that_fit c.numbers-numbers.result.now c.as_slice-shape.result.now (c.as_slice-shape.ensures.value ∙ c.capped-lengths.ensures) (sym c.pass_limits.ensures ∙ c.if-pass_limits.false) in
    let shape_is = fit.0 ∙ ap lengths c.numbers-numbers.ensures in
    take_fits a b c.in_ok-taken_items.field-0 c.pass_limits.result c.requires
    (c.pass_limits.ensures ∙ ap (λ (xs : List ℤ). is_some (shape_fault (lengths xs))) c.numbers-numbers.ensures) c.if-pass_limits.false
    (c.in_ok-taken_items.ensures
    ∙ taken_is a b c.numbers-numbers.result.now c.as_slice-source.result.now c.as_slice-shape.result.now (seen_items c.items-items.result) c.numbers-numbers.ensures source_is shape_is c.items-items.ensures.value)

pub capped-lengths-requires : goal.capped-lengths-requires
capped-lengths-requires c = subst (λ (xs : List ℤ). length xs ≤ 8) (sym c.numbers-numbers.ensures) (few_taken c.args.a.now c.args.b.now c.items-items.ensures.array c.requires)

pub returns-in_err-axes : goal.returns-in_err-axes
returns-in_err-axes c =
    let a = c.args.a.now in
    let b = c.args.b.now in
    let p = err_from_is_err_and c.from_residual.result c.from_residual.ensures.1 in
    let same : p.0 ≡ fail.WantOfMemory = cc p.2 in
    wanting_after c.from_residual.result p.0 (take_of a b) p.1 same
    (array_is_ok (take_of a b) (taken a b)
    (take_fits a b (taken a b) c.pass_limits.result c.requires (c.pass_limits.ensures ∙ ap (λ (xs : List ℤ). is_some (shape_fault (lengths xs))) c.numbers-numbers.ensures) c.if-pass_limits.false refl))

pub returns-in_err-taken_items : goal.returns-in_err-taken_items
returns-in_err-taken_items c =
    let a = c.args.a.now in
    let b = c.args.b.now in
    let p = err_from_is_err_and c.from_residual-in_err-taken_items.result c.from_residual-in_err-taken_items.ensures.1 in
    let same : p.0 ≡ fail.WantOfMemory = cc p.2 in
    wanting_after c.from_residual-in_err-taken_items.result p.0 (take_of a b) p.1 same
    (array_is_ok (take_of a b) (taken a b)
    (take_fits a b (taken a b) c.pass_limits.result c.requires (c.pass_limits.ensures ∙ ap (λ (xs : List ℤ). is_some (shape_fault (lengths xs))) c.numbers-numbers.ensures) c.if-pass_limits.false refl))
